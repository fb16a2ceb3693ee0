-- The pages of a fresh store.
use Rattle.std.proofs.Common.{◌≡◌, ℕ, refl, sym, ◌∙◌, ap}
use Rattle.rh_defs.specs.Memory.{Memory, fresh}

pages_of_fresh : (n : ℕ) → (fresh n).pages ≡ n
unfolding fresh
pages_of_fresh n = refl

pub pages_are : (m : Memory) (n : ℕ) → m ≡ fresh n → m.pages ≡ n
pages_are m n e = ap (λ x. x.pages) e ∙ pages_of_fresh n

pub fresh_by_pages : (m : Memory) (n : ℕ) → m ≡ fresh n → m ≡ fresh m.pages
fresh_by_pages m n e = e ∙ ap fresh (sym (pages_are m n e))
