-- Texts and lists by the cases of their definitions.
use Rattle.rh_elements.proofs.Common.{◌≡◌, ◌≢◌, ℕ, ◌-◌, ◌<◌, Bool, true, false, List, [], ◌∷◌, ◌++◌, length, map, take, refl, sym, ap, ◌∙◌, append_assoc}
use Rattle.rh_elements.proofs.Common.{append-nil, arith, codes, nat_le, cut}
use Rattle.std.specs.List.{concat}
use Rattle.std.proofs.lemmas.List.{length-map, map-append, take-map}
use Rattle.rh_defs.specs.Bytes.{space}
use Rattle.rh_defs.proofs.HeapLists.{cond_true, cond_false}
use Rattle.rh_figure.specs.Rows.{trimmed}
use Rattle.rh_map.proofs.TextLemmas.{trimmed-space, trimmed-whole}
use Rattle.rh_sheet.specs.Pool.{some_squares, squares_text}

-- the squares of some pages
pub squares-some : (class ks tip : List ℕ) → 0 < length ks → some_squares class ks tip ≡ squares_text class ks tip
squares-some class [] tip some = absurd (omega (arith, some))
squares-some class (k ∷ ks) tip some = refl

-- a cut text of which each byte is shown in its own way
pub shown-cut : (f : ℕ → ℕ) (n : ℕ) (t : List ℕ) → f 46 ≡ 46 → map f (cut n t) ≡ cut n (map f t)
shown-cut f n t dot =
    by_test (nat_le (length t) n) refl
  where
    whole : nat_le (length t) n ≡ true → map f (cut n t) ≡ cut n (map f t)
    whole e =
        ap (map f) (cond_true (nat_le (length t) n) t (take (n - 2) t ++ codes "..") e)
        ∙ sym (cond_true (nat_le (length (map f t)) n) (map f t) (take (n - 2) (map f t) ++ codes "..")
        (ap (λ k. nat_le k n) (length-map t f) ∙ e))

    front : map f (take (n - 2) t ++ codes "..") ≡ take (n - 2) (map f t) ++ codes ".."
    front =
        map-append f (take (n - 2) t) (codes "..")
        ∙ (ap (λ b. map f (take (n - 2) t) ++ b ∷ b ∷ []) dot ∙ ap (λ z. z ++ codes "..") (sym (take-map f (n - 2) t)))

    cut_off : nat_le (length t) n ≡ false → map f (cut n t) ≡ cut n (map f t)
    cut_off e =
        ap (map f) (cond_false (nat_le (length t) n) t (take (n - 2) t ++ codes "..") e)
        ∙ (front ∙ sym (cond_false (nat_le (length (map f t)) n) (map f t) (take (n - 2) (map f t) ++ codes "..")
        (ap (λ k. nat_le k n) (length-map t f) ∙ e)))

    by_test : (b : Bool) → nat_le (length t) n ≡ b → map f (cut n t) ≡ cut n (map f t)
    by_test true e = whole e
    by_test false e = cut_off e

-- ---- remarks

-- a byte that isn't shown as a space is the last one
pub trimmed-kept : (f : ℕ → ℕ) (t front : List ℕ) (b : ℕ) → t ≡ front ++ b ∷ [] → f b ≢ space
    → trimmed (map f t) ≡ map f t
trimmed-kept f t front b e apart =
    rw (e, map-append f front (b ∷ [])) (trimmed-whole (map f front) (f b) apart)

-- one that is
pub trimmed-less : (f : ℕ → ℕ) (t front : List ℕ) (b : ℕ) → t ≡ front ++ b ∷ [] → f b ≡ space
    → trimmed (map f t) ≡ trimmed (map f front)
trimmed-less f t front b e space =
    rw (e, map-append f front (b ∷ []), space) (trimmed-space (map f front))

-- ---- rows

-- parts, one behind the other
pub seven-parts : (a b c d e f g : List ℕ)
    → (((((a ++ b) ++ c) ++ d) ++ e) ++ f) ++ g ≡ concat (a ∷ b ∷ c ∷ d ∷ e ∷ f ∷ g ∷ [])
seven-parts a b c d e f g = simp (append_assoc, append-nil)
