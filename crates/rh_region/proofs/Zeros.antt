-- Lemmas on `zeros`.
use Rattle.rh_region.proofs.Common.{◌≡◌, ℕ, List, suc, ◌+◌, [], ◌∷◌, ◌++◌, length, refl, ap, ◌∙◌, arith, zeros}
use Rattle.std.proofs.Common.{zero}
use Rattle.std.proofs.lemmas.List.{length-replicate}

pub length-zeros : (n : ℕ) → length (zeros n) ≡ n
unfolding zeros
length-zeros n = length-replicate {A = ℕ} n 0

pub zeros_none : zeros 0 ≡ []
unfolding zeros
zeros_none = refl

one_more : (n : ℕ) → zeros n ++ 0 ∷ [] ≡ zeros (suc n)
unfolding zeros
one_more zero = refl
one_more (suc n) = ap (λ (xs : List ℕ). 0 ∷ xs) (one_more n)

-- one more zero at the end
pub zeros_more : (n : ℕ) → zeros n ++ 0 ∷ [] ≡ zeros (n + 1)
zeros_more n = let e : suc n ≡ n + 1 = omega arith in one_more n ∙ ap zeros e
