-- What is added to a row, part by part.
use Rattle.std.proofs.Common.{◌≡◌, ℕ, List, ◌++◌, append_assoc, ap, ◌∙◌}

-- one part, and what is added behind it
pub added : {s t : List ℕ} (r x y : List ℕ) → s ≡ r ++ x → t ≡ s ++ y → t ≡ r ++ (x ++ y)
added r x y p q = q ∙ (ap (λ z. z ++ y) p ∙ append_assoc r x y)

-- what stands behind two parts
pub behind : (a x y : List ℕ) {w : List ℕ} → x ++ y ≡ w → (a ++ x) ++ y ≡ a ++ w
behind a x y p = append_assoc a x y ∙ ap (λ z. a ++ z) p
