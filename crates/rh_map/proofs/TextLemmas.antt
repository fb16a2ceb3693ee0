-- Texts with spaces at an end.
use Rattle.rh_map.proofs.Common.{◌≡◌, ◌≢◌, ℕ, List, [], ◌∷◌, ◌++◌, ap, ◌∙◌, refl, ◌==◌, cond_false, eqb_apart, trimmed}
use Rattle.rh_defs.specs.Bytes.{space}
use Rattle.rh_figure.specs.Rows.{before_spaces}

-- a space at the end is left out
pub trimmed-space : (t : List ℕ) → trimmed (t ++ space ∷ []) ≡ trimmed t
trimmed-space [] = refl
trimmed-space (b ∷ t) = ap (before_spaces b) (trimmed-space t)

before-more : (b c : ℕ) (t : List ℕ) → before_spaces b (t ++ c ∷ []) ≡ b ∷ (t ++ c ∷ [])
before-more b c [] = refl
before-more b c (d ∷ t) = refl

-- a text that ends in no space stays
pub trimmed-whole : (t : List ℕ) (b : ℕ) → b ≢ space → trimmed (t ++ b ∷ []) ≡ t ++ b ∷ []
trimmed-whole [] b apart = cond_false (b == space) _ _ (eqb_apart b space apart)
trimmed-whole (c ∷ t) b apart = ap (before_spaces c) (trimmed-whole t b apart) ∙ before-more c b t
