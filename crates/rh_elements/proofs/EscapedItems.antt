-- Texts of several things that are escaped one after the other.
use Rattle.rh_elements.proofs.Common.{◌≡◌, ℕ, List, ◌∷◌, ◌++◌, ap, sym, ◌∙◌, flat_map, join_by, flat_map-append, escape, escaped_byte}

-- one text behind another
pub escape-both : (t u : List ℕ) → escape t ++ escape u ≡ escape (t ++ u)
escape-both t u = sym (flat_map-append escaped_byte t u)

-- the text of the first item, and those of the others behind something each
pub escape-first : {A : Type 0} (f : A → List ℕ) (between : List ℕ) (xs : List A) (x : A) (rest : List A) → xs ≡ x ∷ rest
    → escape (f x) ++ escape (flat_map (λ y. between ++ f y) rest) ≡ escape (join_by f between xs)
escape-first f between xs x rest e =
    sym (ap (λ ys. escape (join_by f between ys)) e
    ∙ flat_map-append escaped_byte (f x) (flat_map (λ y. between ++ f y) rest))
