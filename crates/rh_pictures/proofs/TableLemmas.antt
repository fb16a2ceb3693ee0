-- The tables beside a figure: whether they have rows.
use Rattle.rh_pictures.proofs.Common.{◌≡◌, false, flat_map, map, refl, ap, sym, true, ◌∙◌, List, [], ◌∷◌, ◌++◌, codes, Text}
use Rattle.std.proofs.lemmas.List.Folds.{flat_map-map}
use Rattle.rh_sheet.specs.Tables.{rows_under}
use Rattle.rh_pictures.proofs.UnderLemmas.{is_some, some-more}

-- the rows of some things below a heading, and of none
pub rows-some : {A : Type 0} (heading : Text) (f : A → Text) (xs : List A) → is_some xs ≡ true
    → rows_under heading (map f xs) ≡ heading ++ (flat_map f xs ++ codes "</tbody></table>\n")
rows-some heading f [] e = absurd (cc)
rows-some heading f (x ∷ xs) e =
    ap (λ z. heading ++ (z ++ codes "</tbody></table>\n")) (flat_map-map (λ (row : Text). row) f (x ∷ xs))

pub rows-none : {A : Type 0} (heading : Text) (f : A → Text) (xs : List A) → is_some xs ≡ false → rows_under heading (map f xs) ≡ []
rows-none heading f [] e = refl
rows-none heading f (x ∷ xs) e = let k : true ≡ false = sym (some-more x xs) ∙ e in absurd (cc)
