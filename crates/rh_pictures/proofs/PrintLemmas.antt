-- What is written of a step, part by part.
use Rattle.rh_pictures.proofs.Common.{◌≡◌, ℕ, Bool, true, false, List, [], ◌∷◌, ◌++◌, refl, sym, ap, ◌∙◌, if◌then◌else◌, concat, changes, Text, Scene, Note}
use Rattle.rh_pictures.proofs.Common.{changes_text, figure_text, said_end, step_end, step_text}
use Rattle.rh_sheet.specs.SheetSteps.{Looks, said_text, still_text}

-- what stands behind what is said at a step
abbrev pub behind_said : Looks → ℕ → Scene → List Note → ℕ → Bool → Text
behind_said l n x notes last still =
    if still then concat (still_text last ∷ said_end ∷ step_end ∷ [])
    else concat (changes_text (changes x) ∷ said_end ∷ figure_text l x notes n ∷ step_end ∷ [])

pub step-split : (l : Looks) (n : ℕ) (line reply : Text) (x : Scene) (notes : List Note) (last : ℕ) (still : Bool)
    → said_text n line reply ++ behind_said l n x notes last still ≡ step_text l still n line reply x notes last
step-split l n line reply x notes last true = refl
step-split l n line reply x notes last false = refl

pub step-as : (l : Looks) (n : ℕ) (line reply : Text) (x : Scene) (notes : List Note) (last : ℕ) {still so : Bool} → still ≡ so
    → said_text n line reply ++ behind_said l n x notes last so ≡ step_text l still n line reply x notes last
step-as l n line reply x notes last {still} {so} e =
    step-split l n line reply x notes last so ∙ sym (ap (λ b. step_text l b n line reply x notes last) e)
