-- What an explainer has done with a line of its script.
use Rattle.std.specs.Prelude.{◌≡◌, ℕ, ◌+◌, ◌||◌, List, Option}
use Rattle.rh_defs.specs.declared.command.Command.{Command}
use Rattle.rh_defs.specs.Desk.{Desk}
use Rattle.rh_defs.specs.Line.{Meaning, line_means}
use Rattle.rh_defs.specs.Script.{meaning_desk}
use Rattle.rh_explained.specs.Explained.{is_said, said_of_rest}
use Rattle.rh_explained.specs.Explanations.{said_of_meaning}
use Rattle.rh_explained.specs.declared.explainer.Explainer.{Explainer}

-- it did what a line means, and wrote this of it, where spells says which desks a desktop may be seen as
pub record SaidOfMeaning {D : Type 0} (spells : D → Desk → Type 0) (s : Explainer D) (line : List ℕ)
    (meaning : Meaning (Option Command)) (t : Explainer D) (text : List ℕ) : Type 0 where
  pub desk : (d : Desk) → spells s.desktop d → spells t.desktop (meaning_desk d meaning)
  pub said : (d : Desk) → spells s.desktop d → text ≡ said_of_meaning d (s.lines + 1) line meaning
  pub lines : t.lines ≡ s.lines + 1
  pub flag : t.has_said ≡ (s.has_said || is_said text)

-- it did what a line spells, and wrote what is said of it
abbrev pub SaidOfLine : {D : Type 0} → (D → Desk → Type 0) → Explainer D → List ℕ → Explainer D → List ℕ → Type 0
SaidOfLine spells s line t text = SaidOfMeaning spells s line (line_means line) t text

-- what stands behind the last line feed was explained, if something does
pub record SaidOfRest {D : Type 0} (s : Explainer D) (rest : List ℕ) (t : Explainer D) (text : List ℕ) : Type 0 where
  pub said : text ≡ said_of_rest (s.lines + 1) rest
  pub flag : t.has_said ≡ (s.has_said || is_said text)
