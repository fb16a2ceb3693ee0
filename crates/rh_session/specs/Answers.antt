-- What a session has done with a line of its script.
use Rattle.std.specs.Prelude.{◌≡◌, ◌||◌, ◌==◌, not, List, ℕ, length, Option, is_err}
use Rattle.rh_defs.specs.declared.command.Command.{Command}
use Rattle.rh_defs.specs.Desk.{Desk}
use Rattle.rh_defs.specs.Line.{Meaning, line_means}
use Rattle.rh_defs.specs.Script.{meaning_desk, meaning_text, rest_text}
use Rattle.rh_session.specs.declared.session.Session.{Session}

-- it did what a line means, and wrote this answer to it, where spells says which desks a desktop may be seen as
pub record AnsweredMeaning {D : Type 0} (spells : D → Desk → Type 0) (s : Session D) (meaning : Meaning (Option Command)) (t : Session D)
    (text : List ℕ) : Type 0 where
  pub desk : (d : Desk) → spells s.desktop d → spells t.desktop (meaning_desk d meaning)
  pub answer : (d : Desk) → spells s.desktop d → text ≡ meaning_text d meaning
  pub bad : t.has_bad_line ≡ (s.has_bad_line || is_err meaning)

-- it did what a complete line means, and wrote this answer to it
abbrev pub AnsweredLine : {D : Type 0} → (D → Desk → Type 0) → Session D → List ℕ → Session D → List ℕ → Type 0
AnsweredLine spells s line t text = AnsweredMeaning spells s (line_means line) t text

-- what stands behind the last line feed was answered, if something does
pub record AnsweredRest {D : Type 0} (s : Session D) (rest : List ℕ) (t : Session D) (text : List ℕ) : Type 0 where
  pub answer : text ≡ rest_text rest
  pub bad : t.has_bad_line ≡ (s.has_bad_line || not (length rest == 0))
