-- What a call does with the bytes that it was lent for its text, and which text it is.
use Rattle.std.specs.Prelude.{◌≡◌, ℕ, ◌-◌, ◌^◌, min, Bool, List, length}
use Rattle.rh_defs.specs.Desk.{Desk}
use Rattle.rh_defs.specs.Script.{has_bad_line}
use Rattle.rh_figure.specs.Map.{Place, read_lines}
use Rattle.rh_figure.specs.Whole.{IsMap}
use Rattle.rh_lines.specs.WholeText.{filled}
use Rattle.rh_pictures.specs.Painted.{IsSheet}
use Rattle.rh_pictures.specs.declared.sheet.form.SheetForm.{SheetForm}
use Rattle.vf_web.specs.PageStatus.{text_status}

-- a text was written over the old bytes, as far as they have room for it; so many bytes were said to be needed
pub record ToldText (text : List ℕ) (bad : Bool) (status : ℕ) (old new : List ℕ) (needed : ℕ) : Type 0 where
  pub status_is : status ≡ text_status (length old) text bad
  pub written : new ≡ filled text old
  pub length_is : needed ≡ min (length text) (2 ^ 64 - 1)

-- that text is the map of a script from a place on
pub record MapTold (marked : Bool) (p : Place) (script : List ℕ) (status : ℕ) (old new : List ℕ) (needed : ℕ) : Type 0 where
  pub text : List ℕ
  pub map : IsMap marked p (read_lines script) text
  pub given : ToldText text (has_bad_line script) status old new needed

-- that text is the sheet of a script with a name, over a desk
pub record SheetTold (form : SheetForm) (name : List ℕ) (d : Desk) (script : List ℕ) (status : ℕ) (old new : List ℕ) (needed : ℕ) : Type 0 where
  pub text : List ℕ
  pub sheet : IsSheet form name d (read_lines script) text
  pub given : ToldText text (has_bad_line script) status old new needed

-- nothing was written, and nothing was said to be needed
pub record Untouched (status wanted : ℕ) (old new : List ℕ) (before after : ℕ) : Type 0 where
  pub status_is : status ≡ wanted
  pub text : new ≡ old
  pub needed : after ≡ before
