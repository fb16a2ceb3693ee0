-- What a sheet's run has read and written when it ends.
use Rattle.std.specs.Prelude.{◌≡◌, ◌⊎◌, ℕ, Bool, false, List, [], ◌∷◌, ◌++◌, map}
use Rattle.std.specs.Io.KnownBytes.{Consumes, IsAtEnd}
use Rattle.rh_defs.specs.Desk.{Desk}
use Rattle.rh_defs.specs.Script.{has_bad_line}
use Rattle.rh_figure.specs.Map.{Read, Stage, place, read_ended, read_lines}
use Rattle.rh_figure.specs.Phrases.{Text}
use Rattle.rh_figure.specs.Whole.{AreShared, read_of}
use Rattle.rh_lines.specs.Flow.{Input, Output, Takes, Breaks}
use Rattle.rh_session.specs.Outcome.{status_of}
use Rattle.rh_session.specs.declared.status.Status.{Status}
use Rattle.rh_sheet.specs.Sheet.{Walk, behind_read, read_text, sheet_head, sheet_lines}
use Rattle.rh_pictures.specs.PaintedWalks.{walk_from}
use Rattle.rh_pictures.specs.SheetForms.{SheetForm}

-- ---- sheets

-- a text is the sheet of these lines of a script with a name, over a desk before the first, with some share of the pool
-- behind each
pub record IsSheet (form : SheetForm) (name : Text) (d : Desk) (reads : List Read) (written : Text) : Type 0 where
  pub stages : List Stage
  pub lines : map read_of stages ≡ reads
  pub shared : AreShared (place d 0 false) stages
  pub is : written ≡ sheet_head name d.pool ++ sheet_lines form.marked (walk_from form.lens d) stages

-- what a sheet has of some lines, without its end
abbrev pub front_lines : Bool → Walk → List Stage → Text
front_lines marked x [] = []
front_lines marked x ((r, s) ∷ rest) = read_text marked s x r ++ front_lines marked (behind_read marked s x r) rest

-- a text is the sheet of these lines without its end
pub record IsSheetFront (form : SheetForm) (name : Text) (d : Desk) (reads : List Read) (written : Text) : Type 0 where
  pub stages : List Stage
  pub lines : map read_of stages ≡ reads
  pub shared : AreShared (place d 0 false) stages
  pub is : written ≡ sheet_head name d.pool ++ front_lines form.marked (walk_from form.lens d) stages

-- ---- runs

-- all was read, and its sheet was written; no call failed
pub record Painted (form : SheetForm) (name : Text) (d : Desk) (before after : Input) (old new : Output) (status : Status) : Type 0 where
  pub bytes : List ℕ
  pub read : Consumes before.left after.left bytes
  pub at_end : IsAtEnd after.left
  pub well : after.failed ≡ before.failed
  pub text : Text
  pub sheet : IsSheet form name d (read_lines bytes) text
  pub written : Takes old new text
  pub status_is : status ≡ status_of (has_bad_line bytes)

-- the sheet of the complete lines that were read has been written, without its end, and no write failed
pub record PaintedSoFar (form : SheetForm) (name : Text) (d : Desk) (before after : Input) (old new : Output) : Type 0 where
  pub bytes : List ℕ
  pub read : Consumes before.left after.left bytes
  pub text : Text
  pub sheet : IsSheetFront form name d (read_ended bytes) text
  pub written : Takes old new text

-- a text is the sheet, without its end, of some of the complete lines of a script, from the first on, or at its end that
-- of all lines
abbrev pub IsBegun : SheetForm → Text → Desk → List ℕ → Input → Text → Type 0
IsBegun form name d bytes after text =
    ((reads : List Read) × (behind : List Read) × (read_ended bytes ≡ reads ++ behind)
    × IsSheetFront form name d reads text)
    ⊎ (IsAtEnd after.left × IsSheet form name d (read_lines bytes) text)

-- the writer failed, and took a front of such a text
pub record PaintedUntil (form : SheetForm) (name : Text) (d : Desk) (before after : Input) (old new : Output) : Type 0 where
  pub bytes : List ℕ
  pub read : Consumes before.left after.left bytes
  pub text : Text
  pub begun : IsBegun form name d bytes after text
  pub broken : Breaks old new text
