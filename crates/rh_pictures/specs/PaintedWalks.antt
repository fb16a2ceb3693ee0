-- What a sheet has done with a line of its script.
use Rattle.std.specs.Prelude.{◌≡◌, ◌||◌, ◌==◌, not, Bool, false, List, [], length, map, ℕ, Option, is_err}
use Rattle.rh_defs.specs.declared.command.Command.{Command}
use Rattle.rh_defs.specs.Line.{Meaning, line_means}
use Rattle.rh_defs.specs.Desk.{Desk}
use Rattle.rh_defs.specs.Order.{IsReordered}
use Rattle.rh_figure.specs.Share.{Share, IsShared}
use Rattle.rh_figure.specs.Phrases.{Text}
use Rattle.rh_figure.specs.Map.{Read, Stage, after_read, place, read_rest}
use Rattle.rh_figure.specs.Whole.{AreShared, read_of}
use Rattle.rh_sheet.specs.declared.note.Note.{Note}
use Rattle.rh_sheet.specs.SheetLaws.{at_desk}
use Rattle.rh_sheet.specs.Sheet.{Walk, behind_read, read_text, sheet_lines}
use Rattle.rh_pictures.specs.PaintedProgress.{PaintStand, stand_first}
use Rattle.rh_pictures.specs.LensSizes.{LensSize}
use Rattle.rh_pictures.specs.SheetForms.{SheetForm, looks_of}
use Rattle.rh_pictures.specs.declared.sheet.painter.Painter.{Painter}

-- where a sheet stands over a desk
abbrev pub walk_at : Desk → PaintStand → List Note → Walk
walk_at d p notes = record {
  place = place d p.lines p.wanted;
  shown = p.shown;
  last = p.last;
  left = p.left;
  opened = p.opened;
  notes = notes;
  looks = looks_of p.lens;
}

-- before the first line
abbrev pub walk_from : Option LensSize → Desk → Walk
walk_from lens d = walk_at d (stand_first lens) []

-- by the desk that it looks at
abbrev pub walk_in : {D : Type 0} → (D → Desk) → Painter D → Walk
walk_in desk m = walk_at (desk m.drawn) m.progress m.notes.items

-- a sheet that has taken no line
pub record IsFirstPainted {D : Type 0} (m : Painter D) (drawn : D) (form : SheetForm) : Type 0 where
  pub drawn_is : m.drawn ≡ drawn
  pub marked_is : m.marked ≡ form.marked
  pub progress_is : m.progress ≡ stand_first form.lens
  pub notes_are : m.notes.items ≡ []
  pub well : m.has_bad_line ≡ false

-- the second stands where the first does once a line was read, but for the order of messages to different tasks
pub record FollowsPainting {D : Type 0} (desk : D → Desk) (m : Painter D) (s : Share) (r : Read) (n : Painter D) : Type 0 where
  pub desk_is : IsReordered (after_read (walk_in desk m).place r).desk (desk n.drawn)
  pub walk_is : walk_in desk n ≡ at_desk (desk n.drawn) (behind_read m.marked s (walk_in desk m) r)
  pub marked_is : n.marked ≡ m.marked
  pub bad : n.has_bad_line ≡ (m.has_bad_line || is_err r.1)

-- this text is what a sheet has of one line of a script, with some share of the pool behind it
pub record PaintedLine {D : Type 0} (desk : D → Desk) (m : Painter D) (line : Text) (meaning : Meaning (Option Command)) (n : Painter D) (text : Text) : Type 0 where
  pub share : Share
  pub shared : IsShared share (after_read (walk_in desk m).place (line, meaning)).desk
  pub text_is : text ≡ read_text m.marked share (walk_in desk m) (line, meaning)
  pub follows : FollowsPainting desk m share (line, meaning) n

-- the painter painted a complete line
abbrev pub TookPaintedLine : {D : Type 0} → (D → Desk) → Painter D → List ℕ → Painter D → Text → Type 0
TookPaintedLine desk m line n text = PaintedLine desk m line (line_means line) n text

-- it is the rest of the sheet, of what stands behind the last line feed
pub record TookPaintedRest {D : Type 0} (desk : D → Desk) (m : Painter D) (rest : List ℕ) (n : Painter D) (text : Text) : Type 0 where
  pub stages : List Stage
  pub lines : map read_of stages ≡ read_rest rest
  pub shared : AreShared (walk_in desk m).place stages
  pub text_is : text ≡ sheet_lines m.marked (walk_in desk m) stages
  pub bad : n.has_bad_line ≡ (m.has_bad_line || not (length rest == 0))
