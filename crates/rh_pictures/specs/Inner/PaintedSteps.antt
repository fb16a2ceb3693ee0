-- How a sheet takes a step.
use Rattle.std.specs.Prelude.{◌+◌, Bool, true, false, ◌&&◌, ◌||◌, ◌==◌, not, ◌≡◌, ◌++◌, ℕ, List, length, map, Option}
use Rattle.rh_pictures.specs.PaintedProgress.{PaintStand, stand_shown}
use Rattle.rh_defs.specs.declared.command.Command.{Command}
use Rattle.rh_defs.specs.declared.reply.Reply.{Reply}
use Rattle.rh_defs.specs.Desk.{Desk}
use Rattle.rh_defs.specs.Line.{Meaning}
use Rattle.rh_figure.specs.Map.{Stage, after_read, read_rest}
use Rattle.rh_figure.specs.Whole.{AreShared, read_of}
use Rattle.rh_figure.specs.Share.{Share, IsShared}
use Rattle.rh_figure.specs.Phrases.{Text}
use Rattle.rh_figure.specs.Scene.{Before, Scene, is_still, marks_of, scene_of}
use Rattle.rh_sheet.specs.Fates.{noted}
use Rattle.rh_sheet.specs.declared.note.Note.{Note}
use Rattle.rh_sheet.specs.Sheet.{Happened, Walk, happened_text, is_shown, opening, read_text, sheet_lines}
use Rattle.rh_sheet.specs.SheetSteps.{step_text}
use Rattle.rh_pictures.specs.declared.sheet.painter.Painter.{Painter}
use Rattle.rh_pictures.specs.PaintedWalks.{FollowsPainting, walk_in}

-- behind a command that is shown or left out, and that leaves memory as it is or not
abbrev pub stand_behind : Bool → Bool → PaintStand → PaintStand
stand_behind true still p =
    record (stand_shown (still && not p.wanted) p) { lines = p.lines + 1; wanted = false }
stand_behind false still p = record p { lines = p.lines + 1; wanted = false; left = p.left + 1 }

-- the second has come so far and keeps these notes, and is else as the first
pub record ComesTo {D : Type 0} (m : Painter D) (p : PaintStand) (notes : List Note) (n : Painter D) : Type 0 where
  pub drawn_is : n.drawn ≡ m.drawn
  pub marked_is : n.marked ≡ m.marked
  pub progress_is : n.progress ≡ p
  pub notes_are : n.notes.items ≡ notes
  pub bad : n.has_bad_line ≡ m.has_bad_line

-- what a step was drawn of
abbrev pub scene_behind : Desk → Share → Before → Option Command → Reply → Scene
scene_behind d s b c r = scene_of d s b (marks_of d b c r)

-- what happened at it, with the reply as it is printed
abbrev pub happened_at : Desk → Share → Before → Option Command → Reply → Text → Happened
happened_at d s b c r reply = record { scene = scene_behind d s b c r; reply = reply; still = is_still c r }

-- the text of a step that the sheet stands at
abbrev pub step_written : Walk → Text → Bool → Happened → Text
step_written x line wanted h =
    opening x ++ step_text x.looks (h.still && not wanted) x.place.lines line h.reply h.scene x.notes x.last

-- what a sheet has of one line of a script was offered to a pen, with some share of the pool behind it
pub record DrewLine {D : Type 0} (desk : D → Desk) (m : Painter D) (old : List ℕ) (line : Text) (meaning : Meaning (Option Command)) (n : Painter D) (new : List ℕ) : Type 0 where
  pub share : Share
  pub shared : IsShared share (after_read (walk_in desk m).place (line, meaning)).desk
  pub offered : new ≡ old ++ read_text m.marked share (walk_in desk m) (line, meaning)
  pub follows : FollowsPainting desk m share (line, meaning) n

-- the rest of the sheet was, of what stands behind the last line feed
pub record DrewRest {D : Type 0} (desk : D → Desk) (m : Painter D) (old : List ℕ) (rest : List ℕ) (n : Painter D) (new : List ℕ) : Type 0 where
  pub stages : List Stage
  pub lines : map read_of stages ≡ read_rest rest
  pub shared : AreShared (walk_in desk m).place stages
  pub offered : new ≡ old ++ sheet_lines m.marked (walk_in desk m) stages
  pub bad : n.has_bad_line ≡ (m.has_bad_line || not (length rest == 0))

-- a step was offered or left out, over the desk behind it, with some share of the pool
pub record TookStep {D : Type 0} (desk : D → Desk) (m : Painter D) (old new : List ℕ) (line : Text) (happened : Share → Happened) (n : Painter D) : Type 0 where
  pub share : Share
  pub shared : IsShared share (desk m.drawn)
  pub offered : new ≡ old ++ happened_text m.marked (walk_in desk m) line (happened share)
  pub comes :
      ComesTo m (stand_behind (is_shown m.marked (walk_in desk m) m.progress.wanted) (happened share).still m.progress)
      (noted (m.progress.lines + 1) (happened share).scene m.notes.items) n

-- a step was left out, whatever its line, command and reply, and nothing of it was offered
abbrev pub LeftStep : {D : Type 0} → (D → Desk) → Painter D → Before → Painter D → Type 0
LeftStep desk m b n =
    (o : List ℕ) (line : Text) (c : Option Command) (r : Reply) (reply : Text)
    → TookStep desk m o o line (λ s. happened_at (desk m.drawn) s b c r reply) n

-- a step was offered, with some share of the pool, where the painter counts it and has noted the messages behind it
pub record WroteStep {D : Type 0} (desk : D → Desk) (m : Painter D) (old new : List ℕ) (line : Text) (wanted : Bool) (happened : Share → Happened) (n : Painter D) : Type 0 where
  pub share : Share
  pub shared : IsShared share (desk m.drawn)
  pub offered : new ≡ old ++ step_written (walk_in desk m) line wanted (happened share)
  pub next : ComesTo m (stand_shown ((happened share).still && not wanted) m.progress) m.notes.items n
