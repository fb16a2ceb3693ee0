-- What holds of every picture. Read Map and Whole first. d, a and b are desks, t is a task, x a scene, b a byte of a
-- line.
use Rattle.std.specs.Prelude.{◌≡◌, ℕ, ◌*◌, ◌<◌, ◌≤◌, Bool, true, List, [], length, Some}
use Rattle.std.specs.List.{AllByRecursion}
use Rattle.rh_defs.specs.Bytes.{space}
use Rattle.rh_defs.specs.declared.command.Command.{Command}
use Rattle.rh_defs.specs.Files.{FileList}
use Rattle.rh_defs.specs.Pieces.{page_size}
use Rattle.rh_defs.specs.Slot.{slot_pages}
use Rattle.rh_defs.specs.Desk.{Desk, Task, module_pages}
use Rattle.rh_defs.specs.Commands.{step}
use Rattle.rh_defs.specs.Order.{IsReordered}
use Rattle.rh_defs.specs.Script.{ended, unended}
use Rattle.rh_figure.specs.Share.{Share}
use Rattle.rh_figure.specs.Scene.{Scene, Before, Marks, is_still, scene_of}
use Rattle.rh_figure.specs.Layout.{Tile, slot_pieces, module_pieces}
use Rattle.rh_figure.specs.Map.{Stage, place, map_lines, map_text}
use Rattle.rh_figure.specs.declared.limits.TheConstants.{MAP_COLUMNS}

-- whatever is marked, the pieces of a task's slot are its bytes from the first to the last one
abbrev pub HasTiledSlot : Task → Type 0
HasTiledSlot t = (x : Scene) → Tile 0 (page_size * slot_pages t.slot) (slot_pieces x t.handle t.slot)

-- whatever is marked, the pieces of each slot and of the module area are its bytes from the first to the last one
pub record HasTiledAreas (d : Desk) : Type 0 where
  pub slots : AllByRecursion HasTiledSlot d.tasks
  pub module_area :
      (s : Share) (b : Before) (m : Marks) → Tile 0 (page_size * module_pages d) (module_pieces (scene_of d s b m))

-- a byte that a terminal shows
pub record IsShownByte (b : ℕ) : Type 0 where
  pub low : space ≤ b
  pub high : b < 127

-- a line of a map: at most 79 columns of such bytes
pub record IsMapLine (line : List ℕ) : Type 0 where
  pub columns : length line ≤ MAP_COLUMNS
  pub bytes : AllByRecursion IsShownByte line

-- a text of whole lines of a map
pub record HasMapLines (text : List ℕ) : Type 0 where
  pub lines : AllByRecursion IsMapLine (ended text)
  pub whole : unended text ≡ []

-- each map is such a text, of whatever lines, shares and files
abbrev pub AreMaps : Type 0
AreMaps = (marked : Bool) (stages : List Stage) (pages : ℕ) (files : FileList) →
    HasMapLines (map_text marked stages pages files)

-- no map shows the order of messages to different tasks
abbrev pub ShowsNoOrder : Type 0
ShowsNoOrder =
    (marked : Bool) (a b : Desk) (n : ℕ) (wanted : Bool) (stages : List Stage) → IsReordered a b →
    map_lines marked (place b n wanted) stages ≡ map_lines marked (place a n wanted) stages

-- a step whose picture is left out as still has left the desk as it was
abbrev pub KeepsStill : Type 0
KeepsStill = (d : Desk) (c : Command) → is_still (Some c) (step d c).1 ≡ true → (step d c).0 ≡ d
