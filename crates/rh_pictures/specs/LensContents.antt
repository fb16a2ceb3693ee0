-- What a lens tells of the pieces of a slot and of the module area. Read Items of rh_lens first. x is the scene, t a task
-- that may be there, p a piece.
use Rattle.std.specs.Prelude.{◌≡◌, ℕ, slice_get, Option, Some, None}
use Rattle.rh_defs.specs.Desk.{Desk, Task}
use Rattle.rh_figure.specs.Layout.{slot_pieces, module_pieces}
use Rattle.rh_figure.specs.Scene.{Scene}
use Rattle.rh_figure.specs.declared.piece.Piece.{Piece}
use Rattle.rh_lens.specs.Items.{Item, bare, slot_item}
use Rattle.rh_scene.specs.Seen.{IsTaskSeen}
use Rattle.rh_scene.specs.declared.sight.TaskSight.{TaskSight}

abbrev pub slot_item_in : Option Task → Piece → Item
slot_item_in None p = bare p
slot_item_in (Some t) p = slot_item t p

-- a piece of the slot of the ith task, of which this is seen, in any scene
pub record IsSlotPiece (d : Desk) (i : ℕ) (seen : TaskSight) (p : Piece) : Type 0 where
  pub task : Task
  pub is : slice_get d.tasks i ≡ Some task
  pub so : IsTaskSeen seen task
  pub scene : Scene
  pub place : ℕ
  pub stands : slice_get (slot_pieces scene task.handle task.slot) place ≡ Some p

-- a piece of the module area
pub record IsModulePiece (x : Scene) (p : Piece) : Type 0 where
  pub place : ℕ
  pub stands : slice_get (module_pieces x) place ≡ Some p
