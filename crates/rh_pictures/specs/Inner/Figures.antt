-- What the figure of a slot is drawn from.
use Rattle.std.specs.Prelude.{◌≡◌}
use Rattle.rh_defs.specs.Desk.{Task}
use Rattle.rh_defs.specs.Heap.{first_place}
use Rattle.rh_defs.specs.Questions.{block_items}
use Rattle.rh_elements.specs.DrawRows.{plot_of}
use Rattle.rh_figure.specs.Scene.{Scene}
use Rattle.rh_sheet.specs.SheetAreas.{slot_frame, slot_plot}
use Rattle.rh_scene.specs.Walks.{census_of}
use Rattle.rh_pictures.specs.declared.sheet.slots.Plan.{Plan}

-- the plan is of the slot of a task in a scene
pub record IsSlotPlan (x : Scene) (t : Task) (p : Plan) : Type 0 where
  pub blocks : p.blocks.now ≡ block_items t.slot
  pub frame : p.frame ≡ slot_frame x t
  pub plot : plot_of p.plot ≡ slot_plot x t
  pub census : p.census ≡ census_of first_place t.slot.heap.segments
