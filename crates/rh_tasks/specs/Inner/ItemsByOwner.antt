-- The items of a world's areas, owner by owner.
use Rattle.std.specs.Prelude.{List, ◌++◌, map}
use Rattle.rh_defs.specs.Memory.{Memory}
use Rattle.rh_defs.specs.declared.question.AreaItem.{AreaItem}
use Rattle.rh_defs.specs.declared.question.AreaItem.TheVariants as item
use Rattle.rh_tasks.specs.declared.seat.Seat.{Seat}
use Rattle.rh_tasks.specs.declared.made.MadeArea.{MadeArea}
use Rattle.rh_tasks.specs.View.{fixed, pages_at}

-- areas 0 to 5
abbrev pub fixed_items : Memory → List AreaItem
fixed_items m = map (λ id. item.Area id (pages_at m id)) fixed

-- the made areas in order of number
abbrev pub made_items : Memory → List MadeArea → List AreaItem
made_items m made = map (λ (a : MadeArea). item.Area a.number (pages_at m a.area.0)) made

-- the slots in order of handle
abbrev pub slot_items : Memory → List Seat → List AreaItem
slot_items m seats = map (λ (s : Seat). item.Slot s.name (pages_at m s.slot.area.0)) seats

-- all areas and slots
abbrev pub items_in : Memory → List Seat → List MadeArea → List AreaItem
items_in m seats made = fixed_items m ++ made_items m made ++ slot_items m seats
