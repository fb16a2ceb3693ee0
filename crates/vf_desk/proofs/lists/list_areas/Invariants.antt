use Rattle.vf_desk.proofs.Common.{◌≡◌, ◌-◌, ◌≤◌, length, take, map, filled_front, as_area}
use Rattle.rh_defs.specs.Questions.{area_items}
use Rattle.vf_desk.proofs.lists.list_areas.Given as goal

-- the areas and slots so far were put into the slice
abbrev pub invariant-items : goal.invariant-items
invariant-items l = record {
  few : l.i ≤ length (area_items l.world.desk);
  filled_is : l.to ≡ filled_front (map as_area (take l.i (area_items l.world.desk))) l.initial.to;
}

abbrev pub decreases-items : goal.decreases-items
decreases-items l = length (area_items l.world.desk) - l.i
