use Rattle.rh_scene.proofs.Common.{◌≡◌, ◌+◌, ◌-◌, ◌++◌, ℕ, List, length, take, Desk, Segment, segment_items_from, segment_pieces, heap_start_of, scene_at}
use Rattle.rh_scene.proofs.Common.{area_start_of, legend_of}
use Rattle.rh_scene.specs.Steps.{IsStepOf}
use Rattle.rh_scene.proofs.pieces.push_items.Given as goal

-- the pieces of the segments so far are listed
abbrev pub invariant-loop-item : goal.invariant-loop-item
invariant-loop-item l = record {
  pieces : (d : Desk) (place : ℕ) (segments : List Segment) → IsStepOf d l.step →
      l.items ≡ segment_items_from (heap_start_of l.drawn.heap + place) segments →
      l.pieces.items
      ≡ l.initial.pieces.items
      ++ segment_pieces (legend_of (scene_at d l.step) l.drawn.heap l.drawn.handle) (heap_start_of l.drawn.heap - area_start_of l.drawn.heap + place)
      (take l.item-index segments);
  few : length l.pieces.items ≡ length l.initial.pieces.items + l.item-index;
}
