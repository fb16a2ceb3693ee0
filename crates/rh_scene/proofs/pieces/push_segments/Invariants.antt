use Rattle.rh_scene.proofs.Common.{◌≡◌, ◌≤◌, ◌+◌, ◌-◌, ◌*◌, ◌++◌, length, take, IfSome, SEGMENTS_AT_ONCE, first_place, place_after, segment_pieces, heap_seen}
use Rattle.rh_scene.proofs.Common.{heap_start_of, scene_at, area_start_of, legend_of}
use Rattle.rh_scene.proofs.pieces.push_segments.Given as goal

-- the pieces of so many segments are listed, and the place is where these end
abbrev pub invariant-loop-turn : goal.invariant-loop-turn
invariant-loop-turn g l =
    let d = g.S.Sight.desk l.sight in
    record {
      pieces : IfSome (heap_seen l.drawn.heap d) (λ h.
          l.pieces.items
          ≡ l.initial.pieces.items
          ++ segment_pieces (legend_of (scene_at d l.step) l.drawn.heap l.drawn.handle)
          (heap_start_of l.drawn.heap - area_start_of l.drawn.heap + first_place) (take (SEGMENTS_AT_ONCE * l._turn) h.segments));
      place : IfSome (heap_seen l.drawn.heap d) (λ h. l.place ≡ place_after (take (SEGMENTS_AT_ONCE * l._turn) h.segments));
      few : length l.pieces.items ≤ length l.initial.pieces.items + SEGMENTS_AT_ONCE * l._turn;
    }
