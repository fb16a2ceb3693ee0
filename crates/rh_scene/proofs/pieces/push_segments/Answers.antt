use Rattle.rh_scene.proofs.Common.{◌≡◌, ◌∙◌, ◌+◌, ◌-◌, ◌*◌, ◌++◌, ℕ, length, take, drop, ap, sym, subst, arith, slice_get, area_start_of, legend_of}
use Rattle.rh_scene.proofs.Common.{take-append-drop, SEGMENTS_AT_ONCE, first_place, place_after, segment_pieces, heap_seen, heap_start_of, scene_at}
use Rattle.rh_scene.proofs.Heaps.{seen, start-small}
use Rattle.rh_scene.proofs.Holders.{some-of}
use Rattle.rh_scene.proofs.PieceWalks.{at-heap, for-heap, pieces-on, place-on, place-same, pieces-turn, turn-ends, turn-items, turn-place}
use Rattle.rh_scene.proofs.pieces.push_segments.Goals as goal
use Rattle.rh_scene.proofs.pieces.push_segments.Goals.{in-Some, in_default}

pub segments-items-requires : goal.segments-items-requires
segments-items-requires g c =
    let r = some-of (heap_seen c.args.drawn.now.heap (g.S.Sight.desk c.args.sight.now)) c.requires.heap in
    let n = SEGMENTS_AT_ONCE * c.loop-turn._turn in
    for-heap r.0 r.1 _
    (take n r.0.segments, drop n r.0.segments, sym (take-append-drop n r.0.segments), turn-place r.0 r.1 n c.loop-turn.place c.loop-turn.invariant.place)

pub push_items-requires-clause-items : goal.push_items-requires-clause-items
push_items-requires-clause-items g c =
    let r = some-of (heap_seen c.args.drawn.now.heap (g.S.Sight.desk c.args.sight.now)) c.requires.heap in
    let n = SEGMENTS_AT_ONCE * c.loop-turn._turn in (
      c.loop-turn.place,
      take SEGMENTS_AT_ONCE (drop n r.0.segments),
      c.deref.ensures.0 ∙ turn-items r.0 r.1 (heap_start_of c.args.drawn.now.heap) n c.loop-turn.place c.segments-items.result.items
          c.loop-turn.invariant.place c.segments-items.ensures,
    )

pub place_behind-place-requires-clause-low : goal.place_behind-place-requires-clause-low
place_behind-place-requires-clause-low g c =
    let r = some-of (heap_seen c.args.drawn.now.heap (g.S.Sight.desk c.args.sight.now)) c.requires.heap in
    let n = SEGMENTS_AT_ONCE * c.loop-turn._turn in
    let start = heap_start_of c.args.drawn.now.heap in
    let items = turn-items r.0 r.1 start n c.loop-turn.place c.segments-items.result.items c.loop-turn.invariant.place c.segments-items.ensures in
    let here = c.in-Some.ensures.value ∙ ap (λ xs. slice_get xs (length xs - 1)) c.deref-in-loop-turn.ensures.0 in
    (turn-ends start n c.loop-turn.place r.0 c.segments-items.result.items c.in-Some.last.now
    (turn-place r.0 r.1 n c.loop-turn.place c.loop-turn.invariant.place) items here (seen c.recall_desk.ensures c.args.drawn.now.heap r.0 r.1)).0

pub place_behind-place-requires-clause-small : goal.place_behind-place-requires-clause-small
place_behind-place-requires-clause-small g c =
    let r = some-of (heap_seen c.args.drawn.now.heap (g.S.Sight.desk c.args.sight.now)) c.requires.heap in
    let n = SEGMENTS_AT_ONCE * c.loop-turn._turn in
    let start = heap_start_of c.args.drawn.now.heap in
    let items = turn-items r.0 r.1 start n c.loop-turn.place c.segments-items.result.items c.loop-turn.invariant.place c.segments-items.ensures in
    let here = c.in-Some.ensures.value ∙ ap (λ xs. slice_get xs (length xs - 1)) c.deref-in-loop-turn.ensures.0 in
    let ends = turn-ends start n c.loop-turn.place r.0 c.segments-items.result.items c.in-Some.last.now
    (turn-place r.0 r.1 n c.loop-turn.place c.loop-turn.invariant.place) items here (seen c.recall_desk.ensures c.args.drawn.now.heap r.0 r.1) in
    omega (arith, ends.1, start-small c.args.drawn.now.heap)

pub loop-turn-preserved : goal.loop-turn-preserved
loop-turn-preserved g c =
    let d = g.S.Sight.desk c.args.sight.now in
    let heap = c.args.drawn.now.heap in
    let r = some-of (heap_seen heap d) c.requires.heap in
    let n = SEGMENTS_AT_ONCE * c.loop-turn._turn in
    let start = heap_start_of heap in
    let off = start - area_start_of heap in
    let legend = legend_of (scene_at d c.args.step.now) heap c.args.drawn.now.handle in
    let old = c.args.pieces.now.items in
    let now = c.loop-turn.pieces.items in
    let new = c.push_items.new.pieces.items in
    let at = turn-place r.0 r.1 n c.loop-turn.place c.loop-turn.invariant.place in
    let items = turn-items r.0 r.1 start n c.loop-turn.place c.segments-items.result.items c.loop-turn.invariant.place c.segments-items.ensures in
    let so_far = at-heap r.0 r.1 (λ h. now ≡ old ++ segment_pieces legend (off + first_place) (take n h.segments)) c.loop-turn.invariant.pieces in
    let more = c.push_items.ensures d c.loop-turn.place (take SEGMENTS_AT_ONCE (drop n r.0.segments)) c.requires.step (c.deref.ensures.0 ∙ items) in
    let turn : n + SEGMENTS_AT_ONCE ≡ SEGMENTS_AT_ONCE * (c.loop-turn._turn + 1) = omega arith in
    let pieces = pieces-on legend off n c.loop-turn.place r.0.segments old now new at so_far more in
    let next : c.match-last.place ≡ place_after (take (n + SEGMENTS_AT_ONCE) r.0.segments) =
    elim c.match-last.branch [
      | in-Some w ↦ w.place-is
          ∙ place-on start n c.loop-turn.place w.place_behind-place.result r.0.segments c.segments-items.result.items w.in-Some.last.now at items
          (w.in-Some.ensures.value ∙ ap (λ xs. slice_get xs (length xs - 1)) c.deref-in-loop-turn.ensures.0) w.place_behind-place.ensures
      | in_default w ↦ w.place-is ∙ place-same start n c.loop-turn.place r.0.segments c.segments-items.result.items at items
          (w.in_default.ensures.value ∙ ap (λ xs. slice_get xs (length xs - 1)) c.deref-in-loop-turn.ensures.0)
    ] in
    let P : ℕ → Type 0 = λ k. new ≡ old ++ segment_pieces legend (off + first_place) (take k r.0.segments) in
    let Q : ℕ → Type 0 = λ k. c.match-last.place ≡ place_after (take k r.0.segments) in
    let few = c.loop-turn.invariant.few in
    let long = pieces-turn legend (off + c.loop-turn.place) (drop n r.0.segments) now new more in
    record {
      pieces = for-heap r.0 r.1 _ (subst P turn pieces);
      place = for-heap r.0 r.1 _ (subst Q turn next);
      few = omega arith;
    }
