use Rattle.rh_scene.proofs.Common.{◌≡◌, ◌≤◌, ◌<◌, ◌∙◌, ◌+◌, ◌-◌, ◌++◌, length, take, drop, ap, arith, heap_start_of, scene_at, area_start_of, legend_of}
use Rattle.rh_scene.proofs.Common.{total, first_place, place_after, size_of, more_pieces, segment_pieces, Census, heap_seen}
use Rattle.rh_scene.proofs.Heaps.{seen}
use Rattle.rh_scene.proofs.Holders.{if-some, some-of}
use Rattle.rh_scene.proofs.PieceWalks.{at-heap, comes-at}
use Rattle.rh_scene.proofs.SlotPieces.{area-low, fits-at, front-few, heap-whole, legend-start, more-else, more-then, top-is}
use Rattle.rh_scene.proofs.pieces.push_heap.Goals as goal
use Rattle.rh_scene.proofs.pieces.push_heap.Goals.{then-others-gt0, else-others-gt0}

pub take_census-others-requires : goal.take_census-others-requires
take_census-others-requires g c =
    let r = some-of (heap_seen c.args.drawn.now.heap (g.S.Sight.desk c.args.sight.now)) c.requires.heap in
    let at = at-heap r.0 r.1 (λ k. c.push_segments-place.result ≡ place_after (take 512 k.segments)) c.push_segments-place.ensures.place in
    (drop 512 r.0.segments, comes-at r.0 512 c.push_segments-place.result r.1 at)

pub overflow_sub-others : goal.overflow_sub-others
overflow_sub-others g c =
    let r = some-of (heap_seen c.args.drawn.now.heap (g.S.Sight.desk c.args.sight.now)) c.requires.heap in
    let at = at-heap r.0 r.1 (λ k. c.push_segments-place.result ≡ place_after (take 512 k.segments)) c.push_segments-place.ensures.place in
    let census = c.take_census-others.ensures (drop 512 r.0.segments) (comes-at r.0 512 c.push_segments-place.result r.1 at) in
    omega (arith, ap (λ (x : Census). x.end) census)

pub push-requires-then-others-gt0 : goal.push-requires-then-others-gt0
push-requires-then-others-gt0 g c =
    let d = g.S.Sight.desk c.args.sight.now in
    let heap = c.args.drawn.now.heap in
    let r = some-of (heap_seen heap d) c.requires.heap in
    let off = heap_start_of heap - area_start_of heap in
    let legend = legend_of (scene_at d c.args.step.now) heap c.args.drawn.now.handle in
    let low = c.push.new.self.items in
    let mid = c.push_segments-place.new.pieces.items in
    let segs = at-heap r.0 r.1 (λ h. mid ≡ low ++ segment_pieces legend (off + first_place) (take 512 h.segments)) c.push_segments-place.ensures.pieces in
    let few : length mid < 581 = omega (arith, front-few legend (off + first_place) r.0.segments low mid segs, c.push.ensures.len, c.requires.few) in
    (omega arith, few)

pub overflow_sub-top : goal.overflow_sub-top
overflow_sub-top g c =
    let r = some-of (heap_seen c.args.drawn.now.heap (g.S.Sight.desk c.args.sight.now)) c.requires.heap in
    let at = at-heap r.0 r.1 (λ k. c.push_segments-place.result ≡ place_after (take 512 k.segments)) c.push_segments-place.ensures.place in
    let census = c.take_census-others.ensures (drop 512 r.0.segments) (comes-at r.0 512 c.push_segments-place.result r.1 at) in
    let fits = fits-at 512 c.push_segments-place.result r.0 at (seen c.recall_desk.ensures c.args.drawn.now.heap r.0 r.1) in
    let end = at-heap r.0 r.1 (λ k. c.heap_end.result ≡ k.end) c.heap_end.ensures in
    omega (arith, ap (λ (x : Census). x.end) census)

pub top_piece-requires : goal.top_piece-requires
top_piece-requires g c =
    let r = some-of (heap_seen c.args.drawn.now.heap (g.S.Sight.desk c.args.sight.now)) c.requires.heap in
    let at = at-heap r.0 r.1 (λ k. c.push_segments-place.result ≡ place_after (take 512 k.segments)) c.push_segments-place.ensures.place in
    let census = c.take_census-others.ensures (drop 512 r.0.segments) (comes-at r.0 512 c.push_segments-place.result r.1 at) in
    let s = seen c.recall_desk.ensures c.args.drawn.now.heap r.0 r.1 in
    let fits = fits-at 512 c.push_segments-place.result r.0 at s in
    omega (arith, s.few, ap (λ (x : Census). x.end) census)

pub push-requires-2 : goal.push-requires-2
push-requires-2 g c =
    let d = g.S.Sight.desk c.args.sight.now in
    let heap = c.args.drawn.now.heap in
    let r = some-of (heap_seen heap d) c.requires.heap in
    let off = heap_start_of heap - area_start_of heap in
    let legend = legend_of (scene_at d c.args.step.now) heap c.args.drawn.now.handle in
    let low = c.push.new.self.items in
    let mid = c.push_segments-place.new.pieces.items in
    let segs = at-heap r.0 r.1 (λ h. mid ≡ low ++ segment_pieces legend (off + first_place) (take 512 h.segments)) c.push_segments-place.ensures.pieces in
    let few : length mid ≤ length low + 512 = front-few legend (off + first_place) r.0.segments low mid segs in
    let more : length c.if-others-gt0.pieces.items ≤ length mid + 1 =
    elim c.if-others-gt0.branch [
      | then-others-gt0 w ↦ omega (arith, ap (λ v. length v.items) w.pieces-is, w.push-then-others-gt0.ensures.len)
      | else-others-gt0 w ↦ omega (arith, ap (λ v. length v.items) w.pieces-is)
    ] in
    let all : length c.if-others-gt0.pieces.items < 581 = omega (arith, c.push.ensures.len, c.requires.few) in
    (omega arith, all)

pub returns : goal.returns
returns g c =
    if-some (heap_seen c.args.drawn.now.heap (g.S.Sight.desk c.args.sight.now)) _ (λ h e.
    let d = g.S.Sight.desk c.args.sight.now in
    let heap = c.args.drawn.now.heap in
    let off = heap_start_of heap - area_start_of heap in
    let legend = legend_of (scene_at d c.args.step.now) heap c.args.drawn.now.handle in
    let low = c.push.new.self.items in
    let mid = c.push_segments-place.new.pieces.items in
    let high = c.if-others-gt0.pieces.items in
    let place = c.push_segments-place.result in
    let at = at-heap h e (λ k. place ≡ place_after (take 512 k.segments)) c.push_segments-place.ensures.place in
    let segs = at-heap h e (λ k. mid ≡ low ++ segment_pieces legend (off + first_place) (take 512 k.segments)) c.push_segments-place.ensures.pieces in
    let census = c.take_census-others.ensures (drop 512 h.segments) (comes-at h 512 place e at) in
    let count : c.take_census-others.result.count ≡ length (drop 512 h.segments) = ap (λ (x : Census). x.count) census in
    let end : c.take_census-others.result.end ≡ place + total size_of (drop 512 h.segments) = ap (λ (x : Census). x.end) census in
    let most = at-heap h e (λ k. c.heap_end.result ≡ k.end) c.heap_end.ensures in
    let begins : c.heap_address.result - c.area_address.result ≡ off = omega (arith, c.heap_address.ensures, c.area_address.ensures) in
    let more : high ≡ mid ++ more_pieces (off + first_place + total size_of (take 512 h.segments)) (drop 512 h.segments) =
    elim c.if-others-gt0.branch [
      | then-others-gt0 w ↦ more-then off (total size_of (take 512 h.segments)) c.take_census-others.result.count c.take_census-others.result.end place
          (c.heap_address.result - c.area_address.result) (drop 512 h.segments) mid high w.plain-then-others-gt0.result begins at count end w.if-others-gt0.true
          w.plain-then-others-gt0.ensures (ap (λ v. v.items) w.pieces-is ∙ w.push-then-others-gt0.ensures.items)
      | else-others-gt0 w ↦ more-else (off + first_place + total size_of (take 512 h.segments)) c.take_census-others.result.count (drop 512 h.segments) mid
          high count
          w.if-others-gt0.false (ap (λ v. v.items) w.pieces-is)
    ] in
    let top = top-is legend (heap_start_of heap) (area_start_of heap) (c.heap_address.result - c.area_address.result) c.take_census-others.result.end
    (c.heap_end.result - c.take_census-others.result.end) c.top_piece.result (area-low heap)
    (legend-start (scene_at d c.args.step.now) heap c.args.drawn.now.handle) begins (c.top_piece.ensures d) in
    heap-whole legend off (c.heap_address.result - c.area_address.result) place c.take_census-others.result.end c.heap_end.result h c.args.pieces.now.items
    low mid high
    c.push-2.new.self.items c.plain.result c.top_piece.result begins c.plain.ensures at end most top c.push.ensures.items segs more
    c.push-2.ensures.items)
