use Rattle.rh_scene.proofs.Common.{◌≡◌, ◌+◌, ap, arith, refl, heap_seen, total, size_of, Census}
use Rattle.rh_scene.proofs.Heaps.{room, seen}
use Rattle.rh_scene.proofs.Holders.{some-of}
use Rattle.rh_scene.proofs.PieceWalks.{at-heap, comes-at}
use Rattle.rh_scene.proofs.segments.free_on_top.Goals as goal

pub take_census-census-requires : goal.take_census-census-requires
take_census-census-requires g c =
    let r = some-of (heap_seen c.args.heap (g.S.Sight.desk c.args.sight.now)) c.requires in
    (r.0.segments, comes-at r.0 0 16 r.1 refl)

pub overflow_sub-result : goal.overflow_sub-result
overflow_sub-result g c =
    let r = some-of (heap_seen c.args.heap (g.S.Sight.desk c.args.sight.now)) c.requires in
    let w = comes-at r.0 0 16 r.1 refl in
    let fits = (room w (seen c.recall_desk.ensures c.args.heap w.heap w.is)).fits in
    let end : c.take_census-census.result.end ≡ 16 + total size_of r.0.segments =
    ap (λ (x : Census). x.end) (c.take_census-census.ensures r.0.segments w) in
    let most = at-heap w.heap w.is (λ k. c.heap_end.result ≡ k.end) c.heap_end.ensures in
    omega arith
