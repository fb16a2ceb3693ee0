use Rattle.rh_pictures.proofs.Common.{arith, slice_get_within}
use Rattle.rh_scene.proofs.Places.{past-end}
use Rattle.rh_pictures.proofs.PlaceLemmas.{walk-less}
use Rattle.rh_pictures.proofs.counts.count_made.Goals as goal

pub overflow_add-i : goal.overflow_add-i
overflow_add-i g c =
    let inside = slice_get_within (g.S.Sight.desk c.args.sight.now).made c.areas.i _ c.in-Some.ensures.some in
    let few = c.in-Some.ensures.few in
    omega arith

pub areas-smaller : goal.areas-smaller
areas-smaller g c = walk-less (g.S.Sight.desk c.args.sight.now).made c.areas.i _ c.in-Some.ensures.some

pub areas-preserved : goal.areas-preserved
areas-preserved g c =
    let inside = slice_get_within (g.S.Sight.desk c.args.sight.now).made c.areas.i _ c.in-Some.ensures.some in
    omega arith

pub returns : goal.returns
returns g c =
    let past = past-end (g.S.Sight.desk c.args.sight.now).made c.areas.i c.in_default.ensures.none in
    let so_far = c.areas.invariant in
    let few = c.in_default.ensures.few in
    record { count = omega arith; few = omega arith }
