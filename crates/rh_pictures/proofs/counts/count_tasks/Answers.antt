use Rattle.rh_pictures.proofs.Common.{length, ap, arith, slice_get_within, rest-none, rest-some}
use Rattle.rh_pictures.proofs.PlaceLemmas.{walk-less}
use Rattle.rh_pictures.proofs.counts.count_tasks.Goals as goal

pub overflow_add-i : goal.overflow_add-i
overflow_add-i g c =
    let s = c.in-Some.ensures.some in
    omega (arith, c.in-Some.ensures.few, slice_get_within (g.S.Sight.desk c.args.sight.now).tasks c.tasks.i s.0 s.1)

pub tasks-smaller : goal.tasks-smaller
tasks-smaller g c = walk-less (g.S.Sight.desk c.args.sight.now).tasks c.tasks.i _ c.in-Some.ensures.some.1

pub tasks-preserved : goal.tasks-preserved
tasks-preserved g c =
    let s = c.in-Some.ensures.some in
    omega (arith, c.tasks.invariant, ap length (rest-some (g.S.Sight.desk c.args.sight.now).tasks c.tasks.i s.0 s.1))

pub returns : goal.returns
returns g c = omega (arith, c.tasks.invariant, ap length (rest-none (g.S.Sight.desk c.args.sight.now).tasks c.tasks.i c.in_default.ensures.none))
