use Rattle.rh_pictures.proofs.Common.{ap, arith, flat_map, slice_get_within, rest-none, rest-some, scene_at}
use Rattle.rh_pictures.specs.Parts.{slot_lines}
use Rattle.rh_pictures.proofs.PlaceLemmas.{left_less, left_none, walk-less}
use Rattle.rh_pictures.proofs.map.slots.print_slot_part.Goals as goal

pub tasks-preserved : goal.tasks-preserved
tasks-preserved g c =
    let d = g.S.Sight.desk c.args.sight.now in
    let x = scene_at d c.args.step.now in
    let r = c.in-Some.ensures.some in
    left_less (slot_lines x r.0) c.tasks.invariant (ap (flat_map (slot_lines x)) (rest-some d.tasks c.tasks.i r.0 r.1)) (c.print_one.ensures r.0 r.1)

pub returns : goal.returns
returns g c =
    let d = g.S.Sight.desk c.args.sight.now in
    let x = scene_at d c.args.step.now in
    left_none c.tasks.invariant (ap (flat_map (slot_lines x)) (rest-none d.tasks c.tasks.i c.in_default.ensures.none))

pub overflow_add-i : goal.overflow_add-i
overflow_add-i g c =
    let s = c.in-Some.ensures.some in
    omega (arith, c.in-Some.ensures.few, slice_get_within (g.S.Sight.desk c.args.sight.now).tasks c.tasks.i s.0 s.1)

pub tasks-smaller : goal.tasks-smaller
tasks-smaller g c = walk-less (g.S.Sight.desk c.args.sight.now).tasks c.tasks.i _ c.in-Some.ensures.some.1
