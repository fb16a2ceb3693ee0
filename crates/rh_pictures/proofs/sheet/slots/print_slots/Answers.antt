use Rattle.rh_pictures.proofs.Common.{refl, arith, flat_map, slice_get_within, left_less, left_none, slot_part, scene_at}
use Rattle.rh_pictures.specs.SheetForms.{looks_of}
use Rattle.rh_pictures.proofs.TextWalks.{text-none, text-some}
use Rattle.rh_pictures.proofs.PlaceLemmas.{walk-less}
use Rattle.rh_pictures.proofs.sheet.slots.print_slots.Goals as goal

pub tasks-preserved : goal.tasks-preserved
tasks-preserved g c =
    let d = g.S.Sight.desk c.args.sight.now in
    let x = scene_at d c.args.step.now in
    let r = c.in-Some.ensures.some in
    left_less _ c.tasks.invariant
    (text-some (flat_map (slot_part (looks_of c.args.lens) x)) (slot_part (looks_of c.args.lens) x) (λ t rest. refl) d.tasks c.tasks.i r.0 r.1)
    (c.print_slot.ensures r.0 r.1)

pub returns : goal.returns
returns g c =
    let d = g.S.Sight.desk c.args.sight.now in
    let x = scene_at d c.args.step.now in
    left_none c.tasks.invariant (text-none (flat_map (slot_part (looks_of c.args.lens) x)) refl d.tasks c.tasks.i c.in_default.ensures.none)

pub overflow_add-i : goal.overflow_add-i
overflow_add-i g c =
    let s = c.in-Some.ensures.some in
    omega (arith, c.in-Some.ensures.few, slice_get_within (g.S.Sight.desk c.args.sight.now).tasks c.tasks.i s.0 s.1)

pub tasks-smaller : goal.tasks-smaller
tasks-smaller g c = walk-less (g.S.Sight.desk c.args.sight.now).tasks c.tasks.i _ c.in-Some.ensures.some.1
