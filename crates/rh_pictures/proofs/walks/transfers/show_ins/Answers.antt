use Rattle.rh_pictures.proofs.Common.{map, ap₂, refl, arith, flat_map, slice_get_within, Task, alone_among, comes_alone, ins_named, outs_of, offered_as}
use Rattle.rh_map.proofs.Left.{left_less, left_none}
use Rattle.rh_pictures.proofs.TransferLemmas.{ins-flat}
use Rattle.rh_pictures.proofs.TextPuts.{left_from}
use Rattle.rh_pictures.proofs.TextWalks.{text-none, text-some}
use Rattle.rh_pictures.proofs.PlaceLemmas.{walk-less}
use Rattle.rh_pictures.proofs.walks.transfers.show_ins.Goals as goal

pub tasks-init : goal.tasks-init
tasks-init g c =
    let d = g.S.Sight.desk c.args.sight.now in
    left_from _ (ins-flat g.A.Artist.transfer_text (outs_of d) d.tasks)

pub tasks-preserved : goal.tasks-preserved
tasks-preserved g c =
    let d = g.S.Sight.desk c.args.sight.now in
    let s = c.in-Some.ensures.some in
    let element = g.A.Artist.transfer_text in
    let of_one = λ (t : Task). flat_map element (map comes_alone (alone_among (outs_of d) (ins_named t.name t.taking))) in
    let next = text-some (flat_map of_one) of_one (λ t rest. refl) d.tasks c.tasks.i s.0 s.1 in
    let same = ap₂ (λ n rs. flat_map element (map comes_alone (alone_among (outs_of d) (ins_named n rs)))) s.2.name s.2.taking in
    left_less _ c.tasks.invariant next (offered_as _ same c.show_task_ins.ensures)

pub returns : goal.returns
returns g c =
    let d = g.S.Sight.desk c.args.sight.now in
    let of_one = λ (t : Task). flat_map g.A.Artist.transfer_text (map comes_alone (alone_among (outs_of d) (ins_named t.name t.taking))) in
    left_none c.tasks.invariant (text-none (flat_map of_one) refl d.tasks c.tasks.i c.in_default.ensures.none)

pub overflow_add-i : goal.overflow_add-i
overflow_add-i g c =
    let s = c.in-Some.ensures.some in
    omega (arith, c.in-Some.ensures.few, slice_get_within (g.S.Sight.desk c.args.sight.now).tasks c.tasks.i s.0 s.1)

pub tasks-smaller : goal.tasks-smaller
tasks-smaller g c = walk-less (g.S.Sight.desk c.args.sight.now).tasks c.tasks.i _ c.in-Some.ensures.some.1
