use Rattle.rh_pictures.proofs.Common.{suc, add-one, ◌+◌, drop, ap, ap₂, sym, ◌∙◌, arith, slice_get_within, SlotOf, share_in, rest-none, rest-some, marked}
use Rattle.rh_pictures.proofs.Common.{marked_all, slot_pages_from}
use Rattle.rh_scene.specs.declared.sight.PagesOf.TheVariants as pages
use Rattle.rh_pictures.proofs.PageLemmas.{owned, seen-slot}
use Rattle.rh_pictures.proofs.map.pool.mark_slots.Goals as goal

pub slot_mark-requires : goal.slot_mark-requires
slot_mark-requires g c =
    let s = c.in-Some.ensures.some in
    omega (arith, c.in-Some.ensures.few, slice_get_within (g.S.Sight.desk c.args.sight.now).tasks c.tasks.i s.0 s.1)

pub tasks-preserved : goal.tasks-preserved
tasks-preserved g c =
    let d = g.S.Sight.desk c.args.sight.now in
    let ps = c.args.step.now.pages.now in
    let s = share_in ps d in
    let r = c.in-Some.ensures.some in
    let i = c.tasks.i in
    let rest = drop (i + 1) d.tasks in
    let is = owned c.recall_desk.ensures ps c.requires.shared (pages.Slot i) (SlotOf r.0.handle) c.pages_of-pages.result.now
    (seen-slot c.recall_desk.ensures i r.0 r.1) c.pages_of-pages.ensures in
    ap (λ n. marked_all (slot_pages_from s n rest) c.mark_pages.new.marks) (add-one i)
    ∙ (ap (marked_all (slot_pages_from s (suc i) rest)) (c.mark_pages.ensures ∙ ap₂ (λ z m. marked z m c.tasks.marks) is c.slot_mark.ensures)
    ∙ (ap (λ z. marked_all (slot_pages_from s i z) c.tasks.marks) (sym (rest-some d.tasks i r.0 r.1)) ∙ c.tasks.invariant))

pub returns : goal.returns
returns g c =
    let d = g.S.Sight.desk c.args.sight.now in
    ap (λ z. marked_all (slot_pages_from (share_in c.args.step.now.pages.now d) c.tasks.i z) c.tasks.marks)
    (sym (rest-none d.tasks c.tasks.i c.in_default.ensures.none)) ∙ c.tasks.invariant
