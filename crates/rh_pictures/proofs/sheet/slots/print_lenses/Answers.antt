use Rattle.rh_pictures.proofs.Common.{◌≡◌, ◌+◌, length, ap, refl, sym, ◌∙◌, arith, base, flex_start, heap_start, flex_cards, heap_cards, SlotOf, Frame, Census}
use Rattle.rh_pictures.proofs.Common.{IsTaskSeen, scene_at, task-slot, items-long, few-blocks, offered_as, IsSlotPlan}
use Rattle.rh_pictures.proofs.CardLemmas.{flex-long}
use Rattle.rh_pictures.proofs.DrawingLemmas.{seen-same}
use Rattle.rh_pictures.proofs.HeapLemmas.{cards-long}
use Rattle.rh_figure.specs.Cards.{heap_card}
use Rattle.rh_scene.specs.declared.sight.PagesOf.TheVariants as pages
use Rattle.rh_pictures.proofs.PageLemmas.{owned-slot, owned-few, seen-slot}
use Rattle.rh_pictures.proofs.LensLemmas.{above-same, below-same}
use Rattle.rh_pictures.proofs.TextPuts.{text_then}
use Rattle.rh_pictures.proofs.sheet.slots.print_lenses.Goals as goal

pub overflow_cast-count : goal.overflow_cast-count
overflow_cast-count g c =
    let r = c.requires.task in
    let few = few-blocks r.0.slot.blocks (task-slot c.recall_desk.ensures c.args.plan.now.i r.0 r.1).anchors in
    omega (arith, few, items-long (flex_start r.0.slot) r.0.slot.blocks, ap length r.3.blocks)

pub print_lens_above-requires-clause-frame : goal.print_lens_above-requires-clause-frame
print_lens_above-requires-clause-frame g c =
    let r = c.requires.task in
    omega (arith, ap (λ (f : Frame). f.pages) r.3.frame)

pub print_lens_above-requires-clause-within : goal.print_lens_above-requires-clause-within
print_lens_above-requires-clause-within g c =
    let d = g.S.Sight.desk c.args.sight.now in
    let x = scene_at d c.args.step.now in
    let r = c.requires.task in
    let i = c.args.plan.now.i in
    let ps = c.args.step.now.pages.now in
    let few = owned-few c.recall_desk.ensures ps c.requires.step.shared (pages.Slot i) (SlotOf r.0.handle)
    (seen-slot c.recall_desk.ensures i r.0 r.1) c.requires.step.all in
    omega (
      arith,
      ap (λ
          (f : Frame). f.pages) r.3.frame,
      few,
      owned-slot c.recall_desk.ensures ps c.requires.step.shared i r.0 r.1,
      c.flex_end-high.ensures x r.0 r.3.plot,
    )

pub returns : goal.returns
returns g c = λ t e.
    let d = g.S.Sight.desk c.args.sight.now in
    let x = scene_at d c.args.step.now in
    let r = c.requires.task in
    let i = c.args.plan.now.i in
    let seen = seen-same (IsTaskSeen c.args.task.now) d.tasks i r.0 t r.1 e r.2 in
    let p = seen-same (λ u. IsSlotPlan x u c.args.plan.now) d.tasks i r.0 t r.1 e r.3 in
    let f = c.args.plan.now.frame in
    let flex : f.above ≡ length (flex_cards x t) = ap (λ (z : Frame). z.above) p.frame in
    let heap : f.below ≡ length (heap_cards x t) = ap (λ (z : Frame). z.below) p.frame in
    let blocks : length c.args.plan.now.blocks.now ≡ f.above = ap length p.blocks ∙ (sym (flex-long x t (flex_start t.slot) t.slot.blocks) ∙ sym flex) in
    let count : c.args.plan.now.census.count ≡ f.below = ap (λ (z : Census). z.count) p.census ∙ (sym (cards-long (heap_card x t)
    (heap_start + 16) t.slot.heap.segments) ∙ sym heap) in
    let end : c.args.plan.now.census.end ≡ base t.slot.heap = ap (λ (z : Census). z.end) p.census in
    text_then _ _ _
    (offered_as _ (above-same f (ap (λ n. 256 + n) seen.heap_end) (c.flex_end-high.ensures x t p.plot) blocks) c.print_lens_above.ensures)
    (offered_as _ (below-same f {a = 272} refl (ap (λ n. 256 + n) end) count) c.print_lens_below.ensures)
