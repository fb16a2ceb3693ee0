use Rattle.rh_pictures.proofs.Common.{◌≡◌, ℕ, ◌+◌, ◌-◌, List, length, ap, ap₂, subst, sym, ◌∙◌, arith, ◌==◌, ◌^◌, ◌<◌, AllByRecursion, flat_map, option_map}
use Rattle.rh_pictures.proofs.Common.{Task, task_at, BlockItem, flex_start, heap_start, flex_cards, heap_cards, shown_cards, item_with_anchor, slide_of, Text}
use Rattle.rh_pictures.proofs.Common.{where_so, Scene, SlotOf, ticks_text, Frame, Plot, IsTaskSeen, heap_seen, scene_at, task-slot, at-some, items-long}
use Rattle.rh_pictures.proofs.Common.{few-blocks, offered_as, IsSlotPlan}
use Rattle.rh_pictures.proofs.PageLemmas.{owned-few, seen-slot}
use Rattle.rh_defs.specs.Heap.{first_place}
use Rattle.rh_figure.specs.Cards.{cards_from}
use Rattle.rh_sheet.specs.SheetAreas.{slot_frame, slot_lenses}
use Rattle.rh_sheet.specs.Arrows.{slide_arrow}
use Rattle.rh_sheet.specs.SheetCards.{cards_above, cards_below}
use Rattle.rh_sheet.specs.Frames.{row_y, rows_foot, rows_top}
use Rattle.rh_sheet.specs.SheetRows.{rows_text}
use Rattle.rh_scene.specs.declared.sight.HeapOf.TheVariants as heap_of
use Rattle.rh_scene.specs.declared.sight.PagesOf.TheVariants as pages
use Rattle.rh_scene.proofs.Heaps.{task-length}
use Rattle.rh_pictures.specs.Bands.{card_of_task}
use Rattle.rh_pictures.proofs.DrawingLemmas.{task-stands, seen-same}
use Rattle.rh_pictures.specs.Inner.BandTexts.{band_text}
use Rattle.rh_pictures.specs.declared.sheet.bands.BandForm.TheVariants.{Below}
use Rattle.rh_pictures.proofs.LensLemmas.{arrow-same}
use Rattle.rh_pictures.proofs.SlotLemmas.{EndsBy, anchors-small, slot-ends}
use Rattle.rh_pictures.proofs.TextPuts.{text_last, text_then}
use Rattle.rh_pictures.proofs.sheet.slots.print_body.Goals as goal

-- the arrow of a task's slide, by its parts
abbrev arrow_with : Scene → ℕ → Frame → List BlockItem → Text
arrow_with x h f blocks = where_so (h == x.before.handle) (slide_arrow f
    (flat_map (λ (b : BlockItem). slide_of b (item_with_anchor b.anchor x.before.blocks)) blocks))

parts-same : (x : Scene) {h k : ℕ} {f g : Frame} {bs cs : List BlockItem} → h ≡ k → f ≡ g → bs ≡ cs → arrow_with x h f bs ≡ arrow_with x k g cs
parts-same x {h} {k} {f} {g} {bs} {cs} i j l =
    ap (λ z. arrow_with x z f bs) i ∙ (ap (λ z. arrow_with x k z bs) j ∙ ap (arrow_with x k g) l)

pub show_flex_cards-requires-clause-few : goal.show_flex_cards-requires-clause-few
show_flex_cards-requires-clause-few g c =
    let r = c.requires.task in
    let few = few-blocks r.0.slot.blocks (task-slot c.recall_desk.ensures c.args.plan.now.i r.0 r.1).anchors in
    omega (arith, few, items-long (flex_start r.0.slot) r.0.slot.blocks, ap length r.3.blocks)

pub print_arrow_of-requires : goal.print_arrow_of-requires
print_arrow_of-requires g c =
    let r = c.requires.task in
    let few = few-blocks r.0.slot.blocks (task-slot c.recall_desk.ensures c.args.plan.now.i r.0 r.1).anchors in
    omega (arith, few, items-long (flex_start r.0.slot) r.0.slot.blocks, ap length r.3.blocks)

pub print_rows-requires-clause-few : goal.print_rows-requires-clause-few
print_rows-requires-clause-few g c =
    let r = c.requires.task in
    let i = c.args.plan.now.i in
    let ps = c.args.step.now.pages.now in
    let few = owned-few c.recall_desk.ensures ps c.requires.step.shared (pages.Slot i) (SlotOf r.0.handle)
    (seen-slot c.recall_desk.ensures i r.0 r.1) c.requires.step.all in
    omega (arith, few, ap (λ (z : Plot). length z.pages) r.3.plot)

pub print_rows-requires-clause-pieces : goal.print_rows-requires-clause-pieces
print_rows-requires-clause-pieces g c =
    let d = g.S.Sight.desk c.args.sight.now in
    let x = scene_at d c.args.step.now in
    let r = c.requires.task in
    let i = c.args.plan.now.i in
    let ends = slot-ends (2 ^ 30) x r.0.handle r.0.slot (task-slot c.recall_desk.ensures i r.0 r.1).heap.fits (omega
    (arith, (task-length c.recall_desk.ensures i r.0 r.1).1)) in
    subst (AllByRecursion (EndsBy (2 ^ 30))) (sym (ap (λ (z : Plot). z.pieces) r.3.plot)) ends

pub print_ticks-requires : goal.print_ticks-requires
print_ticks-requires g c =
    let r = c.requires.task in
    let small = anchors-small (flex_start r.0.slot) r.0.slot.blocks (task-slot c.recall_desk.ensures c.args.plan.now.i r.0 r.1).anchors in
    subst (AllByRecursion (λ (b : BlockItem). b.anchor < 64)) (sym r.3.blocks) small

pub returns : goal.returns
returns g c = λ t e.
    let d = g.S.Sight.desk c.args.sight.now in
    let x = scene_at d c.args.step.now in
    let r = c.requires.task in
    let i = c.args.plan.now.i in
    let seen = seen-same (IsTaskSeen c.args.task.now) d.tasks i r.0 t r.1 e r.2 in
    let p = seen-same (λ u. IsSlotPlan x u c.args.plan.now) d.tasks i r.0 t r.1 e r.3 in
    let f = slot_frame x t in
    let heap = at-some (heap_seen (heap_of.Task i) d) _ t.slot.heap (ap (option_map (λ (u : Task). u.slot.heap)) e) c.show_heap_cards.ensures in
    text_then (g.P.Pen.offered c.args.pen.now) _ _ (offered_as _ (ap (λ z. slot_lenses z t.slot) p.frame) (c.print_lenses.ensures t e))
    (text_then (g.P.Pen.offered c.print_lenses.new.pen) _ _ (offered_as _ (ap (λ n. cards_above n (flex_cards x t))
    (c.saturating_sub.ensures ∙ ap (λ n. n - 16) (c.top.ensures.value ∙ ap rows_top p.frame))) (c.show_flex_cards.ensures t e))
    (text_then (g.P.Pen.offered c.show_flex_cards.new.pen) _ _ (offered_as _ (ap₂ rows_text p.frame p.plot) c.print_rows.ensures)
    (text_then (g.P.Pen.offered c.print_rows.new.pen) _ _
    (offered_as _ (ap₂ ticks_text (c.row_y.ensures.value ∙ ap (λ z. row_y z 0) p.frame) p.blocks) c.print_ticks.ensures)
    (text_then (g.P.Pen.offered c.print_ticks.new.pen) _ _ (offered_as _ (parts-same x seen.handle p.frame p.blocks
    ∙ arrow-same x f t (λ q. ap (λ h. task_at h d) (sym q) ∙ task-stands c.recall_desk.ensures i t e)) c.print_arrow_of.ensures)
    (text_last _ _ (offered_as _ (ap (λ o. band_text (Below (c.foot.result + 16)) (shown_cards (cards_from (card_of_task x o)
    (heap_start + first_place) t.slot.heap.segments))) e ∙ ap (λ n. cards_below (n + 16) (heap_cards x t)) (c.foot.ensures.value ∙ ap rows_foot p.frame))
    heap))))))
