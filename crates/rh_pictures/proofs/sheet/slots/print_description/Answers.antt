use Rattle.rh_pictures.proofs.Common.{◌≡◌, ◌+◌, ◌++◌, [], ◌∷◌, length, ap, ap₂, append-nil, append_assoc, sym, ◌∙◌, arith, codes, concat, option_map}
use Rattle.rh_pictures.proofs.Common.{flat_map-append, Task, flex_start, heap_start, flex_cards, heap_cards, shown_cards, Text, size_text, SlotOf, escape}
use Rattle.rh_pictures.proofs.Common.{escaped_byte, Plot, IsTaskSeen, heap_seen, scene_at, task-slot, at-some, items-long, few-blocks, offered_as, IsSlotPlan}
use Rattle.rh_pictures.proofs.DrawingLemmas.{seen-same}
use Rattle.rh_pictures.proofs.PageLemmas.{owned-few, seen-slot}
use Rattle.rh_defs.specs.Heap.{first_place}
use Rattle.rh_figure.specs.Cards.{cards_from}
use Rattle.rh_sheet.specs.SheetAreas.{pages_sentence}
use Rattle.rh_sheet.specs.SheetCards.{cards_sentences}
use Rattle.rh_scene.specs.declared.sight.HeapOf.TheVariants as heap_of
use Rattle.rh_scene.specs.declared.sight.PagesOf.TheVariants as pages
use Rattle.rh_pictures.specs.Bands.{card_of_task}
use Rattle.rh_pictures.specs.Inner.BandTexts.{band_text}
use Rattle.rh_pictures.specs.declared.sheet.bands.BandForm.TheVariants.{Told}
use Rattle.rh_pictures.proofs.BandLemmas.{told-all}
use Rattle.rh_pictures.proofs.TextPuts.{text_then}
use Rattle.rh_pictures.proofs.sheet.slots.print_description.Goals as goal

-- the parts of what is read out, as they are written
parts : (a b c d e f : Text) → escape a ++ (escape (b ++ (c ++ d)) ++ (escape e ++ escape f)) ≡ escape (concat (a ∷ b ∷ c ∷ d ∷ e ∷ f ∷ []))
parts a b c d e f =
    let z = e ++ f in
    let y = b ++ (c ++ d) in
    let long : y ++ z ≡ b ++ (c ++ (d ++ z)) = append_assoc b (c ++ d) z ∙ ap (λ s. b ++ s) (append_assoc c d z) in
    ap (λ s. escape a ++ (escape y ++ s)) (sym (flat_map-append escaped_byte e f))
    ∙ (ap (λ s. escape a ++ s) (sym (flat_map-append escaped_byte y z))
    ∙ (sym (flat_map-append escaped_byte a (y ++ z))
    ∙ (ap (λ s. escape (a ++ s)) long
    ∙ ap (λ s. escape (a ++ (b ++ (c ++ (d ++ (e ++ s)))))) (sym (append-nil f)))))

pub put_pages-requires : goal.put_pages-requires
put_pages-requires g c =
    let r = c.requires.task in
    let i = c.args.plan.now.i in
    let ps = c.args.step.now.pages.now in
    let few = owned-few c.recall_desk.ensures ps c.requires.step.shared (pages.Slot i) (SlotOf r.0.handle)
    (seen-slot c.recall_desk.ensures i r.0 r.1) c.requires.step.all in
    omega (arith, few, ap (λ (z : Plot). length z.pages) r.3.plot)

pub show_flex_cards-requires-clause-few : goal.show_flex_cards-requires-clause-few
show_flex_cards-requires-clause-few g c =
    let r = c.requires.task in
    let few = few-blocks r.0.slot.blocks (task-slot c.recall_desk.ensures c.args.plan.now.i r.0 r.1).anchors in
    omega (arith, few, items-long (flex_start r.0.slot) r.0.slot.blocks, ap length r.3.blocks)

pub returns : goal.returns
returns g c = λ t e.
    let d = g.S.Sight.desk c.args.sight.now in
    let x = scene_at d c.args.step.now in
    let r = c.requires.task in
    let i = c.args.plan.now.i in
    let seen = seen-same (IsTaskSeen c.args.task.now) d.tasks i r.0 t r.1 e r.2 in
    let p = seen-same (λ u. IsSlotPlan x u c.args.plan.now) d.tasks i r.0 t r.1 e r.3 in
    let heap = cards_sentences (heap_cards x t) in
    let words : c.as_slice.result.now ≡ codes "C heap of " ++ (size_text t.slot.heap.end ++ codes ". ") =
    c.as_slice.ensures ∙ (c.text-2.ensures ∙ (ap (λ z. z ++ codes ". ")
    (c.add_size.ensures.value ∙ ap₂ (λ z n. z ++ size_text n) (c.text.ensures ∙ ap (λ z. z ++ codes "C heap of ") c.new-row.ensures) seen.heap_end)
    ∙ append_assoc (codes "C heap of ") (size_text t.slot.heap.end) (codes ". "))) in
    offered_as _ (parts (pages_sentence (x.share.pages_of (SlotOf t.handle))) (codes "C heap of ") (size_text t.slot.heap.end) (codes ". ") heap
    (cards_sentences (flex_cards x t)))
    (text_then (g.P.Pen.offered c.args.pen.now) _ _ (offered_as _ (ap (λ (z : Plot). escape (pages_sentence z.pages)) p.plot) c.put_pages.ensures)
    (text_then (g.P.Pen.offered c.put_pages.new.pen) _ _ (offered_as _ (ap escape words) c.put_escaped.ensures)
    (text_then (g.P.Pen.offered c.put_escaped.new.pen) _ _ (offered_as _ (ap (λ o. band_text Told (shown_cards
    (cards_from (card_of_task x o) (heap_start + first_place) t.slot.heap.segments))) e ∙ told-all 0 (shown_cards (heap_cards x t))) (at-some (heap_seen
    (heap_of.Task i) d) _ t.slot.heap (ap (option_map (λ (u : Task). u.slot.heap)) e) c.show_heap_cards.ensures))
    (offered_as _ (told-all 0 (shown_cards (flex_cards x t))) (c.show_flex_cards.ensures t e)))))
