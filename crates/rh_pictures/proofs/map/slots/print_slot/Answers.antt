use Rattle.rh_pictures.proofs.Common.{◌≡◌, ◌+◌, ◌++◌, Some, length, ap, sym, ◌∙◌, refl, arith, option_map, map-append, slice_get_within, Task, flex_start, Card}
use Rattle.rh_pictures.proofs.Common.{List, Option, slice_get, flex_cards, shown_cards, card_line, area_rows, Scene, SlotOf, shown_lines, heap_seen, scene_at}
use Rattle.rh_pictures.proofs.Common.{at-some, card_lines, offered_as}
use Rattle.rh_defs.specs.Heap.{first_place}
use Rattle.rh_defs.specs.Slot.{heap_start}
use Rattle.rh_figure.specs.Cards.{cards_from, heap_cards}
use Rattle.rh_figure.specs.Figure.{slot_drawing}
use Rattle.rh_figure.specs.Map.{drawing_lines}
use Rattle.rh_scene.specs.declared.sight.HeapOf.TheVariants as heap_of
use Rattle.rh_scene.specs.declared.sight.PagesOf.TheVariants as pages
use Rattle.rh_scene.proofs.Heaps.{task-slot}
use Rattle.rh_scene.proofs.PieceWalks.{items-long}
use Rattle.rh_scene.proofs.SlotPieces.{few-blocks}
use Rattle.rh_pictures.specs.Bands.{card_of_task}
use Rattle.rh_pictures.proofs.CardLemmas.{cards-lined}
use Rattle.rh_pictures.proofs.DrawingLemmas.{rows-are}
use Rattle.rh_pictures.proofs.PageLemmas.{owned, owned-few, seen-slot}
use Rattle.rh_pictures.proofs.PlaceLemmas.{lines_then}
use Rattle.rh_pictures.proofs.map.slots.print_slot.Goals as goal

pub blocks-requires : goal.blocks-requires
blocks-requires g c = let r = c.requires.task in slice_get_within (g.S.Sight.desk c.args.sight.now).tasks c.args.i r.0 r.1

pub slot_pieces-requires-clause-task : goal.slot_pieces-requires-clause-task
slot_pieces-requires-clause-task g c = let r = c.requires.task in (r.0, r.1, r.2, c.deref.ensures.0 ∙ c.blocks-2.ensures r.0 r.1)

pub print_area-requires-clause-few : goal.print_area-requires-clause-few
print_area-requires-clause-few g c =
    let r = c.requires.task in
    let ps = c.args.step.now.pages.now in
    let seen = seen-slot c.recall_desk.ensures c.args.i r.0 r.1 in
    let is = owned c.recall_desk.ensures ps c.requires.step.shared (pages.Slot c.args.i) (SlotOf r.0.handle) c.pages_of.result.now seen c.pages_of.ensures in
    omega (arith, ap length is, owned-few c.recall_desk.ensures ps c.requires.step.shared (pages.Slot c.args.i) (SlotOf r.0.handle) seen c.requires.step.all)

pub show_flex_cards-requires-clause-task : goal.show_flex_cards-requires-clause-task
show_flex_cards-requires-clause-task g c = let r = c.requires.task in (r.0, r.1, r.2, c.deref-3.ensures.0 ∙ c.blocks-2.ensures r.0 r.1)

pub show_flex_cards-requires-clause-few : goal.show_flex_cards-requires-clause-few
show_flex_cards-requires-clause-few g c =
    let r = c.requires.task in
    let few = few-blocks r.0.slot.blocks (task-slot c.recall_desk.ensures c.args.i r.0 r.1).anchors in
    omega (arith, few, items-long (flex_start r.0.slot) r.0.slot.blocks, ap length (c.deref-3.ensures.0 ∙ c.blocks-2.ensures r.0 r.1))

pub show_heap_cards-requires-clause-band : goal.show_heap_cards-requires-clause-band
show_heap_cards-requires-clause-band g c = let r = c.requires.task in (r.0, r.1, r.2.handle, r.2.taking)

slot-parts : (x : Scene) (t : Task)
    → drawing_lines (Some (slot_drawing x t)) ≡ area_rows (slot_drawing x t) ++
    (card_lines (shown_cards (flex_cards x t)) ++ card_lines (shown_cards (heap_cards x t)))
slot-parts x t = ap (λ z. area_rows (slot_drawing x t) ++ z) (map-append card_line (shown_cards (flex_cards x t)) (shown_cards (heap_cards x t)))

pub returns : goal.returns
returns g c = λ t e.
    let d = g.S.Sight.desk c.args.sight.now in
    let x = scene_at d c.args.step.now in
    let seen = seen-slot c.recall_desk.ensures c.args.i t e in
    let is = owned c.recall_desk.ensures c.args.step.now.pages.now c.requires.step.shared (pages.Slot c.args.i) (SlotOf t.handle) c.pages_of.result.now seen
    c.pages_of.ensures in
    let heap = at-some (heap_seen (heap_of.Task c.args.i) d) _ t.slot.heap (ap (option_map (λ (u : Task). u.slot.heap)) e) c.show_heap_cards.ensures in
    let cards : Option Task → List Card = λ o. shown_cards (cards_from (card_of_task x o) (heap_start + first_place) t.slot.heap.segments) in
    offered_as _ (ap shown_lines (sym (slot-parts x t)))
    (lines_then _ (area_rows (slot_drawing x t)) (card_lines (shown_cards (flex_cards x t)) ++ card_lines (shown_cards (heap_cards x t)))
    (offered_as _ (ap shown_lines (rows-are (slot_drawing x t) _ _ _ refl is (c.deref-2.ensures.0 ∙ c.slot_pieces.ensures t e))) c.print_area.ensures)
    (lines_then _ (card_lines (shown_cards (flex_cards x t))) (card_lines (shown_cards (heap_cards x t)))
    (offered_as _ (cards-lined 0 (shown_cards (flex_cards x t))) (c.show_flex_cards.ensures t e))
    (offered_as _ (cards-lined 0 (cards (slice_get d.tasks c.args.i)) ∙ ap (λ o. shown_lines (card_lines (cards o))) e) heap)))
