use Rattle.rh_pictures.proofs.Common.{◌≡◌, ℕ, ◌+◌, List, length, ap, ap₂, sym, ◌∙◌, max, min, option_map, Task, flex_start, heap_start, flex_cards, heap_cards}
use Rattle.rh_pictures.proofs.Common.{Piece, SlotOf, count_of, Frame, Plot, Census, scene_at}
use Rattle.rh_pictures.proofs.CardLemmas.{flex-long}
use Rattle.rh_pictures.proofs.HeapLemmas.{cards-long, from-first}
use Rattle.rh_pictures.proofs.PageLemmas.{owned, seen-slot}
use Rattle.rh_figure.specs.Cards.{heap_card}
use Rattle.rh_sheet.specs.SheetAreas.{rows_for}
use Rattle.rh_sheet.specs.Owners.{task_class}
use Rattle.rh_scene.specs.declared.sight.PagesOf.TheVariants as pages
use Rattle.rh_scene.specs.declared.sight.TaskSight.{TaskSight}
use Rattle.rh_pictures.proofs.sheet.slots.print_figure.Goals as goal

abbrev frame_with : ℕ → ℕ → ℕ → Frame
frame_with rows above below = record { pages = rows; above = above; below = below }

abbrev plot_with : List ℕ → List Piece → ℕ → Plot
plot_with pages pieces h = record { start = 32768; pages = pages; pieces = pieces; tint = task_class h }

frame-same : {a b c p q r : ℕ} → a ≡ p → b ≡ q → c ≡ r → frame_with a b c ≡ frame_with p q r
frame-same {a} {b} {c} {p} {q} {r} i j k =
    ap (λ z. frame_with z b c) i ∙ (ap (λ z. frame_with p z c) j ∙ ap (frame_with p q) k)

plot-same : {a b : List ℕ} {p q : List Piece} {h k : ℕ} → a ≡ b → p ≡ q → h ≡ k → plot_with a p h ≡ plot_with b q k
plot-same {a} {b} {p} {q} {h} {k} i j l =
    ap (λ z. plot_with z p h) i ∙ (ap (λ z. plot_with b z h) j ∙ ap (plot_with b q) l)

pub take_census-census-requires : goal.take_census-census-requires
take_census-census-requires g c =
    let r = c.requires.task in
    (r.0.slot.heap.segments, from-first r.0.slot.heap (ap (option_map (λ (u : Task). u.slot.heap)) r.1))

pub print_plan-requires-clause-task : goal.print_plan-requires-clause-task
print_plan-requires-clause-task g c =
    let d = g.S.Sight.desk c.args.sight.now in
    let x = scene_at d c.args.step.now in
    let r = c.requires.task in
    let t = r.0 in
    let i = c.args.i in
    let ps = c.args.step.now.pages.now in
    let is = owned c.recall_desk.ensures ps c.requires.step.shared (pages.Slot i) (SlotOf t.handle) c.pages_of-pages.result.now
    (seen-slot c.recall_desk.ensures i t r.1) c.pages_of-pages.ensures in
    let census = c.take_census-census.ensures t.slot.heap.segments (from-first t.slot.heap (ap (option_map (λ (u : Task). u.slot.heap)) r.1)) in
    let blocks = c.blocks-2.ensures t r.1 in
    let rows : c.rows_for.result ≡ rows_for x (SlotOf t.handle) = c.rows_for.ensures ∙ ap₂ (λ (found : List ℕ) h. min 1024 (max (length found) (count_of
    (SlotOf h) x.before.holdings))) is r.2.handle in
    let above : c.len.result ≡ length (flex_cards x t) = c.len.ensures.value ∙ (ap length blocks ∙ sym (flex-long x t (flex_start t.slot) t.slot.blocks)) in
    let below : c.take_census-census.result.count ≡ length (heap_cards x t) = ap (λ (z : Census). z.count) census ∙ sym (cards-long (heap_card x t)
    (heap_start + 16) t.slot.heap.segments) in (
      t,
      r.1,
      r.2,
      record {
        blocks = c.deref-3.ensures.0 ∙ blocks;
        frame = frame-same rows above below;
        plot = plot-same is (c.deref-2.ensures.0 ∙ c.slot_pieces.ensures t r.1) (ap (λ (s : TaskSight). s.handle) c.task.view_is ∙ r.2.handle);
        census = census;
      },
    )
