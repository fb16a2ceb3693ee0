use Rattle.rh_pictures.proofs.Common.{List, ℕ, AllByRecursion, SlotOf, Piece, IsTaskSeen, Task, ap, arith, block_items, length, offered_as, refl, scene_at}
use Rattle.rh_pictures.proofs.Common.{slice_get, subst, sym, ◌∙◌, ◌≡◌, ◌≤◌, ◌-◌, ◌+◌, rules}
use Rattle.rh_lens.specs.Lens.{look_text}
use Rattle.rh_lens.specs.PlacedSpots.{IsTellable}
use Rattle.rh_lens.specs.Views.{CanBeDrawn, CanBeStripped}
use Rattle.rh_scene.specs.declared.sight.PagesOf.TheVariants as pages
use Rattle.rh_scene.specs.declared.sight.TaskSight.{TaskSight}
use Rattle.rh_pictures.specs.LensContents.{IsSlotPiece}
use Rattle.rh_pictures.proofs.DrawingLemmas.{seen-same}
use Rattle.rh_pictures.proofs.LensLooks.{bands-few, high-tellable, low-tellable, slot-high, slot-look, slot-low, slot-stripped}
use Rattle.rh_pictures.proofs.LensPieces.{slot-many}
use Rattle.rh_pictures.proofs.PageLemmas.{owned, seen-slot}
use Rattle.rh_pictures.proofs.lens.slots.print_lens_of_slot.Goals as goal

pub overflow_sub-above : goal.overflow_sub-above
overflow_sub-above g c =
    let x = scene_at (g.S.Sight.desk c.args.sight.now) c.args.step.now in
    let r = c.requires.task in
    let pieces = c.as_slice-pieces.ensures.value ∙ c.slot_pieces.ensures r.0 r.1 in
    let blocks = c.len.ensures.value ∙ ap length (c.blocks-2.ensures r.0 r.1) in
    omega (arith, ap length pieces, blocks, slot-many x r.0.handle r.0.slot)

pub overflow_sub-above-2 : goal.overflow_sub-above-2
overflow_sub-above-2 g c =
    let x = scene_at (g.S.Sight.desk c.args.sight.now) c.args.step.now in
    let r = c.requires.task in
    let pieces = c.as_slice-pieces.ensures.value ∙ c.slot_pieces.ensures r.0 r.1 in
    let blocks = c.len.ensures.value ∙ ap length (c.blocks-2.ensures r.0 r.1) in
    omega (arith, ap length pieces, blocks, slot-many x r.0.handle r.0.slot)

pub slice_bounds-view-count : goal.slice_bounds-view-count
slice_bounds-view-count g c =
    let x = scene_at (g.S.Sight.desk c.args.sight.now) c.args.step.now in
    let r = c.requires.task in
    let pieces = c.as_slice-pieces.ensures.value ∙ c.slot_pieces.ensures r.0 r.1 in
    let blocks = c.len.ensures.value ∙ ap length (c.blocks-2.ensures r.0 r.1) in
    omega (arith, ap length pieces, blocks, slot-many x r.0.handle r.0.slot)

pub slice_bounds-view-start : goal.slice_bounds-view-start
slice_bounds-view-start g c =
    let x = scene_at (g.S.Sight.desk c.args.sight.now) c.args.step.now in
    let r = c.requires.task in
    let pieces = c.as_slice-pieces.ensures.value ∙ c.slot_pieces.ensures r.0 r.1 in
    let blocks = c.len.ensures.value ∙ ap length (c.blocks-2.ensures r.0 r.1) in
    let low : 1 ≤ length c.as_slice-pieces.result.now - c.len.result - 1 = omega (arith, ap length pieces, blocks, slot-many x r.0.handle r.0.slot) in
    search rules

pub print_slot_lens-requires-clause-view : goal.print_slot_lens-requires-clause-view
print_slot_lens-requires-clause-view g c =
    let d = g.S.Sight.desk c.args.sight.now in
    let x = scene_at d c.args.step.now in
    let is = c.recall_desk.ensures in
    let r = c.requires.task in
    let i = c.args.i in
    let so = c.requires.step in
    let numbers = c.args.step.now.pages.now in
    let found = c.pages_of.result.now in
    let pages_are = owned is numbers so.shared (pages.Slot i) (SlotOf r.0.handle) found (seen-slot is i r.0 r.1) c.pages_of.ensures in
    let pieces = c.as_slice-pieces.ensures.value ∙ c.slot_pieces.ensures r.0 r.1 in
    let blocks = c.len.ensures.value ∙ ap length (c.blocks-2.ensures r.0 r.1) in
    let low = slot-low is x i r.1 pieces blocks refl in
    let high = slot-high is x i r.1 pieces blocks refl in
    let few = bands-few is x i r.1 in
    let Q = IsTellable (IsSlotPiece d i c.args.task.now) in
    record {
      name = omega (arith, c.as_bytes.ensures.short, ap length c.as_bytes.ensures.value);
      strip = subst (CanBeStripped found) (sym pieces) (slot-stripped is x i r.1 numbers found so.shared so.all pages_are);
      heap = subst (AllByRecursion Q) (sym low) (low-tellable is x i r.1 r.2);
      flex = subst (AllByRecursion Q) (sym high) (high-tellable is x i r.1 r.2);
      few_heap = omega (arith, ap length low, few.0);
      few_flex = omega (arith, ap length high, few.1);
      anchors = omega (arith, c.deref-3.ensures.1);
    }

pub returns : goal.returns
returns g c = λ t e.
    let d = g.S.Sight.desk c.args.sight.now in
    let x = scene_at d c.args.step.now in
    let is = c.recall_desk.ensures in
    let r = c.requires.task in
    let i = c.args.i in
    let seen = seen-same (IsTaskSeen c.args.task.now) d.tasks i r.0 t r.1 e r.2 in
    let pages_are = owned is c.args.step.now.pages.now c.requires.step.shared (pages.Slot i) (SlotOf t.handle) c.pages_of.result.now
    (seen-slot is i t e) c.pages_of.ensures in
    let pieces = c.as_slice-pieces.ensures.value ∙ c.slot_pieces.ensures t e in
    let blocks = c.len.ensures.value ∙ ap length (c.blocks-2.ensures t e) in
    let name = c.as_bytes.ensures.value ∙ (ap (λ (s : TaskSight). s.name.now) c.task.view_is ∙ seen.name) in
    let handle = ap (λ (s : TaskSight). s.handle) c.task.view_is ∙ seen.handle in
    let shown = c.shown_anchors.ensures d t (sym seen.handle) (sym (c.deref-2.ensures.0 ∙ c.blocks-2.ensures t e)) in
    let same = slot-look is x i e name handle pages_are pieces (slot-low is x i e pieces blocks refl)
    (slot-high is x i e pieces blocks refl) (c.deref-3.ensures.0 ∙ shown) in
    offered_as _ (ap (λ l. look_text l c.args.size.width c.args.size.scale) same) c.print_slot_lens.ensures
