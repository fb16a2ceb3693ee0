-- The area grows, all blocks slide up, and the heap's end goes up by as much.
use Rattle.rh_slot.proofs.Common.{◌≡◌, ◌+◌, ◌-◌, ◌*◌, refl, subst, ap, to_z, arith, w32, pos, PAGE, raised, left_of, no_answer, heap_in, slot_in}
use Rattle.std.proofs.lemmas.Int.{to_z_pos}
use Rattle.rh_defs.proofs.HeapCalls.{extend-done}
use Rattle.rh_heap.specs.HeapSpans.{SpellsHeapIn}
use Rattle.rh_slot.proofs.GrowLaws.{budged, all_blocks, words_grown, raised_by, slid}
use Rattle.rh_slot.proofs.slot.Slot.lengthen.Goals as goal

pub shift-requires-clause-row : goal.shift-requires-clause-row
shift-requires-clause-row g c =
    let s = slot_in (g.S.Words.memory c.args.store.now) c.args.self in
    let r = c.in-Ok.ensures.ok in
    let lb = c.requires.slot.spells.pages in
    let et = c.top-top.ensures in
    let ef = c.flex_place-from.ensures in
    let lr = r.len in
    all_blocks _ s _ _ (words_grown _ _ s c.requires.slot.spells r.same (omega arith)) ef (omega arith)

pub extend_heap-requires-clause-span : goal.extend_heap-requires-clause-span
extend_heap-requires-clause-span g c =
    (slid (g.S.Words.memory c.args.store.now) _ _ c.args.self _ _ _ _ c.requires.slot.spells c.in-Ok.ensures.ok c.shift.ensures.only.opened
    c.shift.ensures.below c.shift.ensures.only.outside.len
    c.flex_place-from.ensures c.top-top.ensures c.span.ensures).is_span

pub extend_heap-requires-clause-multiple : goal.extend_heap-requires-clause-multiple
extend_heap-requires-clause-multiple g c =
    let s = slid (g.S.Words.memory c.args.store.now) _ _ c.args.self _ _ _ _ c.requires.slot.spells c.in-Ok.ensures.ok c.shift.ensures.only.opened
    c.shift.ensures.below c.shift.ensures.only.outside.len
    c.flex_place-from.ensures c.top-top.ensures c.span.ensures in
    let d : to_z w32 (c.pages_for-more.result * PAGE) ≡ pos (c.pages_for-more.result * PAGE) =
    to_z_pos w32 (c.pages_for-more.result * PAGE) (let r = c.in-Ok.ensures.ok in let l = r.len in
    omega (arith, g.met.S.Words.small c.grow_to.new.store c.args.self.area.0)) in
    let m = c.requires.slot.spells.words.heap.heap.multiple in
    rw (s.heap, d) (omega arith)

pub extend_heap-requires-clause-within : goal.extend_heap-requires-clause-within
extend_heap-requires-clause-within g c =
    let s = slid (g.S.Words.memory c.args.store.now) _ _ c.args.self _ _ _ _ c.requires.slot.spells c.in-Ok.ensures.ok c.shift.ensures.only.opened
    c.shift.ensures.below c.shift.ensures.only.outside.len
    c.flex_place-from.ensures c.top-top.ensures c.span.ensures in
    let d : to_z w32 (c.pages_for-more.result * PAGE) ≡ pos (c.pages_for-more.result * PAGE) =
    to_z_pos w32 (c.pages_for-more.result * PAGE) (let r = c.in-Ok.ensures.ok in let l = r.len in
    omega (arith, g.met.S.Words.small c.grow_to.new.store c.args.self.area.0)) in
    rw (s.heap, d) (let r = s.room in omega arith)

pub unwrap-requires : goal.unwrap-requires
unwrap-requires g c =
    let s = slot_in (g.S.Words.memory c.args.store.now) c.args.self in
    let more = c.pages_for-more.result * PAGE in
    let sl = slid (g.S.Words.memory c.args.store.now) _ _ c.args.self _ _ _ _ c.requires.slot.spells c.in-Ok.ensures.ok c.shift.ensures.only.opened
    c.shift.ensures.below c.shift.ensures.only.outside.len
    c.flex_place-from.ensures c.top-top.ensures c.span.ensures in
    let d : to_z w32 (c.pages_for-more.result * PAGE) ≡ pos (c.pages_for-more.result * PAGE) =
    to_z_pos w32 (c.pages_for-more.result * PAGE) (let r = c.in-Ok.ensures.ok in let l = r.len in
    omega (arith, g.met.S.Words.small c.grow_to.new.store c.args.self.area.0)) in
    let fits = c.requires.slot.spells.words.heap.heap.fits in
    let done = extend-done (to_z w32 more) (heap_in (g.S.Words.memory c.shift.new.store) c.span.result) (rw (sl.heap, d) (omega arith)) in
    rw (c.extend_heap.ensures.answer, done) refl

pub returns-clause-spells : goal.returns-clause-spells
returns-clause-spells g c =
    let s = slot_in (g.S.Words.memory c.args.store.now) c.args.self in
    let from = c.flex_place-from.result in
    let more = c.pages_for-more.result * PAGE in
    let n = c.top-top.result - from in
    let r = c.in-Ok.ensures.ok in
    let lb = c.requires.slot.spells.pages in
    let et = c.top-top.ensures in
    let ef = c.flex_place-from.ensures in
    let lr = r.len in
    let fits = c.requires.slot.spells.words.heap.heap.fits in
    let sl = slid (g.S.Words.memory c.args.store.now) _ _ c.args.self _ _ _ _ c.requires.slot.spells c.in-Ok.ensures.ok c.shift.ensures.only.opened
    c.shift.ensures.below c.shift.ensures.only.outside.len
    c.flex_place-from.ensures c.top-top.ensures c.span.ensures in
    let d : to_z w32 (c.pages_for-more.result * PAGE) ≡ pos (c.pages_for-more.result * PAGE) =
    to_z_pos w32 (c.pages_for-more.result * PAGE) (let r = c.in-Ok.ensures.ok in let l = r.len in
    omega (arith, g.met.S.Words.small c.grow_to.new.store c.args.self.area.0)) in
    let h = heap_in (g.S.Words.memory c.shift.new.store) c.span.result in
    let done = extend-done (to_z w32 more) h (rw (sl.heap, d) (omega arith)) in
    let kept = subst (λ r. SpellsHeapIn (g.S.Words.memory c.extend_heap.new.store) c.span.result (left_of h (no_answer r))) done c.extend_heap.ensures.spells in
    let there = subst (λ h. SpellsHeapIn (g.S.Words.memory c.extend_heap.new.store) c.span.result h)
    (raised_by c.args.shortage more (to_z w32 more) s.heap _ d (ap (λ k. k * PAGE) c.pages_for-more.ensures) sl.heap) kept in
    let outside = rw (sl.heap, c.span.ensures) at c.extend_heap.ensures.only.outside in
    let words = budged _ _ _ s (raised c.args.shortage s.heap) more from (from + more) n _ (words_grown _ _ s c.requires.slot.spells r.same (omega arith)) ef
    refl (omega arith) (omega arith)
    c.shift.ensures.shifted c.shift.ensures.only.outside.len outside (omega arith) (rw c.span.ensures at there) (omega (arith, c.pages_for-more.ensures)) in
    record { words = words; pages = omega (arith, outside.len, c.shift.ensures.only.outside.len, c.pages_for-more.ensures) }
