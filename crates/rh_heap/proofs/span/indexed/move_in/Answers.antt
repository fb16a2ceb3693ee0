use Rattle.rh_heap.proofs.Common.{◌≡◌, ◌+◌, ◌-◌, refl, sym, subst, arith, zeros, IsIndex, Ok, left_of, no_answer, placed_block, fitted, release_block}
use Rattle.rh_heap.proofs.Common.{released_at}
use Rattle.rh_heap.proofs.Common.{Edited-both, Edited-wider, SpellsHeapIn, heap_in}
use Rattle.rh_heap.proofs.BlockLaws.{zeros_long}
use Rattle.rh_heap.proofs.KeepLaws.{other_bytes}
use Rattle.rh_store.specs.Tracts.{ArePeaks}
use Rattle.rh_heap.proofs.PeakKeeps.{other_bytes_peaks}
use Rattle.rh_heap.proofs.ResizeLaws.{length-fitted}
use Rattle.rh_heap.proofs.SpanLaws.{heap_now, is_span}
use Rattle.rh_heap.proofs.MoveLaws.{new_inside, moved_spells, moved_done, moved_released, moved_end}
use Rattle.rh_heap.proofs.span.indexed.move_in.Goals as goal
use Rattle.rh_heap.proofs.span.indexed.move_in.Goals.{After-move_bytes}
use Rattle.rh_heap.proofs.span.indexed.move_in.Given as given

pub move_bytes-requires-clause-target : goal.move_bytes-requires-clause-target
move_bytes-requires-clause-target g c =
    let s = c.requires.span.spells in
    let o = c.in-Some.ensures.only in
    let t = c.in-Some.ensures.took in
    let i = new_inside _ _ _ _ c.requires.span.spells c.requires.found _ c.requires.longer _ _ t.spells t.address_is in
    let l = c.requires.longer in
    omega (arith, i, s.within, o.outside.len)

copied : (g : given.Over) (c : After-move_bytes g) → SpellsHeapIn (g.S.Words.memory c.move_bytes.new.store) c.args.span
    (placed_block (fitted (c.args.size - 4) c.requires.found.bytes) (heap_in (g.S.Words.memory c.args.store.now) c.args.span)).heap
copied g c =
    let t = c.in-Some.ensures.took in
    moved_spells _ _ _ _ c.requires.span.spells c.requires.found _ c.requires.longer _ _ _ t.spells t.address_is c.move_bytes.ensures.bytes
    c.move_bytes.ensures.only.outside

done : (g : given.Over) (c : After-move_bytes g)
    → let h = heap_in (g.S.Words.memory c.move_bytes.new.store) c.args.span in released_at (c.args.spot.place + 4) h ≡ Ok
    (release_block (c.args.spot.place + 4) h)
done g c = moved_released (g.S.Words.memory c.args.store.now) _ _ _ _ c.requires.span.spells c.requires.found c.requires.longer (copied g c)

pub release_by-requires-clause-span : goal.release_by-requires-clause-span
release_by-requires-clause-span g c = is_span _ _ _ c.move_bytes.ensures.only.opened (copied g (goal.at.release_by-requires-clause-span g c).After-move_bytes)

pub unwrap-requires : goal.unwrap-requires
unwrap-requires g c = let d = done g (goal.at.unwrap-requires g c).After-move_bytes in rw (c.release_by.ensures.leaves.answer, d) refl

pub returns-in-Some-clause-moved : goal.returns-in-Some-clause-moved
returns-in-Some-clause-moved g c =
    let k = (goal.at.returns-in-Some-clause-moved g c).After-move_bytes in
    let t = c.in-Some.ensures.took in
    let h = heap_in (g.S.Words.memory c.move_bytes.new.store) c.args.span in
    moved_done _ _ _ _ _ _ _ c.requires.span.spells c.requires.found c.requires.longer t.room t.address_is (copied g k)
    (subst (λ r. SpellsHeapIn (g.S.Words.memory c.release_by.new.store) c.args.span (left_of h (no_answer r))) (done g k) c.release_by.ensures.leaves.spells)

pub returns-in-Some-clause-only : goal.returns-in-Some-clause-only
returns-in-Some-clause-only g c =
    let t = c.in-Some.ensures.took in
    let l = c.requires.longer in
    let i = new_inside _ _ _ _ c.requires.span.spells c.requires.found _ c.requires.longer _ _ t.spells t.address_is in
    let e = moved_end (g.S.Words.memory c.args.store.now) (g.S.Words.memory c.move_bytes.new.store) c.args.span c.args.spot c.args.size
    c.requires.span.spells c.requires.found c.requires.longer (copied g (goal.at.returns-in-Some-clause-only g c).After-move_bytes) in
    Edited-both _ _ _ _ _ _ c.in-Some.ensures.only
    (Edited-both _ _ _ _ _ _ (Edited-wider _ _ _ _ _ _ _ c.move_bytes.ensures.only (omega arith) (omega arith))
    (Edited-wider _ _ _ _ _ _ _ c.release_by.ensures.leaves.only (omega arith) (omega arith)))

pub release_by-requires-clause-starts : goal.release_by-requires-clause-starts
release_by-requires-clause-starts g c =
    let h = heap_in (g.S.Words.memory c.args.store.now) c.args.span in
    let f = c.requires.found in
    let t = c.in-Some.ensures.took in
    let l = c.requires.longer in
    let least = f.least in
    let long = length-fitted (c.args.size - 4) f.bytes in
    let one = subst (IsIndex c.take_in.new.starts) (heap_now (g.S.Words.memory c.take_in.new.store) c.args.span _ t.spells) c.in-Some.ensures.starts in
    subst (IsIndex c.take_in.new.starts) (sym (heap_now (g.S.Words.memory c.move_bytes.new.store) c.args.span _
    (copied g (goal.at.release_by-requires-clause-starts g c).After-move_bytes)))
    (other_bytes _ h c.args.size (zeros (c.args.size - 4)) (fitted (c.args.size - 4) f.bytes) (zeros_long _ (omega arith)) (omega arith) one)

pub release_by-requires-clause-peaks : goal.release_by-requires-clause-peaks
release_by-requires-clause-peaks g c =
    let h = heap_in (g.S.Words.memory c.args.store.now) c.args.span in
    let f = c.requires.found in
    let t = c.in-Some.ensures.took in
    let l = c.requires.longer in
    let least = f.least in
    let long = length-fitted (c.args.size - 4) f.bytes in
    let one = subst (ArePeaks c.take_in.new.peaks) (heap_now (g.S.Words.memory c.take_in.new.store) c.args.span _ t.spells) c.in-Some.ensures.peaks in
    subst (ArePeaks c.take_in.new.peaks) (sym (heap_now (g.S.Words.memory c.move_bytes.new.store) c.args.span _
    (copied g (goal.at.release_by-requires-clause-peaks g c).After-move_bytes)))
    (other_bytes_peaks _ h c.args.size (zeros (c.args.size - 4)) (fitted (c.args.size - 4) f.bytes) (zeros_long _ (omega arith)) (omega arith) one)
