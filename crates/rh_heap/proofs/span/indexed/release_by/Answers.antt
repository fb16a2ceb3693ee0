use Rattle.rh_heap.proofs.Common.{◌∙◌, ap, subst, sym, arith, no_answer, release_block, released_at-some, SpellsHeapIn, heap_in, IsIndex}
use Rattle.rh_heap.proofs.CallLaws.{leaves}
use Rattle.rh_heap.proofs.KeepLaws.{place_even, low_even, release_index}
use Rattle.rh_store.specs.Tracts.{ArePeaks}
use Rattle.rh_heap.proofs.PeakKeeps.{note_room, release_peaks}
use Rattle.rh_heap.proofs.SpanLaws.{heap_now}
use Rattle.rh_heap.proofs.WayLaws.{at_place}
use Rattle.rh_heap.proofs.span.indexed.release_by.Goals as goal

pub note_hole-requires-clause-low : goal.note_hole-requires-clause-low
note_hole-requires-clause-low g c = low_even _ _ _ _ c.requires.span.spells.heap.tidy c.in-Some.ensures

pub note_hole-requires-clause-upper : goal.note_hole-requires-clause-upper
note_hole-requires-clause-upper g c = let m = c.in-Some.ensures.multiple in omega (arith, place_even _ _ _ _ c.requires.span.spells.heap.tidy c.in-Some.ensures)

pub returns-clause-leaves : goal.returns-clause-leaves
returns-clause-leaves g c =
    let h = heap_in (g.S.Words.memory c.args.store.now) c.args.span in
    let f = c.in-Some.ensures in
    leaves _ _ _ _ _ tt (ap no_answer (released_at-some c.args.address h _ f.found))
    (subst (λ a. SpellsHeapIn (g.S.Words.memory c.free_segment.new.store) c.args.span (release_block a h)) f.address_is c.free_segment.ensures.spells)
    c.free_segment.ensures.only

pub returns-clause-starts : goal.returns-clause-starts
returns-clause-starts g c =
    let k = c.free_segment.ensures.spells in
    subst (IsIndex c.note_hole.new.starts) (sym (heap_now (g.S.Words.memory c.free_segment.new.store) c.args.span _ k))
    (release_index _ (heap_in (g.S.Words.memory c.args.store.now) c.args.span) _ _ c.requires.span.spells.heap.tidy (at_place c.in-Some.ensures) _ _ _ _
    c.requires.starts c.clear.ensures.bits
    (record { used = c.note_hole.ensures.used; holes = c.note_hole.ensures.holes }) (c.note_hole.ensures.long ∙ c.clear.ensures.long)
    (c.read-base.ensures.value ∙ k.base))

pub note_peak-requires-clause-within : goal.note_peak-requires-clause-within
note_peak-requires-clause-within g c less =
    let k = c.free_segment.ensures.spells in
    note_room _ _ _ k _ _ (low_even _ _ _ _ c.requires.span.spells.heap.tidy c.in-Some.ensures) (c.read-base.ensures.value ∙ k.base) less

pub returns-clause-peaks : goal.returns-clause-peaks
returns-clause-peaks g c =
    let k = c.free_segment.ensures.spells in
    let n = c.note_peak.ensures in
    subst (ArePeaks c.note_peak.new.peaks) (sym (heap_now (g.S.Words.memory c.free_segment.new.store) c.args.span _ k))
    (release_peaks _ (heap_in (g.S.Words.memory c.args.store.now) c.args.span) _ _ c.requires.span.spells.heap.tidy (at_place c.in-Some.ensures) _ _ _ _ k
    c.requires.peaks (record { tree = n.tree; more = n.more; here = n.here; long = n.long }) (c.read-base.ensures.value ∙ k.base))
