use Rattle.rh_heap.proofs.Common.{◌-◌, ◌/◌, ◌∙◌, subst, sym, arith, zeros, heap_in, IsIndex, Became, USED}
use Rattle.rh_heap.proofs.BlockLaws.{zeros_long}
use Rattle.rh_heap.proofs.KeepLaws.{hole_even, fill_index, append_index}
use Rattle.rh_store.specs.Tracts.{ArePeaks}
use Rattle.rh_heap.proofs.PeakKeeps.{note_room, fill_peaks, append_peaks}
use Rattle.rh_heap.proofs.SpanLaws.{heap_now}
use Rattle.rh_heap.proofs.span.indexed.take_in.Goals as goal

pub note_hole-requires-clause-low : goal.note_hole-requires-clause-low
note_hole-requires-clause-low g c = let m = c.requires.multiple in omega (arith, hole_even _ _ _ _ c.in-Some.ensures.found c.requires.span.spells.heap.tidy)

pub note_hole-requires-clause-upper : goal.note_hole-requires-clause-upper
note_hole-requires-clause-upper g c = let m = c.in-Some.ensures.found.multiple in omega
    (arith, hole_even _ _ _ _ c.in-Some.ensures.found c.requires.span.spells.heap.tidy)

pub returns-in-Some-clause-starts : goal.returns-in-Some-clause-starts
returns-in-Some-clause-starts g c =
    let k = c.fill.ensures.took.spells in
    subst (IsIndex c.note_hole.new.starts) (sym (heap_now (g.S.Words.memory c.fill.new.store) c.args.span _ k))
    (fill_index _ (heap_in (g.S.Words.memory c.args.store.now) c.args.span) _ _ c.in-Some.ensures.found (zeros (c.args.size - 4))
    (zeros_long _ c.requires.least)
    c.requires.span.spells.heap.tidy _ _ _ _ _ c.requires.starts c.set.ensures.bits c.clear.ensures.bits
    (record { used = c.note_hole.ensures.used; holes = c.note_hole.ensures.holes }) (c.note_hole.ensures.long ∙ c.clear.ensures.long ∙ c.set.ensures.long)
    (c.read-base.ensures.value ∙ k.base))

pub returns-else-read-top-clause-starts : goal.returns-else-read-top-clause-starts
returns-else-read-top-clause-starts g c =
    let k = c.append.ensures.took.spells in
    let top = c.read-top.ensures.value ∙ c.requires.span.spells.base in
    subst (IsIndex c.set-in-None.new.starts) (sym (heap_now (g.S.Words.memory c.append.new.store) c.args.span _ k))
    (append_index c.args.span.at (heap_in (g.S.Words.memory c.args.store.now) c.args.span) c.args.size c.in-None.ensures.found (zeros (c.args.size - 4))
    (zeros_long _ c.requires.least) c.requires.span.spells.heap.tidy _ _ c.requires.starts
    (subst (λ p. Became USED (p / 8) 1 c.args.starts.now c.set-in-None.new.starts) top c.set-in-None.ensures.bits) c.set-in-None.ensures.long)

pub note_peak-requires-clause-within : goal.note_peak-requires-clause-within
note_peak-requires-clause-within g c less =
    let k = c.fill.ensures.took.spells in
    let m = c.requires.multiple in
    note_room _ _ _ k _ _ (omega (arith, hole_even _ _ _ _ c.in-Some.ensures.found c.requires.span.spells.heap.tidy)) (c.read-base.ensures.value ∙ k.base) less

pub returns-in-Some-clause-peaks : goal.returns-in-Some-clause-peaks
returns-in-Some-clause-peaks g c =
    let k = c.fill.ensures.took.spells in
    let n = c.note_peak.ensures in
    subst (ArePeaks c.note_peak.new.peaks) (sym (heap_now (g.S.Words.memory c.fill.new.store) c.args.span _ k))
    (fill_peaks _ (heap_in (g.S.Words.memory c.args.store.now) c.args.span) _ _ c.in-Some.ensures.found (zeros (c.args.size - 4))
    (zeros_long _ c.requires.least)
    c.requires.span.spells.heap.tidy _ _ _ _ k c.in-Some.ensures.peaks (record { tree = n.tree; more = n.more; here = n.here; long = n.long })
    (c.read-base.ensures.value ∙ k.base))

pub returns-else-read-top-clause-peaks : goal.returns-else-read-top-clause-peaks
returns-else-read-top-clause-peaks g c =
    let k = c.append.ensures.took.spells in
    subst (ArePeaks c.find_in.new.peaks) (sym (heap_now (g.S.Words.memory c.append.new.store) c.args.span _ k))
    (append_peaks c.args.span.at (heap_in (g.S.Words.memory c.args.store.now) c.args.span) c.args.size c.in-None.ensures.found (zeros (c.args.size - 4))
    (zeros_long _ c.requires.least) _ c.in-None.ensures.peaks)
