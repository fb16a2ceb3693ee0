use Rattle.rh_heap.proofs.Common.{◌∙◌, subst, sym, arith, SpellsHeapIn, heap_in, IsIndex, resized_in}
use Rattle.rh_heap.proofs.ChangeLaws.{changed_stays, changed_shrinks, changed_into, changed_top, changed_moves}
use Rattle.rh_heap.proofs.KeepLaws.{place_even, shrinks_shorter, shrink_index, widen_index, raise_index}
use Rattle.rh_heap.proofs.ResizeLaws.{into, top, widen_bounds, widen_even}
use Rattle.rh_store.specs.Tracts.{ArePeaks}
use Rattle.rh_heap.proofs.PeakKeeps.{note_room, shrink_peaks, widen_peaks, raise_peaks}
use Rattle.rh_heap.proofs.SpanLaws.{heap_now}
use Rattle.rh_heap.proofs.WayLaws.{from_cut}
use Rattle.rh_heap.proofs.span.indexed.change_in.Goals as goal

pub note_hole-requires-clause-low : goal.note_hole-requires-clause-low
note_hole-requires-clause-low g c = let m = c.requires.multiple in omega (arith, place_even _ _ _ _ c.requires.span.spells.heap.tidy c.requires.found)

pub note_hole-requires-clause-upper : goal.note_hole-requires-clause-upper
note_hole-requires-clause-upper g c = let m = c.requires.found.multiple in omega (arith, place_even _ _ _ _ c.requires.span.spells.heap.tidy c.requires.found)

pub note_hole-requires-in-IntoHole-clause-low : goal.note_hole-requires-in-IntoHole-clause-low
note_hole-requires-in-IntoHole-clause-low g c =
    let m = c.requires.multiple in omega (arith, place_even _ _ _ _ c.requires.span.spells.heap.tidy c.requires.found)

pub note_hole-requires-in-IntoHole-clause-upper : goal.note_hole-requires-in-IntoHole-clause-upper
note_hole-requires-in-IntoHole-clause-upper g c =
    let m = c.requires.found.multiple in
    let w = into _ _ _ _ c.requires.span.spells c.requires.found _ _ c.in-IntoHole.ensures in
    omega (
      arith,
      place_even _ _ _ _ c.requires.span.spells.heap.tidy c.requires.found,
      (widen_even _ _ _ _ c.requires.span.spells c.requires.found _ c.requires.multiple _ w),
    )

pub overflow_add-upper-in-IntoHole : goal.overflow_add-upper-in-IntoHole
overflow_add-upper-in-IntoHole g c =
    let b = widen_bounds _ _ _ _ c.requires.span.spells c.requires.found _ c.requires.multiple _
    (into _ _ _ _ c.requires.span.spells c.requires.found _ _ c.in-IntoHole.ensures) in
    let s = c.requires.span.spells in
    omega (arith, b.inside, s.heap.fits, s.within, g.met.S.Words.small c.args.store.now c.args.span.area.0)

pub returns-in-Stays-clause-changed : goal.returns-in-Stays-clause-changed
returns-in-Stays-clause-changed g c = changed_stays _ _ _ _ c.requires.found c.requires.span.spells c.in-Stays.ensures

pub returns-in-Shrinks-clause-changed : goal.returns-in-Shrinks-clause-changed
returns-in-Shrinks-clause-changed g c =
    changed_shrinks (g.S.Words.memory c.args.store.now) (g.S.Words.memory c.shrink.new.store) _ _ _ c.requires.found c.in-Shrinks.ensures
    c.shrink.ensures.spells

pub returns-in-Shrinks-clause-starts : goal.returns-in-Shrinks-clause-starts
returns-in-Shrinks-clause-starts g c =
    let h = heap_in (g.S.Words.memory c.args.store.now) c.args.span in
    let n = g.S.Words.memory c.shrink.new.store in
    let f = c.requires.found in
    let s = c.requires.span.spells in
    let k = from_cut c.args.span.at h c.args.spot f (λ q. SpellsHeapIn n c.args.span (resized_in c.args.size q h).heap) c.shrink.ensures.spells in
    subst (IsIndex c.note_hole.new.starts) (sym (heap_now n c.args.span _ k))
    (shrink_index _ _ h _ s f _ c.requires.least _ _ _ c.requires.multiple (shrinks_shorter _ _ h _ s f _ c.requires.least c.in-Shrinks.ensures)
    c.requires.starts
    (record { used = c.note_hole.ensures.used; holes = c.note_hole.ensures.holes }) c.note_hole.ensures.long (c.read-base.ensures.value ∙ k.base))

pub returns-in-IntoHole-clause-changed : goal.returns-in-IntoHole-clause-changed
returns-in-IntoHole-clause-changed g c =
    changed_into (g.S.Words.memory c.args.store.now) (g.S.Words.memory c.widen.new.store) _ _ _ c.requires.found _ c.in-IntoHole.ensures c.widen.ensures.spells

pub returns-in-IntoHole-clause-starts : goal.returns-in-IntoHole-clause-starts
returns-in-IntoHole-clause-starts g c =
    let h = heap_in (g.S.Words.memory c.args.store.now) c.args.span in
    let n = g.S.Words.memory c.widen.new.store in
    let f = c.requires.found in
    let s = c.requires.span.spells in
    let k = from_cut c.args.span.at h c.args.spot f (λ q. SpellsHeapIn n c.args.span (resized_in c.args.size q h).heap) c.widen.ensures.spells in
    subst (IsIndex c.note_hole-in-IntoHole.new.starts) (sym (heap_now n c.args.span _ k))
    (widen_index _ _ h _ s f _ c.requires.least _ _ _ _ _ c.requires.multiple (into _ _ h _ s f _ _ c.in-IntoHole.ensures) c.requires.starts
    c.clear.ensures.bits
    (record { used = c.note_hole-in-IntoHole.ensures.used; holes = c.note_hole-in-IntoHole.ensures.holes })
    (c.note_hole-in-IntoHole.ensures.long ∙ c.clear.ensures.long)
    (c.read-base-in-IntoHole.ensures.value ∙ k.base))

pub returns-else-read-spot-clause-changed : goal.returns-else-read-spot-clause-changed
returns-else-read-spot-clause-changed g c =
    changed_top (g.S.Words.memory c.args.store.now) (g.S.Words.memory c.raise.new.store) _ _ _ c.requires.found _
    (c.read.ensures.value ∙ c.requires.span.spells.last) c.if-read-spot.false c.in-AtTop.ensures c.raise.ensures.spells

pub returns-else-read-spot-clause-starts : goal.returns-else-read-spot-clause-starts
returns-else-read-spot-clause-starts g c =
    let h = heap_in (g.S.Words.memory c.args.store.now) c.args.span in
    let n = g.S.Words.memory c.raise.new.store in
    let f = c.requires.found in
    let s = c.requires.span.spells in
    let k = from_cut c.args.span.at h c.args.spot f (λ q. SpellsHeapIn n c.args.span (resized_in c.args.size q h).heap) c.raise.ensures.spells in
    subst (IsIndex c.args.starts.now) (sym (heap_now n c.args.span _ k))
    (raise_index _ _ h _ s f _ c.requires.least _ (top _ _ h _ s f _ c.in-AtTop.ensures) c.requires.starts)

pub returns-in-Some-clause-changed : goal.returns-in-Some-clause-changed
returns-in-Some-clause-changed g c =
    changed_moves (g.S.Words.memory c.args.store.now) (g.S.Words.memory c.move_in.new.store) _ _ _ c.requires.found _ c.in-Moves.ensures c.in-Some.ensures.moved

pub note_peak-requires-clause-within : goal.note_peak-requires-clause-within
note_peak-requires-clause-within g c less =
    let h = heap_in (g.S.Words.memory c.args.store.now) c.args.span in
    let n = g.S.Words.memory c.shrink.new.store in
    let f = c.requires.found in
    let s = c.requires.span.spells in
    let k = from_cut c.args.span.at h c.args.spot f (λ q. SpellsHeapIn n c.args.span (resized_in c.args.size q h).heap) c.shrink.ensures.spells in
    let m = c.requires.multiple in
    note_room _ _ _ k _ _ (omega (arith, place_even _ _ _ _ s.heap.tidy f)) (c.read-base.ensures.value ∙ k.base) less

pub returns-in-Shrinks-clause-peaks : goal.returns-in-Shrinks-clause-peaks
returns-in-Shrinks-clause-peaks g c =
    let h = heap_in (g.S.Words.memory c.args.store.now) c.args.span in
    let n = g.S.Words.memory c.shrink.new.store in
    let f = c.requires.found in
    let s = c.requires.span.spells in
    let k = from_cut c.args.span.at h c.args.spot f (λ q. SpellsHeapIn n c.args.span (resized_in c.args.size q h).heap) c.shrink.ensures.spells in
    let r = c.note_peak.ensures in
    subst (ArePeaks c.note_peak.new.peaks) (sym (heap_now n c.args.span _ k))
    (shrink_peaks _ _ h _ s f _ c.requires.least _ _ _ _ c.requires.multiple (shrinks_shorter _ _ h _ s f _ c.requires.least c.in-Shrinks.ensures) k
    c.requires.peaks (record { tree = r.tree; more = r.more; here = r.here; long = r.long }) (c.read-base.ensures.value ∙ k.base))

pub note_peak-requires-in-IntoHole-clause-within : goal.note_peak-requires-in-IntoHole-clause-within
note_peak-requires-in-IntoHole-clause-within g c less =
    let h = heap_in (g.S.Words.memory c.args.store.now) c.args.span in
    let n = g.S.Words.memory c.widen.new.store in
    let f = c.requires.found in
    let s = c.requires.span.spells in
    let k = from_cut c.args.span.at h c.args.spot f (λ q. SpellsHeapIn n c.args.span (resized_in c.args.size q h).heap) c.widen.ensures.spells in
    let m = c.requires.multiple in
    note_room _ _ _ k _ _ (omega (arith, place_even _ _ _ _ s.heap.tidy f)) (c.read-base-in-IntoHole.ensures.value ∙ k.base) less

pub returns-in-IntoHole-clause-peaks : goal.returns-in-IntoHole-clause-peaks
returns-in-IntoHole-clause-peaks g c =
    let h = heap_in (g.S.Words.memory c.args.store.now) c.args.span in
    let n = g.S.Words.memory c.widen.new.store in
    let f = c.requires.found in
    let s = c.requires.span.spells in
    let k = from_cut c.args.span.at h c.args.spot f (λ q. SpellsHeapIn n c.args.span (resized_in c.args.size q h).heap) c.widen.ensures.spells in
    let r = c.note_peak-in-IntoHole.ensures in
    subst (ArePeaks c.note_peak-in-IntoHole.new.peaks) (sym (heap_now n c.args.span _ k))
    (widen_peaks _ _ h _ s f _ c.requires.least _ _ _ _ _ c.requires.multiple (into _ _ h _ s f _ _ c.in-IntoHole.ensures) k
    c.requires.peaks (record { tree = r.tree; more = r.more; here = r.here; long = r.long }) (c.read-base-in-IntoHole.ensures.value ∙ k.base))

pub returns-else-read-spot-clause-peaks : goal.returns-else-read-spot-clause-peaks
returns-else-read-spot-clause-peaks g c =
    let h = heap_in (g.S.Words.memory c.args.store.now) c.args.span in
    let n = g.S.Words.memory c.raise.new.store in
    let f = c.requires.found in
    let s = c.requires.span.spells in
    let k = from_cut c.args.span.at h c.args.spot f (λ q. SpellsHeapIn n c.args.span (resized_in c.args.size q h).heap) c.raise.ensures.spells in
    subst (ArePeaks c.args.peaks.now) (sym (heap_now n c.args.span _ k))
    (raise_peaks _ _ h _ s f _ c.requires.least _ (top _ _ h _ s f _ c.in-AtTop.ensures) c.requires.peaks)

pub overflow_add-upper-in-IntoHole-2 : goal.overflow_add-upper-in-IntoHole-2
overflow_add-upper-in-IntoHole-2 g c =
    let b = widen_bounds _ _ _ _ c.requires.span.spells c.requires.found _ c.requires.multiple _
    (into _ _ _ _ c.requires.span.spells c.requires.found _ _ c.in-IntoHole.ensures) in
    let s = c.requires.span.spells in
    omega (arith, b.inside, s.heap.fits, s.within, g.met.S.Words.small c.args.store.now c.args.span.area.0)
