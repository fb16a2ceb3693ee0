-- The first hole is read, and below it the map has no bit for one.
use Rattle.std.proofs.Common.{arith, refl}
use Rattle.rh_heap.specs.HeapStarts.{no_hole}
use Rattle.rh_heap.proofs.IndexLaws.{none_below_first}
use Rattle.rh_heap.proofs.span.indexed.link_before.Goals.{then-first-eq0-via-then-first-eq0, then-first-eq0-via-else-first-eq0+then-place-first}
use Rattle.rh_peaks.specs.Peaks.{peak}
use Rattle.rh_heap.proofs.TractLaws.{marked_some}
use Rattle.rh_heap.proofs.span.indexed.link_before.Goals as goal

pub returns-then-first-eq0 : goal.returns-then-first-eq0
returns-then-first-eq0 g c =
    no_hole refl (none_below_first _ _ _ _ _ _ c.requires.starts c.requires.span.spells c.follow-first.ensures (λ ne. elim c.then-first-eq0.branch [
      | then-first-eq0-via-then-first-eq0 w ↦ absurd (ne w.if-first-eq0.true)
      | then-first-eq0-via-else-first-eq0+then-place-first w ↦ w.if-place-first.true
    ]))

pub link_below-requires-clause-marked : goal.link_below-requires-clause-marked
link_below-requires-clause-marked g c k inside one =
    marked_some _ _ _ c.requires.span.spells _ c.requires.starts (peak c.args.peaks.now)
    (c.requires.peaks.below (λ none. absurd (omega (arith, none, inside)))) k one
