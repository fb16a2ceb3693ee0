use Rattle.rh_heap.proofs.Common.{arith, Edited-wider}
use Rattle.rh_heap.proofs.ReleaseLaws.{release_is_stretch, release_spells}
use Rattle.rh_heap.proofs.span.release.free_segment.Goals as goal

pub settle-requires-clause-stretch : goal.settle-requires-clause-stretch
settle-requires-clause-stretch g c = release_is_stretch _ _ _ _ _ _ c.requires.span.spells c.requires.found c.follow-next.ensures

pub returns-clause-spells : goal.returns-clause-spells
returns-clause-spells g c = release_spells _ _ _ _ _ _ _ c.requires.span.spells c.requires.found c.follow-next.ensures c.settle.ensures.settles

pub returns-clause-only : goal.returns-clause-only
returns-clause-only g c =
    let inside = c.requires.found.size_fits in
    let fits = c.requires.span.spells.heap.fits in
    Edited-wider _ _ _ _ _ _ _ c.settle.ensures.only (omega arith) (omega arith)
