-- The holes up to a link are passed, and the largest is known of those in the tract.
use Rattle.rh_heap.proofs.Common.{◌+◌, ◌-◌, LinksTo, base, bytes_in, heap_in}
use Rattle.rh_heap.proofs.TractLaws.{Walked}
use Rattle.rh_heap.proofs.span.peaks.find_up_to.Given as goal

abbrev pub invariant-walk : goal.invariant-walk
invariant-walk g l =
    let m = g.S.Words.memory l.store in
    Walked l.span.at (heap_in m l.span) l.size l.tract l.from l.most × LinksTo (bytes_in m l.span) l.span.at (l.span.at + l.from) l.place

abbrev pub decreases-walk : goal.decreases-walk
decreases-walk g l = base (heap_in (g.S.Words.memory l.store) l.span) - l.from
