-- The holes up to a link have numbers.
use Rattle.rh_heap.proofs.Common.{◌≡◌, ◌+◌, ◌-◌, LinksTo, length, base, bytes_in, heap_in}
use Rattle.rh_heap.proofs.TractLaws.{Numbered}
use Rattle.rh_heap.proofs.span.peaks.index_peaks.Given as goal

abbrev pub invariant-walk : goal.invariant-walk
invariant-walk g l =
    let m = g.S.Words.memory l.store in
    record {
      long : length l.peaks ≡ length l.fn.peaks;
      numbered : Numbered l.span.at (heap_in m l.span) l.peaks l.from;
      links : LinksTo (bytes_in m l.span) l.span.at (l.span.at + l.from) l.place;
    }

abbrev pub decreases-walk : goal.decreases-walk
decreases-walk g l = base (heap_in (g.S.Words.memory l.store) l.span) - l.from
