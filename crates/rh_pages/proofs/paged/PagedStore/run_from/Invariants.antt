use Rattle.rh_pages.proofs.Common.{◌≡◌, ◌+◌, ◌-◌, ◌*◌, ◌<◌, get_or, PAGE, list_at, pages_of}
use Rattle.rh_pages.specs.Inner.Spots.{IsTogether}
use Rattle.rh_pages.proofs.paged.PagedStore.run_from.Given as goal

abbrev pub invariant-loop-run : goal.invariant-loop-run
invariant-loop-run g l = record {
  place : PAGE * (l.i + 1) ≡ l.at + l.run;
  some : 0 < l.run;
  here : l.number ≡ get_or (list_at (pages_of l.self) l.id.0) l.i 0;
  small : l.number < l.self.table.room;
  together : IsTogether (pages_of l.self) l.id.0 l.at l.run;
}

abbrev pub decreases-loop-run : goal.decreases-loop-run
decreases-loop-run g l = l.most - l.run
