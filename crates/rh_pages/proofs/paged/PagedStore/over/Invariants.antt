use Rattle.rh_pages.proofs.Common.{◌≡◌, ◌≤◌, [], length, replicate, MAX_AREAS, areas_in, free_in, lists_of}
use Rattle.rh_pages.proofs.Start.{from_top}
use Rattle.rh_pages.proofs.paged.PagedStore.over.Given as goal

abbrev pub invariant-loop-k : goal.invariant-loop-k
invariant-loop-k g l = record {
  count : l.k ≤ l.pages;
  room : l.table.room ≡ l.pages;
  bytes : g.G.Backing.bytes l.site ≡ g.G.Backing.bytes l.initial.site;
  long : length (g.G.Backing.numbers l.site) ≡ length (g.G.Backing.numbers l.initial.site);
  areas : areas_in (lists_of (g.G.Backing.numbers l.site) l.table) ≡ replicate MAX_AREAS [];
  free : free_in (lists_of (g.G.Backing.numbers l.site) l.table) ≡ from_top l.pages l.k;
}
