use Rattle.rh_pages.proofs.Common.{◌≡◌, ◌≤◌, IsOpen, shrunk, paged_memory}
use Rattle.rh_pages.proofs.paged.store.PagedStorePages.shrink.Given as goal

abbrev pub invariant-loop-page : goal.invariant-loop-page
invariant-loop-page g l = (l._page ≤ l.pages) × (IsOpen (paged_memory l.self) l.id.0 ×
    (paged_memory l.self ≡ shrunk (paged_memory l.initial.self) l.id.0 l._page))
