-- That the laws of `Store` hold of a paged store.
use Rattle.std.specs.Prelude.{ℕ, ◌+◌, ◌*◌, ◌%◌, ◌<◌, ◌≤◌, ◌≡◌, length}
use Rattle.rh_defs.specs.declared.sizes.TheConstants.{MAX_AREAS, PAGE}
use Rattle.rh_defs.specs.Memory.{IsOpen, Ledger, bytes}
use Rattle.rh_pages.specs.declared.paged.PagedStore.{PagedStore}
use Rattle.rh_pages.specs.Inner.PagedKept.{whole_paged_areas, within_paged_pool, small_paged_areas, numbered_paged_areas}
use Rattle.rh_store.specs.Inner.StoreLaws.{few_pages}
use Rattle.rh_pages.specs.Inner.Sited.{numbered_out, shared_out}
use Rattle.rh_store.specs.Limits.{area_limit, pool_limit}
use Rattle.rh_store.specs.Shares.{SharesOut}
use Rattle.rh_pages.specs.Paged.{free_numbers_of, free_of, numbers_of, paged_memory, pages_of, region_of}

pub paged_ledger_law : {G : _} {d : _} (s : PagedStore G d) → Ledger (paged_memory s) MAX_AREAS
unfolding paged_memory
paged_ledger_law s = s.kept.ledger

pub paged_whole_law : {G : _} {d : _} (s : PagedStore G d) (id : ℕ) → length (bytes (paged_memory s) id) % PAGE ≡ 0
unfolding paged_memory
paged_whole_law s id = whole_paged_areas (region_of s) (pages_of s) s.opened (free_of s) s.table.room id

pub paged_within_law : {G : _} {d : _} (s : PagedStore G d) (id : ℕ) → PAGE * (paged_memory s).free + length (bytes (paged_memory s) id) ≤ PAGE * (paged_memory s).pages
unfolding paged_memory
paged_within_law s id = within_paged_pool (region_of s) (pages_of s) s.opened (free_of s) s.table.room MAX_AREAS id s.kept

pub paged_few_law : {G : _} {d : _} (s : PagedStore G d) → (paged_memory s).pages ≤ pool_limit
unfolding paged_memory
paged_few_law s = few_pages s.table.room s.few

pub paged_small_law : {G : _} {d : _} (s : PagedStore G d) (id : ℕ) → length (bytes (paged_memory s) id) ≤ area_limit
unfolding paged_memory
paged_small_law s id = small_paged_areas (region_of s) (pages_of s) s.opened (free_of s) s.table.room MAX_AREAS id s.few s.kept

pub paged_numbered_law : {G : _} {d : _} (s : PagedStore G d) (id : ℕ) → IsOpen (paged_memory s) id → id < MAX_AREAS
unfolding paged_memory
paged_numbered_law s id o = numbered_paged_areas (region_of s) (pages_of s) s.opened (free_of s) s.table.room MAX_AREAS id s.kept o

pub shared_law : {G : _} {d : _} (s : PagedStore G d) → SharesOut (paged_memory s) (numbers_of s) (free_numbers_of s)
unfolding paged_memory
shared_law s =
    numbered_out (paged_memory s) (pages_of s) (free_of s) (shared_out (region_of s) (pages_of s) s.opened (free_of s) s.table.room MAX_AREAS s.kept)
