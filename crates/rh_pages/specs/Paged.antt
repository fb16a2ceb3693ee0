-- The memory of a paged store, where its pages stand, and why the laws of `Store` hold of it.
use Rattle.std.specs.Prelude.{ℕ, ◌-◌, ◌*◌, List, get_or, map}
use Rattle.rh_defs.specs.declared.sizes.TheConstants.{PAGE}
use Rattle.rh_defs.specs.Memory.{Memory}
use Rattle.rh_pages.specs.declared.paged.PagedStore.{PagedStore}
use Rattle.rh_pages.specs.Pages.{areas_in, free_in, list_at, paged_memory_in}
use Rattle.rh_pages.specs.Table.{lists_of}

-- the bytes of all its pages
abbrev pub region_of : {G : _} {d : _} → PagedStore G d → List ℕ
region_of {G} {d} s = d.bytes s.site

-- the pages of each area, and those that are free
abbrev pub pages_of : {G : _} {d : _} → PagedStore G d → List (List ℕ)
pages_of {G} {d} s = areas_in (lists_of (d.numbers s.site) s.table)

abbrev pub free_of : {G : _} {d : _} → PagedStore G d → List ℕ
free_of {G} {d} s = free_in (lists_of (d.numbers s.site) s.table)

-- the number in the pool of a page of the ground: they count from the ground's end
abbrev pub pool_number : ℕ → ℕ → ℕ
pool_number pages k = pages - 1 - k

-- the numbers of the pages of each area, and of those that are free
abbrev pub numbers_of : {G : _} {d : _} → PagedStore G d → List (List ℕ)
numbers_of s = map (map (pool_number s.table.room)) (pages_of s)

abbrev pub free_numbers_of : {G : _} {d : _} → PagedStore G d → List ℕ
free_numbers_of s = map (pool_number s.table.room) (free_of s)

-- what its areas contain, its free pages and all its pages
unfoldable pub paged_memory : {G : _} {d : _} → PagedStore G d → Memory
paged_memory s = paged_memory_in (region_of s) (pages_of s) s.opened (free_of s) s.table.room

-- where page i of an area stands on the ground
unfoldable pub place_of : {G : _} {d : _} → PagedStore G d → ℕ → ℕ → ℕ
place_of s id i = PAGE * get_or (list_at (pages_of s) id) i 0
