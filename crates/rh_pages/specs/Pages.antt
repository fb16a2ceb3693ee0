-- Areas that are made of pages of a region.
use Rattle.std.specs.Prelude.{◌≡◌, ℕ, ◌+◌, ◌*◌, ◌≤◌, if◌then◌else◌, Bool, false, List, [], ◌∷◌, ◌++◌, length, get_or, take, Option, Some, None}
use Rattle.rh_defs.specs.Bytes.{part}
use Rattle.rh_defs.specs.declared.sizes.TheConstants.{MAX_AREAS, PAGE}
use Rattle.rh_defs.specs.Memory.{Memory, Ledger}
use Rattle.rh_store.specs.Shares.{times, times_all}

-- the bytes of a page of the region
abbrev pub page : List ℕ → ℕ → List ℕ
page region k = part region (PAGE * k) PAGE

-- the bytes of pages, one page after another
abbrev pub paged_bytes : List ℕ → List ℕ → List ℕ
paged_bytes region [] = []
paged_bytes region (k ∷ ks) = page region k ++ paged_bytes region ks

-- the page list of an area
abbrev pub list_at : List (List ℕ) → ℕ → List ℕ
list_at lists id = get_or lists id []

-- the page lists of all areas, and that of the free pages, among the lists of a table
abbrev pub areas_in : List (List ℕ) → List (List ℕ)
areas_in lists = take MAX_AREAS lists

abbrev pub free_in : List (List ℕ) → List ℕ
free_in lists = list_at lists MAX_AREAS

-- what the area of a number contains, None where it is closed
unfoldable pub paged_contents : List ℕ → List (List ℕ) → List Bool → ℕ → Option (List ℕ)
paged_contents region lists opened id = if get_or opened id false then Some (paged_bytes region (list_at lists id)) else None

-- the memory that these areas make up
abbrev pub paged_memory_in : List ℕ → List (List ℕ) → List Bool → List ℕ → ℕ → Memory
paged_memory_in region lists opened free pages = record { area = paged_contents region lists opened; free = length free; pages = pages; loan = 0 }

-- page lists and a free list that share out the pages of a region
pub record IsPagedStore (region : List ℕ) (lists : List (List ℕ)) (opened : List Bool) (free : List ℕ) (pages limit : ℕ) : Type 0 where
  pub size : length region ≡ PAGE * pages
  pub table : length lists ≡ limit
  pub flags : length opened ≡ limit
  -- no page stands in two places
  pub once : (k : ℕ) → times_all k lists + times k free ≤ 1
  -- and each that stands somewhere is one of the region
  pub below : (k : ℕ) → pages ≤ k → times_all k lists + times k free ≡ 0
  -- a closed area has no pages
  pub empty : (id : ℕ) → get_or opened id false ≡ false → list_at lists id ≡ []
  pub ledger : Ledger (paged_memory_in region lists opened free pages) limit
