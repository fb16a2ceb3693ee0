-- Memory: areas of bytes in whole pages of 4,096 bytes, and pages that are free.
-- Read Pieces and Bytes first. m and n are memories, before and after; id is an area's number, bs its bytes.
-- *grown* and *shrunk* are used only where so many pages are free, or are the area's: `-`, which stops at 0, takes no
-- more than there is.
use Rattle.std.specs.Prelude.{◌≡◌, ◌≢◌, ℕ, zero, suc, ◌+◌, ◌-◌, ◌*◌, ◌/◌, ◌==◌, if◌then◌else◌, List, [], ◌++◌, length, take, replicate, Option, Some, None, IsSome, unwrap_or}
use Rattle.rh_defs.specs.Bytes.{SameIn, SameOutside}
use Rattle.rh_defs.specs.Pieces.{page_size}

-- What each area contains, None where it is closed; the free pages; the number of pages given at start. The last number names the loan where the bytes are a caller's, and is 0 for memory of the store's own.
pub record Memory : Type 0 where
  pub area : ℕ → Option (List ℕ)
  pub free : ℕ
  pub pages : ℕ
  pub loan : ℕ

-- an area is open
abbrev pub IsOpen : Memory → ℕ → Type 0
IsOpen m id = IsSome (m.area id)

-- an area's bytes, none where it is closed
unfoldable pub bytes : Memory → ℕ → List ℕ
bytes m id = unwrap_or (m.area id) []

-- the areas with one of them set
unfoldable pub area_set : (ℕ → Option (List ℕ)) → ℕ → Option (List ℕ) → ℕ → Option (List ℕ)
area_set area id contents k = if k == id then contents else area k

-- all pages free and no area open
unfoldable pub fresh : ℕ → Memory
fresh pages = record { area = λ k. None; free = pages; pages = pages; loan = 0 }

-- an area's bytes rewritten
unfoldable pub with_bytes : Memory → ℕ → List ℕ → Memory
with_bytes m id bs = record { area = area_set m.area id (Some bs); free = m.free; pages = m.pages; loan = m.loan }

-- an area opened, with no bytes
unfoldable pub opened : Memory → ℕ → Memory
opened m id = record { area = area_set m.area id (Some []); free = m.free; pages = m.pages; loan = m.loan }

-- an area closed, its pages free
unfoldable pub closed : Memory → ℕ → Memory
closed m id = record { area = area_set m.area id None; free = m.free + length (bytes m id) / page_size; pages = m.pages; loan = m.loan }

-- an area grown by free pages, which come as zeros at its end
unfoldable pub grown : Memory → ℕ → ℕ → Memory
grown m id n = record {
  area = area_set m.area id (Some (bytes m id ++ replicate (page_size * n) 0));
  free = m.free - n;
  pages = m.pages;
  loan = m.loan;
}

-- an area's last pages cut off and free
unfoldable pub shrunk : Memory → ℕ → ℕ → Memory
shrunk m id n = record {
  area = area_set m.area id (Some (take (length (bytes m id) - page_size * n) (bytes m id)));
  free = m.free + n;
  pages = m.pages;
  loan = m.loan;
}

-- 1 for an open area, 0 for a closed one
abbrev pub one_if_open : Option (List ℕ) → ℕ
one_if_open None = 0
one_if_open (Some contents) = 1

-- how many of the areas below a number are open
unfoldable pub open_below : (ℕ → Option (List ℕ)) → ℕ → ℕ
open_below area zero = 0
open_below area (suc k) = one_if_open (area k) + open_below area k

-- how many pages the areas below a number have
unfoldable pub pages_below : (ℕ → Option (List ℕ)) → ℕ → ℕ
pages_below area zero = 0
pages_below area (suc k) = length (unwrap_or (area k) []) / page_size + pages_below area k

-- the ledger: free pages and the pages of all areas below a limit are those given at start
abbrev pub Ledger : Memory → ℕ → Type 0
Ledger m limit = m.free + pages_below m.area limit ≡ m.pages

-- one area's bytes change at most from lo up to hi
pub record Edited (m n : Memory) (id lo hi : ℕ) : Type 0 where
  pub opened : IsOpen n id
  pub others : (j : ℕ) → j ≢ id → n.area j ≡ m.area j
  pub free : n.free ≡ m.free
  pub pages : n.pages ≡ m.pages
  pub loan : n.loan ≡ m.loan
  pub outside : SameOutside (bytes m id) (bytes n id) lo hi

-- one area changes alone: what it gains in pages is no more free
pub record OnlyArea (m n : Memory) (id : ℕ) : Type 0 where
  pub opened : IsOpen n id
  pub others : (j : ℕ) → j ≢ id → n.area j ≡ m.area j
  pub ledger : page_size * n.free + length (bytes n id) ≡ page_size * m.free + length (bytes m id)
  pub pages : n.pages ≡ m.pages
  pub loan : n.loan ≡ m.loan

-- one area gets another number of pages and keeps its first bytes
pub record Resized (m n : Memory) (id keep count : ℕ) : Type 0 where
  pub same : SameIn (bytes m id) (bytes n id) 0 keep
  pub len : length (bytes n id) ≡ page_size * count
  pub only : OnlyArea m n id
