-- What a list of areas contains.
use Rattle.std.specs.Prelude.{◌≡◌, ℕ, zero, suc, ◌*◌, ◌%◌, ◌≤◌, false, if◌then◌else◌, List, [], ◌∷◌, length, Option, Some, None, All, unwrap_or, vec_capacity}
use Rattle.rh_store.specs.declared.area.Area.{Area}
use Rattle.rh_defs.specs.declared.sizes.TheConstants.{PAGE}
use Rattle.rh_defs.specs.Memory.{Memory, Ledger, area_set}

-- an area's bytes, where it is open
abbrev pub shown : Area → Option (List ℕ)
shown a = if a.opened then Some a.bytes.items else None

-- what the area of a number contains
unfoldable pub contents : List Area → ℕ → Option (List ℕ)
contents [] k = None
contents (a ∷ list) zero = shown a
contents (a ∷ list) (suc k) = contents list k

-- the bytes of the area of a number, none where it is closed
abbrev pub area_bytes_at : List Area → ℕ → List ℕ
area_bytes_at list i = unwrap_or (contents list i) []

-- the memory that these areas make up
abbrev pub memory_in : List Area → ℕ → ℕ → Memory
memory_in list free pages = record { area = contents list; free = free; pages = pages; loan = 0 }

-- for how many bytes the vector of the area of a number has room
unfoldable pub room_at : List Area → ℕ → ℕ
room_at [] k = 0
room_at (a ∷ list) zero = vec_capacity a.bytes
room_at (a ∷ list) (suc k) = room_at list k

-- an area is whole pages, and none where it is closed
pub record IsTidyArea (a : Area) : Type 0 where
  pub whole : length a.bytes.items % PAGE ≡ 0
  pub empty : a.opened ≡ false → a.bytes.items ≡ []

-- an area's vector has room for this many pages
pub record HasRoomFor (pages : ℕ) (a : Area) : Type 0 where
  pub room : PAGE * pages ≤ vec_capacity a.bytes

-- a table of so many areas, each of whole pages and with room for all pages, and the ledger holds
pub record IsStore (list : List Area) (free pages limit : ℕ) : Type 0 where
  pub table : length list ≡ limit
  pub tidy : All IsTidyArea list
  pub reserved : All (HasRoomFor pages) list
  pub ledger : Ledger (memory_in list free pages) limit

-- the area of a number has come to contain this, and the others stay
pub record ChangedAt (list new : List Area) (i : ℕ) (o : Option (List ℕ)) : Type 0 where
  pub len : length new ≡ length list
  pub contents_are : contents new ≡ area_set (contents list) i o
  pub tidy : length (unwrap_or o []) % PAGE ≡ 0 → All IsTidyArea list → All IsTidyArea new
  pub reserved : (pages : ℕ) → All (HasRoomFor pages) list → All (HasRoomFor pages) new
