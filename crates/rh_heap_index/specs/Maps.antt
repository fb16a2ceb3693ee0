-- The maps that are kept beside the areas of a store, and what a write makes of them.
use Rattle.std.specs.Prelude.{◌≡◌, ◌≢◌, ℕ, ◌*◌, ◌/◌, ◌≤◌, ◌⊎◌, true, false, List, get_or, slice_index, Option, None, IfSome, Vec}
use Rattle.std.specs.declared.alloc.Global.{Global}
use Rattle.rh_defs.specs.Memory.{Memory, bytes}
use Rattle.rh_store.specs.Starts.{HasRows, IsKept}
use Rattle.rh_store.specs.declared.starts.Starts.{Starts}
use Rattle.rh_store.specs.declared.starts.TheConstants.{LINE_BYTES}

-- a map whose rows stand in a vector
abbrev pub Map : Type 0
Map = Starts (Vec ℕ Global)

-- where it is said to be up to date, it is
abbrev pub IsKeptMap : List ℕ → Map → Type 0
IsKeptMap = IsKept (λ lines. lines.items)

-- its rows are enough for each area for which so many words of lines are
abbrev pub IsEnough : ℕ → Map → Type 0
IsEnough words s = (n : ℕ) → n ≤ LINE_BYTES * (words / 2) → HasRows s.lines.items s.split n

-- its lines and numbers stand as they have to, for an area of no byte at least
abbrev pub IsLaid : Map → Type 0
IsLaid s = HasRows s.lines.items s.split 0

-- a map that is laid like that, and isn't said to be up to date
abbrev pub IsStale : Map → Type 0
IsStale s = (s.known ≡ false) × IsLaid s

-- the map of an area, none where there is none or it was taken
abbrev pub map_of : List (Option Map) → ℕ → Option Map
map_of maps id = get_or maps id None

-- each map that is said to be up to date is that of the heap in its area's bytes
abbrev pub AreKept : Memory → List (Option Map) → Type 0
AreKept m maps = (id : ℕ) → IfSome (map_of maps id) (IsKeptMap (bytes m id))

-- each map stands as it has to
abbrev pub AreLaid : List (Option Map) → Type 0
AreLaid maps = (id : ℕ) → IfSome (map_of maps id) IsLaid

-- none is said to be up to date
abbrev pub AreStale : List (Option Map) → Type 0
AreStale maps = (id : ℕ) → IfSome (map_of maps id) IsStale

-- a map that is said to be up to date is of a heap that ends at this offset or below
abbrev pub EndsBy : ℕ → Map → Type 0
EndsBy reach s = s.known ≡ true → s.upper ≤ reach

-- so it is for each area with the number that stands for it
abbrev pub AreReached : List (Option Map) → List ℕ → Type 0
AreReached maps reach = (id : ℕ) → IfSome (map_of maps id) (EndsBy (slice_index reach id))

-- the maps are those of the areas' heaps, none of which reaches further than said
pub record AreTied (m : Memory) (maps : List (Option Map)) (reach : List ℕ) : Type 0 where
  pub kept : AreKept m maps
  pub laid : AreLaid maps
  pub reached : AreReached maps reach

-- a map that is said to be up to date is of bytes that lie outside these
abbrev pub IsOff : ℕ → ℕ → Map → Type 0
IsOff low upper s = s.known ≡ true → (upper ≤ s.at) ⊎ (s.upper ≤ low)

-- The map of one area isn't said to be up to date any more where its heap meets the bytes from low up to upper. Nothing else changes.
pub record Forgot (old new : List (Option Map)) (id low upper : ℕ) : Type 0 where
  pub off : IfSome (map_of new id) (IsOff low upper)
  pub still : (b : List ℕ) → IfSome (map_of old id) (IsKeptMap b) → IfSome (map_of new id) (IsKeptMap b)
  pub laid : IfSome (map_of old id) IsLaid → IfSome (map_of new id) IsLaid
  pub ends : (reach : ℕ) → IfSome (map_of old id) (EndsBy reach) → IfSome (map_of new id) (EndsBy reach)
  pub others : (j : ℕ) → j ≢ id → map_of new j ≡ map_of old j

-- the map of one area isn't said to be up to date, and nothing else changes
pub record Spoilt (old new : List (Option Map)) (id : ℕ) : Type 0 where
  pub off : IfSome (map_of new id) IsStale
  pub others : (j : ℕ) → j ≢ id → map_of new j ≡ map_of old j

-- each map is as it was, or isn't said to be up to date
abbrev pub Loosened : List (Option Map) → List (Option Map) → Type 0
Loosened old new = (j : ℕ) → (map_of new j ≡ map_of old j) ⊎ IfSome (map_of new j) IsStale
