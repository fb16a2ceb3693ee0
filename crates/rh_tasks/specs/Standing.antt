-- The store that a world stands on, by the areas that are open in it.
use Rattle.std.specs.Prelude.{◌≡◌, ℕ, ◌+◌, ◌<◌, List, [], ◌++◌, length, map, take, drop, get_or}
use Rattle.std.specs.List.{AllByRecursion}
use Rattle.rh_defs.specs.Memory.{Memory, IsOpen, bytes, open_below}
use Rattle.rh_defs.specs.Desk.{module_area, scrap_area}
use Rattle.rh_defs.specs.Pieces.{total}
use Rattle.rh_defs.specs.declared.sizes.TheConstants.{FIXED_AREAS, MAX_AREAS}
use Rattle.rh_store.specs.declared.store.AreaId.{AreaId}
use Rattle.rh_store.specs.Shares.{times}
use Rattle.rh_tasks.specs.Shown.{Shown}
use Rattle.rh_tasks.specs.View.{AreDistinct, fixed}

-- the areas by their numbers
abbrev pub numbers : List AreaId → List ℕ
numbers areas = map (λ (a : AreaId). a.0) areas

-- The memory has these areas open, each once, and no others: areas 0 to 5, the made ones and the slots, in the order that
-- is shown, with the lengths and bytes that are shown. Free pages and pool are those shown too.
pub record StandsIn (m : Memory) (ids : List ℕ) (s : Shown) : Type 0 where
  pub listed : ids ≡ s.ids
  pub fixed : take FIXED_AREAS ids ≡ fixed
  pub apart : AreDistinct ids
  pub opened : AllByRecursion (IsOpen m) ids
  pub count : open_below m.area MAX_AREAS ≡ length ids
  pub lengths : map (λ id. length (bytes m id)) ids ≡ s.areas ++ (s.made ++ map length s.slots)
  pub slots : map (bytes m) (drop (FIXED_AREAS + length s.made) ids) ≡ s.slots
  pub module_bytes : bytes m module_area ≡ s.module_bytes
  pub scrap : take (length s.scrap) (bytes m scrap_area) ≡ s.scrap
  pub free : m.free ≡ s.free
  pub pool : m.pages ≡ s.desk.pool

-- each page of the pool is a page of one of these areas, or free, just once
abbrev pub HaveEachPage : List (List ℕ) → List ℕ → List ℕ → ℕ → Type 0
HaveEachPage pages free ids pool = (k : ℕ) → k < pool → total (λ id. times k (get_or pages id [])) ids + times k free ≡ 1
