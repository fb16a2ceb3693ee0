-- How the pages of a pool are shared out among its areas.
use Rattle.std.specs.Prelude.{◌≡◌, ℕ, ◌+◌, ◌*◌, ◌<◌, ◌≤◌, ◌==◌, if◌then◌else◌, List, [], ◌∷◌, length, get_or}
use Rattle.rh_defs.specs.declared.sizes.TheConstants.{PAGE}
use Rattle.rh_defs.specs.Memory.{Memory, bytes}

-- how often a page stands in a list
abbrev pub times : ℕ → List ℕ → ℕ
times k [] = 0
times k (x ∷ xs) = (if x == k then 1 else 0) + times k xs

-- how often it stands in all lists
abbrev pub times_all : ℕ → List (List ℕ) → ℕ
times_all k [] = 0
times_all k (x ∷ xs) = times k x + times_all k xs

-- The pages of areas, by the areas' numbers, and the free pages are those of the memory's pool.
pub record SharesOut (m : Memory) (lists : List (List ℕ)) (free : List ℕ) : Type 0 where
  -- an area has a page for each 4,096 bytes
  pub areas : (id : ℕ) → PAGE * length (get_or lists id []) ≡ length (bytes m id)
  pub frees : length free ≡ m.free
  -- each page of the pool stands just once
  pub once : (k : ℕ) → k < m.pages → times_all k lists + times k free ≡ 1
  -- and no other does
  pub below : (k : ℕ) → m.pages ≤ k → times_all k lists + times k free ≡ 0
