-- How the bits of a map of where a heap's segments begin are read and changed.
use Rattle.std.specs.Prelude.{◌≡◌, ◌≢◌, ℕ, ◌*◌, ◌/◌, ◌<◌, List}
use Rattle.rh_defs.specs.declared.sizes.TheConstants.{HEAP_FREE, HEAP_UNIT}
use Rattle.rh_store.specs.Starts.{bit}
use Rattle.rh_store.specs.declared.starts.TheConstants.{HOLES}

-- bit k of a lane has become v, and no other bit has changed
pub record Became (lane k v : ℕ) (old new : List ℕ) : Type 0 where
  pub here : bit lane new k ≡ v
  pub same : (j : ℕ) → j ≢ k → bit lane new j ≡ bit lane old j
  pub other : (lane' j : ℕ) → lane' < 2 → lane' ≢ lane → bit lane' new j ≡ bit lane' old j

-- k is the last set bit of a lane below n
pub record LastBit (lane : ℕ) (starts : List ℕ) (n k : ℕ) : Type 0 where
  pub below : k < n
  pub is_set : bit lane starts k ≡ 1
  pub none : (j : ℕ) → k < j → j < n → bit lane starts j ≡ 0

-- the last hole that begins below a place, or the descriptor's link where none does
pub data LinkBelow (starts : List ℕ) (place link : ℕ) : Type 0 where
  no_hole : link ≡ HEAP_FREE → ((j : ℕ) → j < place / HEAP_UNIT → bit HOLES starts j ≡ 0) → LinkBelow starts place link
  a_hole : (k : ℕ) → link ≡ HEAP_UNIT * k → LastBit HOLES starts (place / HEAP_UNIT) k → LinkBelow starts place link
