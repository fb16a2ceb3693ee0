-- The numbers of tracts, as searches for holes read and raise them.
use Rattle.std.specs.Prelude.{◌≡◌, ◌≢◌, ℕ, ◌*◌, ◌/◌, ◌<◌, ◌≤◌, List, length}
use Rattle.rh_peaks.specs.Peaks.{peak}
use Rattle.rh_store.specs.Starts.{bit}
use Rattle.rh_defs.specs.declared.sizes.TheConstants.{HEAP_UNIT}
use Rattle.rh_store.specs.declared.starts.TheConstants.{HOLES, TRACT_BYTES}

-- no number has become less
abbrev pub AreMore : List ℕ → List ℕ → Type 0
AreMore old new = (i : ℕ) → i < length old / 2 → peak old i ≤ peak new i

-- the number of a tract in which a hole begins isn't 0
abbrev pub AreMarked : List ℕ → List ℕ → Type 0
AreMarked starts nodes = (k : ℕ) → HEAP_UNIT * k / TRACT_BYTES < length nodes / 2 → bit HOLES starts k ≡ 1 → peak nodes (HEAP_UNIT * k / TRACT_BYTES) ≢ 0
