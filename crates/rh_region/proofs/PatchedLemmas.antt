-- Lemmas on `patched`.
use Rattle.std.proofs.Common.{◌≡◌, ℕ, List, take, drop, length, ap}
use lib.Seq.{take_at}
use Rattle.rh_region.specs.Patched.{with_run, patched}

-- bytes as many as they replace are put in as they are
pub patched_same : (s : List ℕ) (from n : ℕ) (ws : List ℕ) → length ws ≡ n → patched s from n ws ≡ with_run s from n ws
patched_same s from n ws same = ap (with_run s from n) (take_at ws (drop (length ws) (take n (drop from s))) n same)
