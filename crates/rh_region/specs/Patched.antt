-- Bytes of which some were written anew.
use Rattle.std.specs.Prelude.{ℕ, ◌+◌, List, ◌++◌, take, drop}
use Rattle.std.specs.List.{refill}

-- s with ws in the place of the n bytes from the index `from` on
abbrev pub with_run : List ℕ → ℕ → ℕ → List ℕ → List ℕ
with_run s from n ws = take from s ++ (ws ++ drop (from + n) s)

-- s with ws in the place of the n bytes from the index `from` on, where ws is first cut to n bytes, or filled up to n
-- with those that s has there
abbrev pub patched : List ℕ → ℕ → ℕ → List ℕ → List ℕ
patched s from n ws = with_run s from n (refill n (take n (drop from s)) ws)
