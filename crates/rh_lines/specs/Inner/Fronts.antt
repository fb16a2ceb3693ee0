-- A write that may stop within the bytes.
use Rattle.std.specs.Prelude.{◌≡◌, ℕ, ◌≤◌, ◌||◌, List, length, take, nat_lt}
use Rattle.std.specs.Io.KnownBytes.{Appends}
use Rattle.rh_lines.specs.Flow.{Output, count_after}

-- the writer took the first n bytes, and failed where these aren't all
pub record TakesFront (old new : Output) (n : ℕ) (bytes : List ℕ) : Type 0 where
  pub few : n ≤ length bytes
  pub taken : Appends old.taken new.taken (take n bytes)
  pub counted : new.count ≡ count_after old.count (length (take n bytes))
  pub failed : new.failed ≡ (old.failed || nat_lt n (length bytes))
