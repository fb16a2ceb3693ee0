-- What a reader has left and what a writer has taken, and what writing some bytes does.
use Rattle.std.specs.Prelude.{◌≡◌, ℕ, ◌+◌, min, Bool, true, false, ◌==◌, ◌&&◌, not, List, ◌++◌, length, Option, Some, Result, Ok, Err, OnOk, OnErr, if◌then◌else◌}
use Rattle.std.specs.Io.KnownBytes.{Appends}
use Rattle.std.specs.Option.{option_map}

-- a writer: the bytes that it has taken, where they are known, how many they are, where it counts them, and whether a
-- call ever failed
pub record Output : Type 0 where
  pub taken : Option (List ℕ)
  pub count : Option ℕ
  pub failed : Bool

-- a reader: the bytes that it has left, where they are known, whether a call ever failed, and how many reads
-- gave bytes, which stays at 1,000,001 once it is there
pub record Input : Type 0 where
  pub left : Option (List ℕ)
  pub failed : Bool
  pub reads : ℕ

-- a reader that has all of these bytes left
abbrev pub unread : List ℕ → Input
unread bytes = record { left = Some bytes; failed = false; reads = 0 }

abbrev pub most_reads : ℕ
most_reads = 1000001

-- the count after one more read that gave n bytes
abbrev pub reads_after : ℕ → ℕ → ℕ
reads_after reads n = if n == 0 then reads else min most_reads (reads + 1)

-- a write of n bytes failed: an error, or bytes were offered and none was taken
abbrev pub write_failed : {E : Type 0} → Result ℕ E → ℕ → Bool
write_failed (Ok k) n = (k == 0) && not (n == 0)
write_failed (Err e) n = true

-- how many bytes a write took
abbrev pub bytes_taken : {E : Type 0} → Result ℕ E → ℕ
bytes_taken (Ok k) = k
bytes_taken (Err e) = 0

-- the count after n more bytes, where there is one
abbrev pub count_after : Option ℕ → ℕ → Option ℕ
count_after count n = option_map (λ k. k + n) count

-- the writer took just these bytes, and no call failed
pub record Takes (old new : Output) (bytes : List ℕ) : Type 0 where
  pub taken : Appends old.taken new.taken bytes
  pub counted : new.count ≡ count_after old.count (length bytes)
  pub failed : new.failed ≡ old.failed

-- a call failed, and the writer took only a front of these bytes
pub record Breaks (old new : Output) (bytes : List ℕ) : Type 0 where
  pub front : List ℕ
  pub back : List ℕ
  pub whole : bytes ≡ front ++ back
  pub taken : Appends old.taken new.taken front
  pub counted : new.count ≡ count_after old.count (length front)
  pub failed : new.failed ≡ true

-- all of the bytes at Ok, and a front of them at Err, which comes only where the writer failed
pub record Puts {E : Type 0} (old new : Output) (r : Result Unit E) (bytes : List ℕ) : Type 0 where
  pub ok : OnOk r (Takes old new bytes)
  pub err : OnErr r (Breaks old new bytes)
