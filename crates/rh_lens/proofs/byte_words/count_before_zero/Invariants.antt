use Rattle.std.proofs.Common.{◌≡◌, ◌+◌, length, drop}
use Rattle.rh_lens.specs.ByteWords.{before_zero}
use Rattle.rh_lens.proofs.byte_words.count_before_zero.Given as goal

-- the bytes so far are before the first zero
abbrev pub invariant-loop-byte : goal.invariant-loop-byte
invariant-loop-byte l = record {
  count : l.count ≡ l.byte-index;
  value : l.count + length (before_zero (drop l.byte-index l.bytes)) ≡ length (before_zero l.bytes);
}
