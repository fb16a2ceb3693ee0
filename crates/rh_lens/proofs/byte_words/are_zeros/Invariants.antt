use Rattle.std.proofs.Common.{◌≡◌, take, true}
use Rattle.std.specs.List.{list_all}
use Rattle.rh_lens.specs.ByteWords.{is_zero}
use Rattle.rh_lens.proofs.byte_words.are_zeros.Given as goal

-- the bytes so far are zeros
abbrev pub invariant-loop-byte : goal.invariant-loop-byte
invariant-loop-byte l = list_all is_zero (take l.byte-index l.bytes) ≡ true
