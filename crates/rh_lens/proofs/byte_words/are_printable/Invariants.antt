use Rattle.std.proofs.Common.{◌≡◌, take, true}
use Rattle.std.specs.List.{list_all}
use Rattle.rh_lens.specs.ByteWords.{is_printable}
use Rattle.rh_lens.proofs.byte_words.are_printable.Given as goal

-- the bytes so far can be printed
abbrev pub invariant-loop-byte : goal.invariant-loop-byte
invariant-loop-byte l = list_all is_printable (take l.byte-index l.bytes) ≡ true
