use Rattle.std.proofs.Common.{◌≡◌, ◌+◌, ◌*◌, ◌++◌, length, take, drop}
use Rattle.std.specs.List.{flat_map}
use Rattle.rh_lens.specs.ByteWords.{pair_behind}
use Rattle.rh_lens.proofs.byte_words.pairs.Given as goal

-- the bytes so far were added
abbrev pub invariant-loop-byte : goal.invariant-loop-byte
invariant-loop-byte l = record {
  value : l.row ≡ l.initial.row ++ flat_map pair_behind (take l.byte-index (drop 1 l.bytes));
  few : length l.row ≡ length l.initial.row + 3 * l.byte-index;
}
