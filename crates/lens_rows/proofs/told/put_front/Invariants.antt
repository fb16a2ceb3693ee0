use Rattle.std.proofs.Common.{◌≡◌, take}
use Rattle.lens_rows.proofs.told.put_front.Given as goal

-- the bytes so far are in the list
abbrev pub invariant-loop-byte : goal.invariant-loop-byte
invariant-loop-byte l = l.list.items ≡ take l.byte-index l.bytes
