use Rattle.rh_pictures.proofs.Common.{◌≡◌, take}
use Rattle.rh_pictures.proofs.lens.fronts.put_front.Given as goal

-- the bytes so far are in the list
abbrev pub invariant-loop-byte : goal.invariant-loop-byte
invariant-loop-byte l = l.front.items ≡ take l.byte-index l.bytes
