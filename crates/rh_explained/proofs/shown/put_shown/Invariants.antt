use Rattle.std.proofs.Common.{◌≡◌, ◌++◌, flat_map, take}
use Rattle.rh_explained.specs.ShownBytes.{shown_byte}
use Rattle.rh_explained.proofs.shown.put_shown.Given as goal

-- the bytes so far were offered
abbrev pub invariant-loop-byte : goal.invariant-loop-byte
invariant-loop-byte g l = g.P.Pen.offered l.pen ≡ g.P.Pen.offered l.initial.pen ++ flat_map shown_byte (take l.byte-index l.bytes)
