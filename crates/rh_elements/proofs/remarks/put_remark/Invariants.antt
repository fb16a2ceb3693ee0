use Rattle.rh_elements.proofs.Common.{◌≡◌, ◌++◌, map, take, escape, remark_byte}
use Rattle.rh_elements.proofs.remarks.put_remark.Given as goal

-- the bytes so far were written
abbrev pub invariant-loop-byte : goal.invariant-loop-byte
invariant-loop-byte g l =
    g.P.Pen.offered l.pen ≡ g.P.Pen.offered l.initial.pen ++ escape (map remark_byte (take l.byte-index l.words))
