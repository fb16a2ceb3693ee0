use Rattle.memchr.specs.Find.{Nowhere, Passes, is_byte}
use Rattle.rh_lines.proofs.words.space_from.Given as goal
use Rattle.rh_defs.specs.Bytes.{space}

-- no byte so far is a space
abbrev pub invariant-loop-i : goal.invariant-loop-i
invariant-loop-i l = Nowhere (Passes (is_byte space) l.piece) 0 l.i
