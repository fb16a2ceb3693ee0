use Rattle.std.proofs.Common.{◌≡◌, length}
use Rattle.rh_defs.specs.Line.{words_of}
use Rattle.rh_map.proofs.script_lines.unspaced.Given as goal

-- the rest has the words of the line
abbrev pub invariant-loop-first : goal.invariant-loop-first
invariant-loop-first l = words_of l.rest ≡ words_of l.line

abbrev pub decreases-loop-first : goal.decreases-loop-first
decreases-loop-first l = length l.rest
