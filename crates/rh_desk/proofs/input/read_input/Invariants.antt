use Rattle.std.proofs.Common.{◌≡◌, ◌+◌, ◌-◌, length}
use Rattle.std.specs.Io.KnownBytes.{Consumes}
use Rattle.rh_defs.specs.declared.sizes.TheConstants.{LONGEST_FILE, PAGE}
use Rattle.rh_desk.proofs.input.read_input.Given as goal

-- the bytes are all that was read, and nothing was told
abbrev pub invariant-loop-piece : goal.invariant-loop-piece
invariant-loop-piece g l = record {
  piece : length l.piece ≡ PAGE;
  read : Consumes (g.I.Source.input l.fn.input).left (g.I.Source.input l.input).left l.bytes.items;
  well : (g.I.Source.input l.input).failed ≡ (g.I.Source.input l.fn.input).failed;
  quiet : g.E.Sink.output l.errors ≡ g.E.Sink.output l.fn.errors;
}

abbrev pub decreases-loop-piece : goal.decreases-loop-piece
decreases-loop-piece g l = LONGEST_FILE + 1 - length l.bytes.items
