use Rattle.std.proofs.Common.{◌≡◌, drop, find}
use Rattle.rh_explained.specs.Explanations.{is_foreign}
use Rattle.rh_explained.proofs.oddity.first_foreign.Given as goal

-- none so far passes
abbrev pub invariant-loop-byte : goal.invariant-loop-byte
invariant-loop-byte l = find is_foreign (drop l.byte-index l.line) ≡ find is_foreign l.line
