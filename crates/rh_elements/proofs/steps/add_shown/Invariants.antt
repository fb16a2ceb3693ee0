use Rattle.std.proofs.Common.{◌≡◌, ◌++◌, map, take}
use Rattle.rh_figure.specs.Map.{shown_byte}
use Rattle.rh_elements.proofs.steps.add_shown.Given as goal

-- the bytes so far were added
abbrev pub invariant-loop-byte : goal.invariant-loop-byte
invariant-loop-byte l = l.row ≡ l.initial.row ++ map shown_byte (take l.byte-index l.text)
