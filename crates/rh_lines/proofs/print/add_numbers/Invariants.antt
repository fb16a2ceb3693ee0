use Rattle.std.proofs.Common.{◌≡◌, ◌≤◌, ◌++◌, ◌+◌, ◌*◌, length, take}
use Rattle.std.specs.List.{flat_map}
use Rattle.rh_lines.proofs.NumberLemmas.{spaced}
use Rattle.rh_lines.proofs.print.add_numbers.Given as goal

-- the numbers so far are in the row, each behind a space
abbrev pub invariant-loop-number : goal.invariant-loop-number
invariant-loop-number l =
    (l.row ≡ l.initial.row ++ flat_map spaced (take l.number-index l.numbers))
    × (length l.row ≤ length l.initial.row + 12 * l.number-index)
