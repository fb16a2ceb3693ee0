use Rattle.std.proofs.Common.{◌≡◌, ◌+◌, ◌-◌, ◌<◌, ◌^◌, ◌++◌, length, true}
use Rattle.std.specs.Fmt.{digits}
use Rattle.rh_lines.proofs.hexadecimal.put_hex_number.Given as goal

-- the digits that were put are those behind the rest
abbrev pub invariant-loop-rest : goal.invariant-loop-rest
invariant-loop-rest l = record {
  so_far : digits 16 true l.number ++ l.initial.text ≡ digits 16 true l.rest ++ l.text;
  few : l.rest < 16 ^ (length l.initial.text + 8 - length l.text);
  some : length l.text < length l.initial.text + 8;
}

abbrev pub decreases-loop-rest : goal.decreases-loop-rest
decreases-loop-rest l = l.rest
