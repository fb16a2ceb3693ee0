use Rattle.std.proofs.Common.{◌≡◌, ◌≤◌, ◌+◌, ◌^◌, take, true}
use Rattle.std.specs.List.{list_all}
use Rattle.hex.specs.Hex.{is_hex_digit}
use Rattle.rh_defs.specs.Line.{hex_number}
use Rattle.rh_lines.proofs.hexadecimal.hex_number.Given as goal

-- the bytes so far are digits, and spell the number
abbrev pub invariant-loop-b : goal.invariant-loop-b
invariant-loop-b l = record {
  digits : list_all is_hex_digit (take l.b-index l.digits) ≡ true;
  so_far : l.number ≡ hex_number (take l.b-index l.digits);
  bound : l.number + 1 ≤ 16 ^ l.b-index;
}
