use Rattle.std.proofs.Common.{◌≡◌, ◌≤◌, ◌+◌, ◌*◌, ◌^◌, take, true}
use Rattle.std.specs.List.{list_all}
use Rattle.std.specs.Char.{is_ascii_digit}
use Rattle.rh_defs.specs.Forms.{number_of}
use Rattle.rh_lines.proofs.forms.decimal.Given as goal

-- the bytes so far are digits, and spell the number
abbrev pub invariant-loop-b : goal.invariant-loop-b
invariant-loop-b l = record {
  digits : list_all is_ascii_digit (take l.b-index l.word) ≡ true;
  so_far : l.number ≡ number_of (take l.b-index l.word);
  bound : l.number + 23 ≤ 23 * 10 ^ l.b-index;
}
