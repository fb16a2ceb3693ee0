use Rattle.rh_elements.proofs.Common.{◌≡◌, ◌≤◌, ◌+◌, ◌*◌, ◌++◌, take, length, escape}
use Rattle.rh_elements.proofs.escape.add_escaped.Given as goal

-- the bytes so far were added
abbrev pub invariant-loop-byte : goal.invariant-loop-byte
invariant-loop-byte l = record {
  value : l.row ≡ l.initial.row ++ escape (take l.byte-index l.text);
  few : length l.row ≤ length l.initial.row + 6 * l.byte-index;
}
