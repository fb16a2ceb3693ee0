use Rattle.rh_map.proofs.Common.{◌≡◌, ◌≤◌, ◌+◌, ◌*◌, ◌++◌, take, length, codes, flat_map, decimal}
use Rattle.rh_map.proofs.numbers.add_others.Given as goal

-- the numbers so far were added
abbrev pub invariant-loop-number : goal.invariant-loop-number
invariant-loop-number l = record {
  value : l.row ≡ l.initial.row ++ flat_map (λ n. codes " " ++ decimal n) (take l.number-index l.numbers);
  short : length l.row ≤ length l.initial.row + 12 * l.number-index;
}
