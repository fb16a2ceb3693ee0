use Rattle.std.proofs.Common.{◌≡◌, ◌≤◌, take}
use Rattle.rh_sheet.specs.Chart.{place_among}
use Rattle.rh_elements.proofs.notes.place_among.Given as goal

-- the smaller ones so far were counted
abbrev pub invariant-loop-number : goal.invariant-loop-number
invariant-loop-number l = record {
  value : l.count ≡ place_among l.n (take l.number-index l.numbers);
  few : l.count ≤ l.number-index;
}
