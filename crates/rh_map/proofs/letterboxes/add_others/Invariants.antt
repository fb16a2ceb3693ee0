use Rattle.rh_map.proofs.Common.{ℕ, ◌≤◌, List, ◌++◌, length, codes, flat_map, message_entry_text, Fills}
use Rattle.rh_map.proofs.FillLemmas.{FillsLeft}
use Rattle.rh_map.proofs.letterboxes.add_others.Given as goal

-- the messages of the rest are left
abbrev pub invariant-loop-entry : goal.invariant-loop-entry
invariant-loop-entry l = record {
  left : (text : List ℕ) → Fills l.initial.row text
      → FillsLeft l.row (text ++ flat_map (λ e. codes ", " ++ message_entry_text e) l.others)
      (flat_map (λ e. codes ", " ++ message_entry_text e) l.rest);
  few : length l.row ≤ 120;
}

abbrev pub decreases-loop-entry : goal.decreases-loop-entry
decreases-loop-entry l = length l.rest
