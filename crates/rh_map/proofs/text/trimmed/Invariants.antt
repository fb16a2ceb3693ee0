use Rattle.rh_map.proofs.Common.{◌≡◌, length, trimmed}
use Rattle.rh_map.proofs.text.trimmed.Given as goal

-- only spaces were left out
abbrev pub invariant-loop-last : goal.invariant-loop-last
invariant-loop-last l = trimmed l.text ≡ trimmed l.front

abbrev pub decreases-loop-last : goal.decreases-loop-last
decreases-loop-last l = length l.front
