use Rattle.vf_flex.proofs.WideLaws.{WideTold}
use Rattle.vf_flex.proofs.wide.tell_wide_places.Given as goal

-- the places so far are told
abbrev pub invariant-loop-anchor : goal.invariant-loop-anchor
invariant-loop-anchor l = WideTold l.memory l.slot l.initial.places l.places l.anchor
