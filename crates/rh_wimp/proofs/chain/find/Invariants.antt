use Rattle.std.proofs.Common.{◌-◌, ◌==◌, length}
use Rattle.rh_wimp.proofs.PlaceLaws.{CountsFrom}
use Rattle.rh_wimp.proofs.chain.find.Given as goal

abbrev pub invariant-loop-at : goal.invariant-loop-at
invariant-loop-at l = CountsFrom (λ e. e.handle == l.handle) l.all l.at

abbrev pub decreases-loop-at : goal.decreases-loop-at
decreases-loop-at l = length l.all - l.at
