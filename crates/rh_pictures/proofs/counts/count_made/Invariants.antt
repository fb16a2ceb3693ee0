use Rattle.std.proofs.Common.{◌-◌, ◌≤◌, length}
use Rattle.rh_pictures.proofs.counts.count_made.Given as goal

-- no more than there are
abbrev pub invariant-areas : goal.invariant-areas
invariant-areas g l = l.i ≤ length (g.S.Sight.desk l.sight).made

abbrev pub decreases-areas : goal.decreases-areas
decreases-areas g l = length (g.S.Sight.desk l.sight).made - l.i
