use Rattle.desk_tests.proofs.refusals.+ends_below.Given as goal

abbrev pub decreases-ends_below : goal.decreases-ends_below
decreases-ends_below g l = l.calls
