use Rattle.desk_tests.proofs.memory.+makes_below.Given as goal

abbrev pub decreases-makes_below : goal.decreases-makes_below
decreases-makes_below g l = l.calls
