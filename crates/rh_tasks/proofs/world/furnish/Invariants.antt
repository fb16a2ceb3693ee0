use Rattle.rh_tasks.proofs.Openings.{AreOpened}
use Rattle.rh_tasks.proofs.world.furnish.Given as goal

abbrev pub invariant-loop-area : goal.invariant-loop-area
invariant-loop-area g l = AreOpened (g.S.Words.memory l.store) l._area (g.S.Words.memory l.fn.store).pages
