use Rattle.std.proofs.Common.{sym, arith}
use Rattle.rh_wimp.proofs.PlaceLaws.{none-in}
use Rattle.rh_tasks.proofs.seats.position_by_turns.Goals as goal

pub loop-at-preserved : goal.loop-at-preserved
loop-at-preserved c =
    none-in _ _ c.loop-at.at _ _ c.loop-at.invariant (sym c.in_default.ensures) (omega arith) (omega (arith, c.loop-at-test.true, c.loop-at.invariant.1))
