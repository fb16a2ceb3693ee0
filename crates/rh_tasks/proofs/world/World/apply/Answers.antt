use Rattle.rh_tasks.proofs.Steps.{runs_on}
use Rattle.rh_tasks.proofs.world.World.apply.Goals as goal

pub returns-clause-runs : goal.returns-clause-runs
returns-clause-runs g c = runs_on _ _ _ _ c.change-reply.ensures.steps
