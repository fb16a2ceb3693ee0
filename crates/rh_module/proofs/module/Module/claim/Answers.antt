-- The heap as it is grants the claim, or all is asked again.
use Rattle.rh_module.proofs.NeedLaws.{claimed_here}
use Rattle.rh_module.proofs.module.Module.claim.Goals as goal

pub returns-in-Ok : goal.returns-in-Ok
returns-in-Ok g c = claimed_here c.span.ensures c.requires _ _ _ c.in-Ok.ensures
