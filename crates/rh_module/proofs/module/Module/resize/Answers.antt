-- The heap as it is grants the resize, or all is asked again.
use Rattle.rh_module.proofs.NeedLaws.{resized_here}
use Rattle.rh_module.proofs.module.Module.resize.Goals as goal

pub returns-in-Ok : goal.returns-in-Ok
returns-in-Ok g c = resized_here c.span.ensures c.requires c.args.address c.args.delta c.ranges.delta _ _ c.in-Ok.ensures
