use Rattle.std.proofs.Common.{◌∙◌}
use Rattle.rh_run.proofs.MessageLaws.{messages-seen}
use Rattle.rh_run.proofs.sight.ScriptWorldSight.messages.Goals as goal

pub returns : goal.returns
returns g c = c.messages.ensures ∙ messages-seen c.args.self.now.world.now.desk c.recall_spelling.ensures.desk
