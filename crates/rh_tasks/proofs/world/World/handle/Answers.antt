use Rattle.rh_tasks.proofs.Tables.{user-or-recorded, acknowledged}
use Rattle.rh_tasks.proofs.world.World.handle.Goals as goal

pub returns-in-User : goal.returns-in-User
returns-in-User g c = λ t m for. user-or-recorded c.args.self.now.desk t m c.args.code c.in-User.is _ (c.deliver.ensures t m for)

pub returns-in-Acknowledge : goal.returns-in-Acknowledge
returns-in-Acknowledge g c = λ t m for. acknowledged c.args.self.now.desk t m c.args.code c.in-Acknowledge.is _ (c.bounce.ensures t m for)
