use Rattle.rh_tasks.proofs.Posts.{is-post}
use Rattle.rh_tasks.proofs.world.World.messages.Goals as goal

pub returns : goal.returns
returns g c = rw (← c.self.view_is) (c.list.ensures _ (is-post c.self.invariant))
