use Rattle.rh_tasks.proofs.Common.{◌∙◌}
use Rattle.rh_tasks.proofs.Cancels.{releases}
use Rattle.rh_tasks.proofs.Slides.{seat-sits}
use Rattle.rh_tasks.proofs.world.World.released_in.Goals as goal

pub returns : goal.returns
returns g c =
    let at = seat-sits _ _ _ _ _ c.self.view_is c.requires c.index-seat.ensures in
    rw (← c.self.view_is) (λ t there. c.released_buffer.ensures ∙ releases c.self.invariant at c.args.id t there)
