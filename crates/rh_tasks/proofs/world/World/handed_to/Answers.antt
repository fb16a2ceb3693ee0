use Rattle.rh_tasks.proofs.Common.{◌∙◌, kept_of}
use Rattle.rh_tasks.proofs.Finding.{found-in}
use Rattle.rh_tasks.proofs.Hands.{hands-none, hands-some}
use Rattle.rh_tasks.proofs.Polls.{place-in, task-there}
use Rattle.rh_tasks.proofs.world.World.handed_to.Goals as goal

pub handed_at-requires : goal.handed_at-requires
handed_at-requires g c =
    let f = found-in c.in-Ok.ensures.ok in
    rw (← c.self.view_is) (place-in c.self.invariant f.1)

pub returns-in-Ok : goal.returns-in-Ok
returns-in-Ok g c =
    let f = found-in c.in-Ok.ensures.ok in
    let handed = (rw (← c.self.view_is) at c.handed_at.ensures) _ (task-there c.self.invariant f.1) in
    rw (← c.self.view_is) (handed ∙ hands-some c.self.invariant f.1)

pub returns-in-Err : goal.returns-in-Err
returns-in-Err g c =
    rw (← c.self.view_is) (hands-none (g.S.Words.memory c.self.inside.store) c.self.inside.seats.items c.self.inside.made.items
    (g.F.NamedFiles.contents c.self.inside.files)
    (kept_of c.self.inside.next c.self.inside.queue c.self.inside.scrap) c.args.name.now c.in-Err.ensures.err.1)
