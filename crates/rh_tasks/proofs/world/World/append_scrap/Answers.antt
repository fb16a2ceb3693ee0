use Rattle.rh_tasks.proofs.Common.{part, bytes, Sits}
use Rattle.rh_tasks.proofs.Buffers.{sits-there, appended-world}
use Rattle.rh_tasks.proofs.Scraps.{scrap-appended}
use Rattle.rh_tasks.proofs.world.World.append_scrap.Goals as goal

pub invariant_of-self : goal.invariant_of-self
invariant_of-self g c =
    let at : Sits c.self.inside.seats.items c.args.i c.index-seat.result.now = sits-there c.self.invariant c.self.view_is c.requires c.index-seat.ensures in (
    appended-world c.self.invariant at c.args.anchor (part (bytes (g.S.Words.memory c.self.inside.store) 5) 0 c.scrap_size-size.result) c.append.result
    c.append.ensures)

pub returns : goal.returns
returns g c =
    let at : Sits c.self.inside.seats.items c.args.i c.index-seat.result.now = sits-there c.self.invariant c.self.view_is c.requires c.index-seat.ensures in
    scrap-appended c.self.invariant at c.self.view_is c.args.anchor c.append.result (rw c.scrap_size-size.ensures at c.append.ensures)
