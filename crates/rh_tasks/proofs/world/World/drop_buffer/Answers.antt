use Rattle.rh_tasks.proofs.Lists.{Sits}
use Rattle.rh_tasks.proofs.Buffers.{sits-there, dropped-world, dropped-returns}
use Rattle.rh_tasks.proofs.world.World.drop_buffer.Goals as goal

pub invariant_of-self : goal.invariant_of-self
invariant_of-self g c =
    let at : Sits c.self.inside.seats.items c.args.i c.index-seat.result.now = sits-there c.self.invariant c.self.view_is c.requires c.index-seat.ensures in
    dropped-world c.self.invariant at c.args.buffer c.release.ensures

pub returns : goal.returns
returns g c =
    let at : Sits c.self.inside.seats.items c.args.i c.index-seat.result.now = sits-there c.self.invariant c.self.view_is c.requires c.index-seat.ensures in
    dropped-returns c.self.invariant at c.args.buffer c.release.ensures c.self.view_is
