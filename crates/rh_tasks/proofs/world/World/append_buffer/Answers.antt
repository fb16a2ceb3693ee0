use Rattle.rh_tasks.proofs.Common.{part, bytes, Sits}
use Rattle.rh_tasks.proofs.Buffers.{sits-there, appended-world, appended-returns}
use Rattle.rh_tasks.proofs.world.World.append_buffer.Goals as goal

pub invariant_of-self : goal.invariant_of-self
invariant_of-self g c =
    let at : Sits c.self.inside.seats.items c.args.i c.index-seat.result.now = sits-there c.self.invariant c.self.view_is c.requires c.index-seat.ensures in (
    appended-world c.self.invariant at c.args.anchor
    (part (bytes (g.S.Words.memory c.self.inside.store) c.index-seat.result.now.slot.area.0) c.held_in-place.result.0 c.held_in-place.result.1)
    c.append.result c.append.ensures)

pub returns : goal.returns
returns g c =
    let at : Sits c.self.inside.seats.items c.args.i c.index-seat.result.now = sits-there c.self.invariant c.self.view_is c.requires c.index-seat.ensures in
    appended-returns c.self.invariant at c.args.anchor
    (part (bytes (g.S.Words.memory c.self.inside.store) c.index-seat.result.now.slot.area.0) c.held_in-place.result.0 c.held_in-place.result.1)
    c.self.view_is c.append.result c.append.ensures c.args.buffer c.args.n c.held_in-place.ensures.bytes
