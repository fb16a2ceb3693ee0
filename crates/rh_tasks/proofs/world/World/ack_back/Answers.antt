use Rattle.std.proofs.Common.{sym}
use Rattle.rh_defs.specs.Receiver as receiver
use Rattle.rh_tasks.proofs.SeatRecords.{sits-in, taking-world}
use Rattle.rh_tasks.proofs.Bounces.{taking-bounced, taking-unknown}
use Rattle.rh_tasks.proofs.world.World.ack_back.Goals as goal

pub invariant_of-self : goal.invariant_of-self
invariant_of-self g c =
    let inside = rw (← c.self.view_is) at c.requires in
    let at = sits-in c.self.invariant inside (sym c.index_mut-seat.ensures.value) in
    taking-world c.self.invariant at (receiver.ack_bounced
    (receiver.on_ack_bounce c.args.ack c.index_mut-seat.result.now.taking)) c.if-on_ack_bounce.ensures.records

pub invariant_of-self-2 : goal.invariant_of-self-2
invariant_of-self-2 g c =
    let inside = rw (← c.self.view_is) at c.requires in
    let at = sits-in c.self.invariant inside (sym c.index_mut-seat.ensures.value) in
    taking-world c.self.invariant at (receiver.ack_bounced
    (receiver.on_ack_bounce c.args.ack c.index_mut-seat.result.now.taking)) c.if-on_ack_bounce.ensures.records

pub returns-then-on_ack_bounce : goal.returns-then-on_ack_bounce
returns-then-on_ack_bounce g c = λ t there.
    let inside = rw (← c.self.view_is) at c.requires in
    let at = sits-in c.self.invariant inside (sym c.index_mut-seat.ensures.value) in
    let where_is = rw (← c.self.view_is) at there in
    rw (← c.self.view_is) (taking-bounced c.self.invariant at c.args.ack c.if-on_ack_bounce.ensures.records c.if-on_ack_bounce.ensures.known t where_is)

pub returns : goal.returns
returns g c = λ t there.
    let inside = rw (← c.self.view_is) at c.requires in
    let at = sits-in c.self.invariant inside (sym c.index_mut-seat.ensures.value) in
    let where_is = rw (← c.self.view_is) at there in
    rw (← c.self.view_is) (taking-unknown c.self.invariant at c.args.ack c.if-on_ack_bounce.ensures.records c.if-on_ack_bounce.ensures.known t where_is)
