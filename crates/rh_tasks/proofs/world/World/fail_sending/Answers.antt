use Rattle.std.proofs.Common.{sym}
use Rattle.rh_defs.specs.Sender as sender
use Rattle.rh_tasks.proofs.SeatRecords.{sits-in, sending-world}
use Rattle.rh_tasks.proofs.Bounces.{sending-bounced, sending-unknown}
use Rattle.rh_tasks.proofs.world.World.fail_sending.Goals as goal

pub invariant_of-self : goal.invariant_of-self
invariant_of-self g c =
    let inside = rw (← c.self.view_is) at c.requires in
    let at = sits-in c.self.invariant inside (sym c.index_mut-seat.ensures.value) in
    sending-world c.self.invariant at (sender.sending_bounced
    (sender.on_sending_bounce c.args.last c.index_mut-seat.result.now.sending)) c.if-on_bounce.ensures.records

pub invariant_of-self-2 : goal.invariant_of-self-2
invariant_of-self-2 g c =
    let inside = rw (← c.self.view_is) at c.requires in
    let at = sits-in c.self.invariant inside (sym c.index_mut-seat.ensures.value) in
    sending-world c.self.invariant at (sender.sending_bounced
    (sender.on_sending_bounce c.args.last c.index_mut-seat.result.now.sending)) c.if-on_bounce.ensures.records

pub returns-then-on_bounce : goal.returns-then-on_bounce
returns-then-on_bounce g c = λ t there.
    let inside = rw (← c.self.view_is) at c.requires in
    let at = sits-in c.self.invariant inside (sym c.index_mut-seat.ensures.value) in
    let where_is = rw (← c.self.view_is) at there in
    rw (← c.self.view_is) (sending-bounced c.self.invariant at c.args.last c.if-on_bounce.ensures.records c.if-on_bounce.ensures.known t where_is)

pub returns : goal.returns
returns g c = λ t there.
    let inside = rw (← c.self.view_is) at c.requires in
    let at = sits-in c.self.invariant inside (sym c.index_mut-seat.ensures.value) in
    let where_is = rw (← c.self.view_is) at there in
    rw (← c.self.view_is) (sending-unknown c.self.invariant at c.args.last c.if-on_bounce.ensures.records c.if-on_bounce.ensures.known t where_is)
