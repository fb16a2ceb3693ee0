use Rattle.std.proofs.Common.{sym}
use Rattle.rh_tasks.proofs.Takes.{seat-in, seat-live, event-is, taken-world, taken-alike, spells-after}
use Rattle.rh_tasks.proofs.world.World.take_event.Goals as goal

pub poll_read-event-requires-clause-live : goal.poll_read-event-requires-clause-live
poll_read-event-requires-clause-live g c =
    let inside = rw (← c.self.view_is) at c.requires in
    let at = seat-in c.self.invariant inside (sym c.index-seat.ensures) in
    seat-live c.self.invariant at

pub invariant_of-self : goal.invariant_of-self
invariant_of-self g c =
    let inside = rw (← c.self.view_is) at c.requires in
    let at = seat-in c.self.invariant inside (sym c.index-seat.ensures) in
    let l = c.poll_read-event.ensures.leaves in
    let scrap = c.kept_scrap-self-inside.ensures _ (spells-after c.self.invariant at l) in
    rw scrap (taken-world c.self.invariant at l)

pub returns-clause-event : goal.returns-clause-event
returns-clause-event g c = λ t there.
    let inside = rw (← c.self.view_is) at c.requires in
    let at = seat-in c.self.invariant inside (sym c.index-seat.ensures) in
    let where_is = rw (← c.self.view_is) at there in
    rw (← c.self.view_is) (event-is c.self.invariant at c.poll_read-event.result c.poll_read-event.ensures.answer t where_is)

pub returns-clause-desk : goal.returns-clause-desk
returns-clause-desk g c = λ t there.
    let inside = rw (← c.self.view_is) at c.requires in
    let at = seat-in c.self.invariant inside (sym c.index-seat.ensures) in
    let l = c.poll_read-event.ensures.leaves in
    let scrap = c.kept_scrap-self-inside.ensures _ (spells-after c.self.invariant at l) in
    let where_is = rw (← c.self.view_is) at there in
    rw (← c.self.view_is, scrap) (taken-alike c.self.invariant at l t where_is)
