use Rattle.std.proofs.Common.{sym}
use Rattle.rh_tasks.proofs.SeatRecords.{sits-in}
use Rattle.rh_tasks.proofs.Writes.{from-inside, to-reach, from-apart, wrote-world, wrote-desk}
use Rattle.rh_tasks.proofs.world.World.write_portion.Goals as goal

pub write_from-requires-clause-source : goal.write_from-requires-clause-source
write_from-requires-clause-source g c =
    let w = c.self.invariant in
    let q = rw (← c.self.view_is) at c.requires in
    from-inside w (sits-in w q.source (sym c.index-source.ensures)) (sits-in w q.target (sym c.index-seat.ensures)) c.args.a.now c.args.portion.part
    c.args.portion.address c.args.portion.size c.args.target.address c.args.target.room c.place_of-place.result
    q.portion q.reach q.room c.place_of-place.ensures.none c.place_of-place.ensures.some

pub write_from-requires-clause-reach : goal.write_from-requires-clause-reach
write_from-requires-clause-reach g c =
    let w = c.self.invariant in
    let q = rw (← c.self.view_is) at c.requires in
    to-reach w (sits-in w q.source (sym c.index-source.ensures)) (sits-in w q.target (sym c.index-seat.ensures)) c.args.a.now c.args.portion.part
    c.args.portion.address c.args.portion.size c.args.target.address c.args.target.room c.place_of-place.result
    q.portion q.reach q.room c.place_of-place.ensures.none c.place_of-place.ensures.some

pub write_from-requires-clause-apart : goal.write_from-requires-clause-apart
write_from-requires-clause-apart g c =
    let w = c.self.invariant in
    let q = rw (← c.self.view_is) at c.requires in
    from-apart w (sits-in w q.source (sym c.index-source.ensures)) (sits-in w q.target (sym c.index-seat.ensures)) c.args.a.now c.args.portion.part
    c.args.portion.address c.args.portion.size c.args.target.address c.args.target.room c.place_of-place.result
    q.portion q.reach q.room c.place_of-place.ensures.none c.place_of-place.ensures.some

pub invariant_of-self : goal.invariant_of-self
invariant_of-self g c =
    let w = c.self.invariant in
    let q = rw (← c.self.view_is) at c.requires in (
    wrote-world w (sits-in w q.source (sym c.index-source.ensures)) (sits-in w q.target (sym c.index-seat.ensures)) c.args.a.now c.args.portion.part
    c.args.portion.address c.args.portion.size c.args.target.address c.args.target.room c.place_of-place.result
    q.portion q.reach q.room c.place_of-place.ensures.none c.place_of-place.ensures.some
    c.write_from.ensures)

pub returns : goal.returns
returns g c =
    let w = c.self.invariant in
    let q = rw (← c.self.view_is) at c.requires in
    rw (← c.self.view_is)
    (wrote-desk w (sits-in w q.source (sym c.index-source.ensures)) (sits-in w q.target (sym c.index-seat.ensures)) c.args.a.now c.args.portion.part
    c.args.portion.address c.args.portion.size c.args.target.address c.args.target.room c.place_of-place.result
    q.portion q.reach q.room c.place_of-place.ensures.none c.place_of-place.ensures.some
    c.write_from.ensures)
