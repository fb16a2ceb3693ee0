use Rattle.std.proofs.Common.{sym}
use Rattle.rh_tasks.proofs.Repeats.{from-live}
use Rattle.rh_tasks.proofs.SentLetters.{at-place, own-letter, sends-world, sends-done}
use Rattle.rh_tasks.proofs.world.World.send_from.Goals as goal

pub send-requires-clause-from : goal.send-requires-clause-from
send-requires-clause-from g c =
    let p = rw (← c.self.view_is) at c.requires in
    let at = at-place c.self.invariant p.1.0 (sym c.index_mut-seat.ensures.value) in
    from-live c.self.invariant at c.args.letter (own-letter c.self.invariant at p.1.0 c.args.letter p.1.1)

pub invariant_of-self : goal.invariant_of-self
invariant_of-self g c =
    let p = rw (← c.self.view_is) at c.requires in
    let at = at-place c.self.invariant p.1.0 (sym c.index_mut-seat.ensures.value) in
    let own = own-letter c.self.invariant at p.1.0 c.args.letter p.1.1 in
    let e = c.send.ensures in
    sends-world c.self.invariant at c.args.letter own c.send.new.seat e.leaves c.send.result e.answer e.ok e.err

pub returns : goal.returns
returns g c =
    let p = rw (← c.self.view_is) at c.requires in
    let at = at-place c.self.invariant p.1.0 (sym c.index_mut-seat.ensures.value) in
    let own = own-letter c.self.invariant at p.1.0 c.args.letter p.1.1 in
    let e = c.send.ensures in
    rw (← c.self.view_is) (sends-done c.self.invariant at c.args.letter own c.send.new.seat e.leaves c.send.result e.answer e.ok e.err)
