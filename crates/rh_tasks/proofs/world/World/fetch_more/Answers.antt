use Rattle.std.proofs.Common.{rules}
use Rattle.rh_tasks.proofs.Common.{ap, err_from_is_err_and, Letter, task_of, Sits}
use Rattle.rh_tasks.proofs.Buffers.{sits-there, seat-there, seat-handle}
use Rattle.rh_defs.specs.declared.transfer_action.TakeAction.TheVariants as take
use Rattle.rh_tasks.proofs.Dues.{sent-records, still-takes}
use Rattle.rh_tasks.proofs.Takings.{inside, stands-sent, fetch-refused, fetch-done}
use Rattle.rh_defs.specs.Receiver as receiver
use Rattle.rh_tasks.proofs.world.World.fetch_more.Goals as goal

pub send_from-requires : goal.send_from-requires
unfolding task_of
send_from-requires g c =
    let at : Sits c.self.inside.seats.items c.args.i c.index-seat.result.now =
    sits-there c.self.invariant c.self.view_is c.requires.place c.index-seat.ensures in (
      task_of (g.S.Words.memory c.self.inside.store) c.index-seat.result.now,
      (seat-there c.self.invariant c.self.view_is at, ap (λ (l : Letter). l.from) c.fetch_letter-letter.ensures),
    )

pub returns-in_err-fetch : goal.returns-in_err-fetch
returns-in_err-fetch g c t there =
    let at : Sits c.self.inside.seats.items c.args.i c.index-seat.result.now =
    sits-there c.self.invariant c.self.view_is c.requires.place c.index-seat.ensures in
    let handle = seat-handle c.self.invariant c.self.view_is at there in
    let p = err_from_is_err_and c.from_residual.result c.from_residual.ensures.1 in
    rw (p.1, p.2) (
      fetch-refused c.args.a.now c.args.fetch.now c.args.self.now.desk c.args.i there handle c.fetch_letter-letter.ensures
          c.in_err-fetch.ensures.0,
      c.in_err-fetch.ensures.1,
    )

pub edit_taking-requires-clause-place : goal.edit_taking-requires-clause-place
edit_taking-requires-clause-place g c =
    let at : Sits c.self.inside.seats.items c.args.i c.index-seat.result.now =
    sits-there c.self.invariant c.self.view_is c.requires.place c.index-seat.ensures in
    let sent = c.in_ok-fetch.ensures.1 in
    inside (stands-sent c.fetch_letter-letter.result c.args.self.now.desk sent.0 c.args.i
    (task_of (g.S.Words.memory c.self.inside.store) c.index-seat.result.now) sent.1.0 sent.1.1 (seat-there c.self.invariant c.self.view_is at))

pub edit_taking-requires-clause-taken : goal.edit_taking-requires-clause-taken
edit_taking-requires-clause-taken g c =
    let sent = c.in_ok-fetch.ensures.1 in
    let due =
    still-takes (sent-records c.fetch_letter-letter.result c.args.self.now.desk sent.0 sent.1.0 sent.1.1) c.args.i (take.Append c.args.a.now) c.requires.due in
    λ u there said new p. let is = due u there in search rules

pub returns : goal.returns
returns g c t there =
    let at : Sits c.self.inside.seats.items c.args.i c.index-seat.result.now =
    sits-there c.self.invariant c.self.view_is c.requires.place c.index-seat.ensures in
    let handle = seat-handle c.self.invariant c.self.view_is at there in
    let sent = c.in_ok-fetch.ensures.1 in
    fetch-done c.args.a.now c.args.fetch.now c.args.self.now.desk c.args.i there handle c.fetch_letter-letter.ensures c.in_ok-fetch.fetch sent.0
    c.send_from.new.self.desk c.edit_taking.new.self.desk c.in_ok-fetch.ensures.0 sent.1.0 sent.1.1
    (λ u there. c.edit_taking.ensures u (receiver.fetched c.args.a.now c.in_ok-fetch.fetch) there (λ new p. search rules))
