use Rattle.std.proofs.Common.{rules}
use Rattle.rh_tasks.proofs.Common.{ap, err_from_is_err_and, Letter, task_of, Sits}
use Rattle.rh_tasks.proofs.Buffers.{sits-there, seat-there, seat-handle}
use Rattle.rh_tasks.proofs.Writes.{alike-both}
use Rattle.rh_defs.specs.declared.transfer_action.TakeAction.TheVariants as take
use Rattle.rh_tasks.proofs.Dues.{records_of, sent-records, still-takes}
use Rattle.rh_tasks.proofs.Takings.{inside, stands-sent, stands-dropped, dropped-records, ask-refused, ask-done}
use Rattle.rh_defs.specs.Receiver as receiver
use Rattle.rh_tasks.proofs.world.World.ask.Goals as goal

pub send_from-requires : goal.send_from-requires
unfolding task_of
send_from-requires g c =
    let at : Sits c.self.inside.seats.items c.args.i c.index-seat.result.now =
    sits-there c.self.invariant c.self.view_is c.requires.place c.index-seat.ensures in (
      task_of (g.S.Words.memory c.self.inside.store) c.index-seat.result.now,
      (seat-there c.self.invariant c.self.view_is at, ap (λ (l : Letter). l.from) c.ack_letter-letter.ensures),
    )

pub returns-in_err-ack : goal.returns-in_err-ack
returns-in_err-ack g c t there =
    let at : Sits c.self.inside.seats.items c.args.i c.index-seat.result.now =
    sits-there c.self.invariant c.self.view_is c.requires.place c.index-seat.ensures in
    let handle = seat-handle c.self.invariant c.self.view_is at there in
    let p = err_from_is_err_and c.from_residual.result c.from_residual.ensures.1 in
    rw (p.1, p.2)
    (ask-refused c.args.f.now c.args.self.now.desk c.args.i there handle c.ack_letter-letter.ensures c.in_err-ack.ensures.0, c.in_err-ack.ensures.1)

pub drop_buffer-requires : goal.drop_buffer-requires
drop_buffer-requires g c =
    let at : Sits c.self.inside.seats.items c.args.i c.index-seat.result.now =
    sits-there c.self.invariant c.self.view_is c.requires.place c.index-seat.ensures in
    let sent = c.in_ok-ack.ensures.1 in
    inside
    (stands-sent c.ack_letter-letter.result c.args.self.now.desk sent.0 c.args.i (task_of (g.S.Words.memory c.self.inside.store) c.index-seat.result.now)
    sent.1.0 sent.1.1
    (seat-there c.self.invariant c.self.view_is at))

pub edit_taking-requires-clause-place : goal.edit_taking-requires-clause-place
edit_taking-requires-clause-place g c =
    let at : Sits c.self.inside.seats.items c.args.i c.index-seat.result.now =
    sits-there c.self.invariant c.self.view_is c.requires.place c.index-seat.ensures in
    let sent = c.in_ok-ack.ensures.1 in
    let s =
    stands-sent c.ack_letter-letter.result c.args.self.now.desk sent.0 c.args.i (task_of (g.S.Words.memory c.self.inside.store) c.index-seat.result.now)
    sent.1.0 sent.1.1
    (seat-there c.self.invariant c.self.view_is at) in
    inside (stands-dropped c.send_from.new.self.desk c.drop_buffer.new.self.desk c.args.i s.task.handle c.args.f.now.buffer s.task
    (c.drop_buffer.ensures s.task s.at) s.at)

pub edit_taking-requires-clause-taken : goal.edit_taking-requires-clause-taken
edit_taking-requires-clause-taken g c =
    let at : Sits c.self.inside.seats.items c.args.i c.index-seat.result.now =
    sits-there c.self.invariant c.self.view_is c.requires.place c.index-seat.ensures in
    let sent = c.in_ok-ack.ensures.1 in
    let s =
    stands-sent c.ack_letter-letter.result c.args.self.now.desk sent.0 c.args.i (task_of (g.S.Words.memory c.self.inside.store) c.index-seat.result.now)
    sent.1.0 sent.1.1
    (seat-there c.self.invariant c.self.view_is at) in
    let due =
    still-takes (alike-both records_of (sent-records c.ack_letter-letter.result c.args.self.now.desk sent.0 sent.1.0 sent.1.1) (dropped-records s.task.handle
    c.args.f.now.buffer (c.drop_buffer.ensures s.task s.at))) c.args.i (take.AskForFile c.args.f.now) c.requires.due in
    λ u there said new p. let is = due u there in search rules

pub returns : goal.returns
returns g c t there =
    let at : Sits c.self.inside.seats.items c.args.i c.index-seat.result.now =
    sits-there c.self.invariant c.self.view_is c.requires.place c.index-seat.ensures in
    let handle = seat-handle c.self.invariant c.self.view_is at there in
    let sent = c.in_ok-ack.ensures.1 in
    ask-done c.args.f.now c.args.self.now.desk c.args.i there handle c.ack_letter-letter.ensures c.in_ok-ack.ack sent.0 c.send_from.new.self.desk
    c.drop_buffer.new.self.desk c.edit_taking.new.self.desk
    c.in_ok-ack.ensures.0 sent.1.0 sent.1.1 c.drop_buffer.ensures
    (λ u there. c.edit_taking.ensures u (receiver.asking c.args.f.now c.in_ok-ack.ack) there (λ new p. search rules))
