use Rattle.std.proofs.Common.{rules}
use Rattle.rh_tasks.proofs.Common.{refl, sym, subst, ◌<◌, length, Shown, IsAt, member-at, reordered-refl, same-alike}
use Rattle.rh_defs.specs.OutgoingEvents.{perform_send}
use Rattle.rh_tasks.specs.Inner.PollSteps.{CanSend}
use Rattle.rh_tasks.proofs.Transmits.{handles-alike, action-done, action-refused}
use Rattle.rh_defs.specs.Sender as sender
use Rattle.rh_tasks.proofs.world.World.perform_send.Goals as goal

pub returns-in_default : goal.returns-in_default
unfolding perform_send
returns-in_default g c = rw c.in_default.is (λ t at. (refl, reordered-refl c.args.self.now.desk))

pub send_with-requires-clause-due : goal.send_with-requires-clause-due
send_with-requires-clause-due g c = rw c.in-Some.is at c.requires.due

pub edit_sending-requires-clause-place : goal.edit_sending-requires-clause-place
edit_sending-requires-clause-place g c =
    let there = member-at c.args.self.now.desk.tasks c.args.i c.requires.place in
    let stays = (c.in-Err.ensures there.0 there.1).1 in
    subst (λ (x : Shown). c.args.i < length x.desk.tasks) (sym stays) c.requires.place

pub edit_sending-requires-clause-taken : goal.edit_sending-requires-clause-taken
edit_sending-requires-clause-taken g c =
    let there = member-at c.args.self.now.desk.tasks c.args.i c.requires.place in
    let stays = (c.in-Err.ensures there.0 there.1).1 in
    let due = subst (λ (x : Shown). CanSend c.args.i c.in-Some.action x.desk) (sym stays) (rw c.in-Some.is at c.requires.due) in
    λ u there said new p. let is = due u there in search rules

pub returns-in-Ok : goal.returns-in-Ok
returns-in-Ok g c = rw c.in-Some.is (λ t at.
    let h = c.in-Ok.ensures t at in
    handles-alike (action-done c.args.self.now.desk t c.in-Some.action h.1.0) h.1.1)

pub returns-in-Err : goal.returns-in-Err
returns-in-Err g c = rw c.in-Some.is (λ t at.
    let h = c.in-Err.ensures t at in
    let there = subst (λ (x : Shown). IsAt c.args.i t x.desk) (sym h.1) at in
    let failed = rw h.1 at (c.edit_sending.ensures t (sender.sending_failed (sender.transfer_of c.in-Some.action)) there (λ new p. search rules)) in
    handles-alike (action-refused c.args.self.now.desk t c.in-Some.action h.0) (same-alike (sym failed)))
