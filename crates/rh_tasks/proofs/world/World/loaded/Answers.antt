use Rattle.std.proofs.Common.{rules}
use Rattle.rh_tasks.proofs.Common.{ap, subst, sym, ◌∙◌, ◌<◌, length, Letter, Shown, Sits}
use Rattle.rh_defs.specs.Letters.{load_ack_letter}
use Rattle.rh_defs.specs.declared.transfer_action.TakeAction.TheVariants as take
use Rattle.rh_tasks.specs.Inner.PollSteps.{CanTake}
use Rattle.rh_tasks.proofs.Buffers.{sits-there, seat-there, seat-handle}
use Rattle.rh_tasks.proofs.Scraps.{seen-desk}
use Rattle.rh_tasks.proofs.Dues.{sent-records, still-takes}
use Rattle.rh_tasks.proofs.ScrapTransfers.{sent-inside, loaded-sent, loaded-failed}
use Rattle.rh_ram.specs.Told.{after_failure}
use Rattle.rh_defs.specs.Receiver as receiver
use Rattle.rh_tasks.proofs.world.World.loaded.Goals as goal

pub send_from-requires : goal.send_from-requires
send_from-requires g c =
    let w = c.self.invariant in
    let sits : Sits c.self.inside.seats.items c.args.i c.index-seat.result.now = sits-there w c.self.view_is c.requires.place c.index-seat.ensures in
    let at = seat-there w c.self.view_is sits in
    (_, (at, ap (λ (l : Letter). l.from) c.load_ack_letter-letter.ensures ∙ seat-handle w c.self.view_is sits at))

pub edit_taking-requires-clause-place : goal.edit_taking-requires-clause-place
edit_taking-requires-clause-place g c =
    let w = c.self.invariant in
    let sits : Sits c.self.inside.seats.items c.args.i c.index-seat.result.now = sits-there w c.self.view_is c.requires.place c.index-seat.ensures in
    let at = seat-there w c.self.view_is sits in
    sent-inside c.args.self.now.desk c.args.i _ c.load_ack_letter-letter.result (seen-desk w c.self.view_is) at
    (ap (λ (l : Letter). l.from) c.load_ack_letter-letter.ensures ∙ seat-handle w c.self.view_is sits at) c.in-Ok.ensures.1

pub edit_taking-requires-clause-taken : goal.edit_taking-requires-clause-taken
edit_taking-requires-clause-taken g c =
    let sent = c.in-Ok.ensures.1 in
    let due =
    still-takes (sent-records c.load_ack_letter-letter.result c.args.self.now.desk sent.0 sent.1.0 sent.1.1) c.args.i (take.LoadFile c.args.a.now)
    c.requires.due in
    λ u there said new p. let is = due u there in search rules

pub returns-in-Ok : goal.returns-in-Ok
returns-in-Ok g c =
    let w = c.self.invariant in
    let sits : Sits c.self.inside.seats.items c.args.i c.index-seat.result.now = sits-there w c.self.view_is c.requires.place c.index-seat.ensures in
    λ t at.
    let letter = c.load_ack_letter-letter.ensures ∙ ap (λ h. load_ack_letter h c.args.a.now c.args.n) (seat-handle w c.self.view_is sits at) in
    loaded-sent c.args.self.now.desk c.args.i t (seen-desk w c.self.view_is) at c.args.a.now c.args.n c.load_ack_letter-letter.result letter
    c.in-Ok.ensures.1 (λ u there. c.edit_taking.ensures u (receiver.taking_loaded c.args.a.now.transfer c.args.n) there (λ new p. search rules))

pub edit_taking-requires-in-Err-clause-place : goal.edit_taking-requires-in-Err-clause-place
edit_taking-requires-in-Err-clause-place g c =
    subst (λ (x : Shown). c.args.i < length x.desk.tasks) (sym c.in-Err.ensures.1) c.requires.place

pub edit_taking-requires-in-Err-clause-taken : goal.edit_taking-requires-in-Err-clause-taken
edit_taking-requires-in-Err-clause-taken g c =
    let due = subst (λ (x : Shown). CanTake c.args.i (take.LoadFile c.args.a.now) x.desk) (sym c.in-Err.ensures.1) c.requires.due in
    λ u there said new p. let is = due u there in search rules

pub returns-in-Err : goal.returns-in-Err
returns-in-Err g c =
    let w = c.self.invariant in
    let sits : Sits c.self.inside.seats.items c.args.i c.index-seat.result.now = sits-there w c.self.view_is c.requires.place c.index-seat.ensures in
    λ t at.
    let letter = c.load_ack_letter-letter.ensures ∙ ap (λ h. load_ack_letter h c.args.a.now c.args.n) (seat-handle w c.self.view_is sits at) in
    loaded-failed c.args.self.now.desk c.args.i t (seen-desk w c.self.view_is) at c.args.a.now c.args.n c.load_ack_letter-letter.result letter
    c.in-Err.ensures.0
    (ap (λ (x : Shown). x.desk) c.in-Err.ensures.1)
    (λ u there. c.edit_taking-in-Err.ensures u (after_failure (take.LoadFile c.args.a.now) c.args.n) there (λ new p. search rules))
