use Rattle.std.proofs.Common.{rules}
use Rattle.rh_tasks.proofs.Common.{◌≡◌, refl, ap, ◌∙◌, fetch_letter, Task, IsAt, with_taking}
use Rattle.rh_defs.specs.declared.transfer_action.TakeAction.TheVariants as take
use Rattle.rh_tasks.proofs.Rooms.{anchor-low}
use Rattle.rh_tasks.proofs.Slides.{seat-sits}
use Rattle.rh_tasks.proofs.AcceptSteps.{accept-no_anchor, accept-no_room, can-accept, can-accept-own, buffer-must, buffer-got, buffer-at, buffer-place}
use Rattle.rh_tasks.proofs.AcceptSteps.{document-must, document-got, fetch-from, fetch-must, fetch-got, sent-place, sent-due, accept-done}
use Rattle.rh_defs.specs.Receiver as receiver
use Rattle.rh_tasks.proofs.world.World.accept.Goals as goal
use Rattle.rh_tasks.proofs.world.World.accept.Goals.{After-edit_taking}
use Rattle.rh_tasks.proofs.world.World.accept.Given as given

-- the record of the transfer that begins
recorded : (g : given.Over) (c : After-edit_taking g) (u : Task) → IsAt c.args.i u c.send_from.new.self.desk
    → c.edit_taking.new.self.desk
    ≡ with_taking u.handle (receiver.taking_claimed c.args.a.now c.in_ok-anchor.anchor c.unwrap-buffer.result c.unwrap-fetch.result)
    c.send_from.new.self.desk
recorded g c u there =
    c.edit_taking.ensures u (receiver.taking_claimed c.args.a.now c.in_ok-anchor.anchor c.unwrap-buffer.result c.unwrap-fetch.result) there
    (λ new p. search rules)

pub returns-in_err-anchor : goal.returns-in_err-anchor
returns-in_err-anchor g c =
    let at = seat-sits _ _ _ _ _ c.self.view_is c.requires.place c.index-seat.ensures in
    rw c.from_residual.ensures (λ t here. (accept-no_anchor c.self.invariant at c.self.view_is t c.args.a.now here c.in_err-anchor.ensures, refl))

pub returns-then-not-has_room : goal.returns-then-not-has_room
returns-then-not-has_room g c =
    let at = seat-sits _ _ _ _ _ c.self.view_is c.requires.place c.index-seat.ensures in
    λ t here. (accept-no_room c.self.invariant at c.self.view_is c.args.a.now c.in_ok-anchor.ensures c.has_room.ensures t here c.if-not-has_room.true, refl)

pub unwrap-buffer-requires : goal.unwrap-buffer-requires
unwrap-buffer-requires g c =
    let at = seat-sits _ _ _ _ _ c.self.view_is c.requires.place c.index-seat.ensures in
    let can = can-accept-own c.self.invariant at c.self.view_is c.args.a.now c.in_ok-anchor.ensures c.has_room.ensures c.if-not-has_room.false in
    buffer-must can _ c.claim_buffer.result (c.claim_buffer.ensures _ can.here)

pub alloc_document-requires-clause-place : goal.alloc_document-requires-clause-place
alloc_document-requires-clause-place g c =
    let at = seat-sits _ _ _ _ _ c.self.view_is c.requires.place c.index-seat.ensures in
    let can = can-accept-own c.self.invariant at c.self.view_is c.args.a.now c.in_ok-anchor.ensures c.has_room.ensures c.if-not-has_room.false in
    let one = buffer-got can c.claim_buffer.result (c.claim_buffer.ensures _ can.here) c.unwrap-buffer.ensures in
    buffer-place can one

pub alloc_document-requires-clause-anchor : goal.alloc_document-requires-clause-anchor
alloc_document-requires-clause-anchor g c =
    let at = seat-sits _ _ _ _ _ c.self.view_is c.requires.place c.index-seat.ensures in
    let can = can-accept-own c.self.invariant at c.self.view_is c.args.a.now c.in_ok-anchor.ensures c.has_room.ensures c.if-not-has_room.false in
    anchor-low _ _ can.free

pub unwrap-requires : goal.unwrap-requires
unwrap-requires g c =
    let at = seat-sits _ _ _ _ _ c.self.view_is c.requires.place c.index-seat.ensures in
    let can = can-accept-own c.self.invariant at c.self.view_is c.args.a.now c.in_ok-anchor.ensures c.has_room.ensures c.if-not-has_room.false in
    let one = buffer-got can c.claim_buffer.result (c.claim_buffer.ensures _ can.here) c.unwrap-buffer.ensures in
    document-must can one _ c.alloc_document.result (c.alloc_document.ensures _ (buffer-at can one))

pub send_from-requires : goal.send_from-requires
send_from-requires g c =
    let at = seat-sits _ _ _ _ _ c.self.view_is c.requires.place c.index-seat.ensures in
    let can = can-accept-own c.self.invariant at c.self.view_is c.args.a.now c.in_ok-anchor.ensures c.has_room.ensures c.if-not-has_room.false in
    let one = buffer-got can c.claim_buffer.result (c.claim_buffer.ensures _ can.here) c.unwrap-buffer.ensures in
    let two = document-got can one c.alloc_document.result (c.alloc_document.ensures _ (buffer-at can one)) c.unwrap.ensures in
    let letter = c.fetch_letter-letter.ensures ∙ ap (fetch_letter c.index-seat.result.now.handle) c.first_fetch.ensures in
    fetch-from can one two letter

pub unwrap-fetch-requires : goal.unwrap-fetch-requires
unwrap-fetch-requires g c =
    let at = seat-sits _ _ _ _ _ c.self.view_is c.requires.place c.index-seat.ensures in
    let can = can-accept-own c.self.invariant at c.self.view_is c.args.a.now c.in_ok-anchor.ensures c.has_room.ensures c.if-not-has_room.false in
    let one = buffer-got can c.claim_buffer.result (c.claim_buffer.ensures _ can.here) c.unwrap-buffer.ensures in
    let two = document-got can one c.alloc_document.result (c.alloc_document.ensures _ (buffer-at can one)) c.unwrap.ensures in
    let letter = c.fetch_letter-letter.ensures ∙ ap (fetch_letter c.index-seat.result.now.handle) c.first_fetch.ensures in
    fetch-must can one two letter _ c.send_from.result c.send_from.ensures

pub edit_taking-requires-clause-place : goal.edit_taking-requires-clause-place
edit_taking-requires-clause-place g c =
    let at = seat-sits _ _ _ _ _ c.self.view_is c.requires.place c.index-seat.ensures in
    let can = can-accept-own c.self.invariant at c.self.view_is c.args.a.now c.in_ok-anchor.ensures c.has_room.ensures c.if-not-has_room.false in
    let one = buffer-got can c.claim_buffer.result (c.claim_buffer.ensures _ can.here) c.unwrap-buffer.ensures in
    let two = document-got can one c.alloc_document.result (c.alloc_document.ensures _ (buffer-at can one)) c.unwrap.ensures in
    let letter = c.fetch_letter-letter.ensures ∙ ap (fetch_letter c.index-seat.result.now.handle) c.first_fetch.ensures in
    let three = fetch-got can one two letter c.send_from.result c.send_from.ensures c.unwrap-fetch.ensures in
    sent-place can one two letter three

pub edit_taking-requires-clause-taken : goal.edit_taking-requires-clause-taken
edit_taking-requires-clause-taken g c =
    let at = seat-sits _ _ _ _ _ c.self.view_is c.requires.place c.index-seat.ensures in
    let can = can-accept-own c.self.invariant at c.self.view_is c.args.a.now c.in_ok-anchor.ensures c.has_room.ensures c.if-not-has_room.false in
    let one = buffer-got can c.claim_buffer.result (c.claim_buffer.ensures _ can.here) c.unwrap-buffer.ensures in
    let two = document-got can one c.alloc_document.result (c.alloc_document.ensures _ (buffer-at can one)) c.unwrap.ensures in
    let letter = c.fetch_letter-letter.ensures ∙ ap (fetch_letter c.index-seat.result.now.handle) c.first_fetch.ensures in
    let three = fetch-got can one two letter c.send_from.result c.send_from.ensures c.unwrap-fetch.ensures in
    let due = sent-due can one two letter three (take.Claim c.args.a.now) (c.requires.due _ can.here) in
    λ u there said new p. let is = due u there in search rules

pub returns : goal.returns
returns g c =
    let at = seat-sits _ _ _ _ _ c.self.view_is c.requires.place c.index-seat.ensures in
    λ t here. (
    let can = can-accept c.self.invariant at c.self.view_is c.args.a.now c.in_ok-anchor.ensures c.has_room.ensures t here c.if-not-has_room.false in
    let one = buffer-got can c.claim_buffer.result (c.claim_buffer.ensures _ can.here) c.unwrap-buffer.ensures in
    let two = document-got can one c.alloc_document.result (c.alloc_document.ensures _ (buffer-at can one)) c.unwrap.ensures in
    let letter = c.fetch_letter-letter.ensures ∙ ap (fetch_letter c.index-seat.result.now.handle) c.first_fetch.ensures in
    let three = fetch-got can one two letter c.send_from.result c.send_from.ensures c.unwrap-fetch.ensures in
    accept-done can one two letter three c.edit_taking.new.self (recorded g (goal.at.returns g c).After-edit_taking))
