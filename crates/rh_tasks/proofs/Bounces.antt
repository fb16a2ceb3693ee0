-- The last message of a transfer came back: its record fails at once.
use Rattle.rh_tasks.proofs.Common.{◌≡◌, ℕ, true, false, refl, ap, sym, subst, ◌∙◌, List, Option, None, Some, is_some, set, Memory, FileList, Sending, Outgoing}
use Rattle.rh_tasks.proofs.Common.{Incoming, Outcome, Desk, Task, Handled, IsReordered, Seat, MadeArea, Kept, task_of, desk_of, IsWorld, IsAt, Sits, set_same}
use Rattle.rh_tasks.proofs.Common.{mapped-is, same-alike}
use Rattle.rh_defs.specs.declared.reply.Outcome.TheVariants as outcome
use Rattle.rh_defs.specs.declared.transfer.Asked.{Asked}
use Rattle.rh_defs.specs.Sender as sender
use Rattle.rh_defs.specs.Receiver as receiver
use Rattle.rh_defs.specs.OutgoingEvents.{fail_sending}
use Rattle.rh_defs.specs.IncomingEvents.{ack_back}
use Rattle.rh_tasks.proofs.SeatRecords.{sending-done, taking-done}

-- what was done gives the desk and the outcome
abbrev As : Handled → Desk → Outcome → Type 0
As after last outcome = (outcome ≡ after.1) × IsReordered after.0 last

module _ {m : Memory} {seats : List Seat} {made : List MadeArea} {files : FileList} {kept : Kept} {i : ℕ} {s : Seat}
    (w : IsWorld m seats made files kept) (at : Sits seats i s) (ref : ℕ) where
  abbrev d : Desk
  d = desk_of m seats made files kept

  abbrev last : Seat → Desk
  last new = desk_of m (set seats i new) made files kept

  stays : last s ≡ d
  stays = ap (λ l. desk_of m l made files kept) (set_same seats i s at)

  -- ---- transfers that go out

  module _ {records : List Outgoing} (is : records ≡ sender.sending_bounced (sender.on_sending_bounce ref s.sending) s.sending) where
    abbrev sends : Seat
    sends = record s { sending = records }

    sending-found : (t : Task) → IsAt i t d → sender.on_sending_bounce ref s.sending ≡ sender.on_sending_bounce ref t.sending
    unfolding task_of
    sending-found t there = ap (λ (x : Task). sender.on_sending_bounce ref x.sending) (mapped-is (task_of m) seats i s t at there)

    sending-of : (o : Option Sending) (t : Task) → IsAt i t d → true ≡ is_some o → records ≡ sender.sending_bounced o s.sending
        → As (fail_sending d t o) (last sends) outcome.Failed
    unfolding fail_sending
    sending-of None t there e q = absurd cc
    sending-of (Some x) t there e q = (refl, same-alike (sym (sending-done w at (sender.sending_failed x) q t there)))

    sending-none : (o : Option Sending) (t : Task) → false ≡ is_some o → records ≡ sender.sending_bounced o s.sending
        → As (fail_sending d t o) (last sends) outcome.Ignored
    unfolding fail_sending
    sending-none None t e q = (refl, same-alike (sym (ap (λ r. last (record s { sending = r })) q ∙ stays)))
    sending-none (Some x) t e q = absurd cc

    pub sending-bounced : true ≡ is_some (sender.on_sending_bounce ref s.sending) → (t : Task) → IsAt i t d
        → As (fail_sending d t (sender.on_sending_bounce ref t.sending)) (last sends) outcome.Failed
    sending-bounced e t there =
        subst (λ o. As (fail_sending d t o) (last sends) outcome.Failed) (sending-found t there)
        (sending-of (sender.on_sending_bounce ref s.sending) t there e is)

    pub sending-unknown : false ≡ is_some (sender.on_sending_bounce ref s.sending) → (t : Task) → IsAt i t d
        → As (fail_sending d t (sender.on_sending_bounce ref t.sending)) (last sends) outcome.Ignored
    sending-unknown e t there =
        subst (λ o. As (fail_sending d t o) (last sends) outcome.Ignored) (sending-found t there)
        (sending-none (sender.on_sending_bounce ref s.sending) t e is)

  -- ---- transfers that come in

  module _ {records : List Incoming} (is : records ≡ receiver.ack_bounced (receiver.on_ack_bounce ref s.taking) s.taking) where
    abbrev takes : Seat
    takes = record s { taking = records }

    taking-found : (t : Task) → IsAt i t d → receiver.on_ack_bounce ref s.taking ≡ receiver.on_ack_bounce ref t.taking
    unfolding task_of
    taking-found t there = ap (λ (x : Task). receiver.on_ack_bounce ref x.taking) (mapped-is (task_of m) seats i s t at there)

    taking-of : (o : Option Asked) (t : Task) → IsAt i t d → true ≡ is_some o → records ≡ receiver.ack_bounced o s.taking
        → As (ack_back d t o) (last takes) outcome.Failed
    unfolding ack_back
    taking-of None t there e q = absurd cc
    taking-of (Some x) t there e q = (refl, same-alike (sym (taking-done w at (receiver.abandoned x 0) q t there)))

    taking-none : (o : Option Asked) (t : Task) → false ≡ is_some o → records ≡ receiver.ack_bounced o s.taking
        → As (ack_back d t o) (last takes) outcome.Ignored
    unfolding ack_back
    taking-none None t e q = (refl, same-alike (sym (ap (λ r. last (record s { taking = r })) q ∙ stays)))
    taking-none (Some x) t e q = absurd cc

    pub taking-bounced : true ≡ is_some (receiver.on_ack_bounce ref s.taking) → (t : Task) → IsAt i t d
        → As (ack_back d t (receiver.on_ack_bounce ref t.taking)) (last takes) outcome.Failed
    taking-bounced e t there =
        subst (λ o. As (ack_back d t o) (last takes) outcome.Failed) (taking-found t there)
        (taking-of (receiver.on_ack_bounce ref s.taking) t there e is)

    pub taking-unknown : false ≡ is_some (receiver.on_ack_bounce ref s.taking) → (t : Task) → IsAt i t d
        → As (ack_back d t (receiver.on_ack_bounce ref t.taking)) (last takes) outcome.Ignored
    taking-unknown e t there =
        subst (λ o. As (ack_back d t o) (last takes) outcome.Ignored) (taking-found t there)
        (taking-none (receiver.on_ack_bounce ref s.taking) t e is)
