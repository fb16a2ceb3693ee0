-- What each call on a sender comes to: the records then, what there is to do, or the status with which nothing changes.
use Rattle.std.specs.Prelude.{ℕ, Bool, List, Option, is_some, Ok}
use Rattle.std.specs.List.{list_any}
use Rattle.rh_defs.specs.Records.{is_source}
use Rattle.rh_defs.specs.Sender as sender
use Rattle.rh_defs.specs.declared.transfer.Outgoing.{Outgoing}
use Rattle.rh_defs.specs.declared.transfer_action.Part.{Part}
use Rattle.rh_defs.specs.declared.transfer_action.SendAction.{SendAction}
use Rattle.rh_ram.specs.Told.{tell_sent, tell_saved, tell_sending_loaded, tell_sending_failed}
use Rattle.vf_ram.specs.declared.sender_words.VfSendAction.{VfSendAction}
use Rattle.vf_ram.specs.declared.sender_words.VfSender.{VfSender}
use Rattle.vf_ram.specs.SenderWords.{sender_in, transmit_in, save_file_in, finish_in, send_action_in}
use Rattle.vf_ram.specs.WithStatus.{WithStatus, and_then, by_rules, anchor_in, wanted}

-- the records with a new transfer
abbrev pub offer_answer : VfSender → ℕ → ℕ → ℕ → WithStatus (List Outgoing)
offer_answer s id recipient anchor =
    and_then (sender_in s) (λ records. and_then (anchor_in anchor) (λ k. by_rules (sender.offer id recipient k records)))

-- ---- events

-- what a RAMFetch asks for
abbrev pub fetch_asks : VfSender → ℕ → ℕ → ℕ → ℕ → ℕ → WithStatus (Option SendAction)
fetch_asks s from my_ref your_ref buffer amount =
    and_then (sender_in s) (λ records. Ok (sender.on_fetch from my_ref your_ref buffer amount records))

-- what a DataSaveAck asks for
abbrev pub ack_asks : VfSender → ℕ → ℕ → ℕ → WithStatus (Option SendAction)
ack_asks s from my_ref your_ref = and_then (sender_in s) (λ records. Ok (sender.on_ack from my_ref your_ref records))

-- what a DataLoadAck asks for
abbrev pub load_ack_asks : VfSender → ℕ → ℕ → WithStatus (Option SendAction)
load_ack_asks s from your_ref = and_then (sender_in s) (λ records. Ok (sender.on_load_ack from your_ref records))

-- whether a transfer's message came back, and the records then
abbrev pub bounce_answer : VfSender → ℕ → WithStatus (Bool × List Outgoing)
bounce_answer s ref =
    and_then (sender_in s) (λ records.
    let found = sender.on_sending_bounce ref records in Ok (is_some found, sender.sending_bounced found records))

-- the records when a transfer that goes out was given up
abbrev pub cancel_answer : VfSender → ℕ → WithStatus (List Outgoing)
cancel_answer s id = and_then (sender_in s) (λ records. by_rules (sender.cancel_sending (wanted id) records))

-- ---- how an action ended

-- the records when bytes were sent
abbrev pub sent_answer : VfSender → VfSendAction → ℕ → ℕ → WithStatus (List Outgoing)
sent_answer s w size last =
    and_then (sender_in s) (λ records. and_then (transmit_in w) (λ a. by_rules (tell_sent a size last records)))

-- the records when a file was saved
abbrev pub saved_answer : VfSender → VfSendAction → ℕ → WithStatus (List Outgoing)
saved_answer s w last =
    and_then (sender_in s) (λ records. and_then (save_file_in w) (λ a. by_rules (tell_saved a last records)))

-- the records when the recipient has loaded the file
abbrev pub loaded_answer : VfSender → VfSendAction → ℕ → WithStatus (List Outgoing)
loaded_answer s w size =
    and_then (sender_in s) (λ records. and_then (finish_in w) (λ x. by_rules (tell_sending_loaded x size records)))

-- the records when an action failed
abbrev pub failed_answer : VfSender → VfSendAction → WithStatus (List Outgoing)
failed_answer s w =
    and_then (sender_in s) (λ records. and_then (send_action_in w) (λ a. by_rules (tell_sending_failed a records)))

-- ---- what else is asked

-- the bytes that an action to transmit sends
abbrev pub part_answer : VfSendAction → ℕ → WithStatus Part
part_answer w size = and_then (transmit_in w) (λ a. Ok (sender.next_part a size))

-- whether the anchor's block is the source of an open transfer
abbrev pub source_answer : VfSender → ℕ → WithStatus Bool
source_answer s anchor =
    and_then (sender_in s) (λ records. and_then (anchor_in anchor) (λ k. Ok (list_any (is_source k) records)))
