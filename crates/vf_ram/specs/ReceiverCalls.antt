-- What each call on a receiver comes to: the records then, what there is to do, or the status with which nothing changes.
use Rattle.std.specs.Prelude.{ℕ, Bool, List, Option, is_some, Ok}
use Rattle.std.specs.List.{list_any}
use Rattle.rh_defs.specs.Records.{is_document, is_buffer_of}
use Rattle.rh_defs.specs.Receiver as receiver
use Rattle.rh_defs.specs.declared.transfer.Incoming.{Incoming}
use Rattle.rh_defs.specs.declared.transfer_action.Fetch.{Fetch}
use Rattle.rh_defs.specs.declared.transfer_action.TakeAction.{TakeAction}
use Rattle.rh_ram.specs.Told.{tell_fetching, tell_fetched, tell_finished, tell_asking, tell_taking_loaded, tell_failed}
use Rattle.vf_ram.specs.declared.receiver_words.VfReceiver.{VfReceiver}
use Rattle.vf_ram.specs.declared.receiver_words.VfTakeAction.{VfTakeAction}
use Rattle.vf_ram.specs.ReceiverWords.{receiver_in, claim_in, append_in, ask_in, load_file_in, take_action_in}
use Rattle.vf_ram.specs.WithStatus.{WithStatus, and_then, by_rules, anchor_in, wanted}

-- ---- events

-- what a DataSave asks for
abbrev pub save_asks : VfReceiver → Bool → ℕ → ℕ → WithStatus (Option TakeAction)
save_asks r is_deaf from my_ref = and_then (receiver_in r) (λ records. Ok (receiver.on_save is_deaf from my_ref records))

-- what a RAMTransmit asks for
abbrev pub transmit_asks : VfReceiver → ℕ → ℕ → ℕ → ℕ → ℕ → ℕ → WithStatus (Option TakeAction)
transmit_asks r room from my_ref your_ref buffer n =
    and_then (receiver_in r) (λ records. Ok (receiver.on_transmit room from my_ref your_ref buffer n records))

-- what a fetch that came back asks for
abbrev pub fetch_bounce_asks : VfReceiver → ℕ → WithStatus (Option TakeAction)
fetch_bounce_asks r ref = and_then (receiver_in r) (λ records. Ok (receiver.on_taking_bounce ref records))

-- what a DataLoad asks for
abbrev pub load_asks : VfReceiver → ℕ → ℕ → ℕ → WithStatus (Option TakeAction)
load_asks r from my_ref your_ref = and_then (receiver_in r) (λ records. Ok (receiver.on_load from my_ref your_ref records))

-- whether a transfer's DataSaveAck came back, and the records then
abbrev pub ack_bounce_answer : VfReceiver → ℕ → WithStatus (Bool × List Incoming)
ack_bounce_answer r ref =
    and_then (receiver_in r) (λ records.
    let found = receiver.on_ack_bounce ref records in Ok (is_some found, receiver.ack_bounced found records))

-- the records when a transfer that comes in was given up
abbrev pub cancel_taking_answer : VfReceiver → ℕ → WithStatus (List Incoming)
cancel_taking_answer r id = and_then (receiver_in r) (λ records. by_rules (receiver.cancel_taking (wanted id) records))

-- ---- how an action ended

-- the records when a buffer was claimed and its fetch sent
abbrev pub fetching_answer : VfReceiver → VfTakeAction → ℕ → ℕ → ℕ → WithStatus (List Incoming)
fetching_answer r w anchor buffer fetch =
    and_then (receiver_in r) (λ records. and_then (claim_in w) (λ a. and_then (anchor_in anchor) (λ k.
    by_rules (tell_fetching a k buffer fetch records))))

-- the records when bytes were taken and the next fetch was sent
abbrev pub fetched_answer : VfReceiver → VfTakeAction → ℕ → WithStatus (List Incoming)
fetched_answer r w fetch =
    and_then (receiver_in r) (λ records. and_then (append_in w) (λ a. by_rules (tell_fetched a fetch records)))

-- the records when the last bytes were taken
abbrev pub finished_answer : VfReceiver → VfTakeAction → WithStatus (List Incoming)
finished_answer r w = and_then (receiver_in r) (λ records. and_then (append_in w) (λ a. by_rules (tell_finished a records)))

-- the records when the sender was asked for a file
abbrev pub asking_answer : VfReceiver → VfTakeAction → ℕ → WithStatus (List Incoming)
asking_answer r w ack = and_then (receiver_in r) (λ records. and_then (ask_in w) (λ f. by_rules (tell_asking f ack records)))

-- the records when the scrap file was loaded
abbrev pub taking_loaded_answer : VfReceiver → VfTakeAction → ℕ → WithStatus (List Incoming)
taking_loaded_answer r w size =
    and_then (receiver_in r) (λ records. and_then (load_file_in w) (λ a. by_rules (tell_taking_loaded a size records)))

-- the records when an action failed, by how many of its bytes were kept
abbrev pub taking_failed_answer : VfReceiver → VfTakeAction → ℕ → WithStatus (List Incoming)
taking_failed_answer r w kept =
    and_then (receiver_in r) (λ records. and_then (take_action_in w) (λ a. by_rules (tell_failed a kept records)))

-- ---- what else is asked

-- the fetch of a buffer that was claimed
abbrev pub first_fetch_answer : VfTakeAction → ℕ → ℕ → WithStatus Fetch
first_fetch_answer w buffer room = and_then (claim_in w) (λ a. Ok (receiver.first_fetch a buffer room))

-- whether the anchor's block is a document that grows
abbrev pub document_answer : VfReceiver → ℕ → WithStatus Bool
document_answer r anchor =
    and_then (receiver_in r) (λ records. and_then (anchor_in anchor) (λ k. Ok (list_any (is_document k) records)))

-- whether the block at the address is a transfer's buffer
abbrev pub buffer_answer : VfReceiver → ℕ → WithStatus Bool
buffer_answer r address = and_then (receiver_in r) (λ records. Ok (list_any (is_buffer_of address) records))
