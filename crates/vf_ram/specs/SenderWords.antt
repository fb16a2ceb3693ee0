-- A sender, its records and its actions as structs of words.
use Rattle.std.specs.Prelude.{ℕ, Bool, true, false, nat_lt, nat_le, ◌==◌, if◌then◌else◌, List, [], ◌∷◌, length, take, map, slice_get, Option, Some, None, Ok, Err}
use Rattle.rh_defs.specs.declared.sizes.TheConstants.{ANCHORS, MOST_RECORDS}
use Rattle.rh_defs.specs.declared.transfer.Sending.{Sending}
use Rattle.rh_defs.specs.declared.transfer.Outgoing.{Outgoing}
use Rattle.rh_defs.specs.declared.transfer.Outgoing.TheVariants as outgoing
use Rattle.rh_defs.specs.declared.transfer_action.Part.{Part}
use Rattle.rh_defs.specs.declared.transfer_action.SaveFile.{SaveFile}
use Rattle.rh_defs.specs.declared.transfer_action.SendAction.{SendAction}
use Rattle.rh_defs.specs.declared.transfer_action.SendAction.TheVariants as action
use Rattle.rh_defs.specs.declared.transfer_action.Transmit.{Transmit}
use Rattle.vf_ram.specs.declared.sender_words.VfOutgoing.{VfOutgoing}
use Rattle.vf_ram.specs.declared.sender_words.VfPart.{VfPart}
use Rattle.vf_ram.specs.declared.sender_words.VfSendAction.{VfSendAction}
use Rattle.vf_ram.specs.declared.sender_words.VfSender.{VfSender}
use Rattle.vf_ram.specs.declared.sender_words.VfSending.{VfSending}
use Rattle.vf_ram.specs.WithStatus.{WithStatus, and_then, bad_action, bad_records, or_status}
use Rattle.vf_ram.specs.RecordPlaces.{all_or_none, places}

-- ---- records

-- a transfer that goes out, as words
abbrev pub as_sending : Sending → VfSending
as_sending x = record { id = x.id; recipient = x.recipient; anchor = x.anchor; count = x.count; last = x.last }

-- none where the anchor is none of a slot's
abbrev pub sending_of : VfSending → Option Sending
sending_of w =
    if nat_lt w.anchor ANCHORS
    then Some (record { id = w.id; recipient = w.recipient; anchor = w.anchor; count = w.count; last = w.last }) else None

-- no transfer, or an ended one, of which the id and the count are kept
abbrev pub ended_sending : ℕ → ℕ → VfSending
ended_sending id count = record { id = id; recipient = 0; anchor = 0; count = count; last = 0 }

-- a record, as its state's number and its transfer
abbrev pub as_outgoing : Outgoing → VfOutgoing
as_outgoing (outgoing.Open x) = record { state = 0; transfer = as_sending x }
as_outgoing (outgoing.Done id count) = record { state = 4; transfer = ended_sending id count }
as_outgoing (outgoing.Failed id count) = record { state = 5; transfer = ended_sending id count }

-- the open record of a transfer, if there is one
abbrev pub open_of_words : Option Sending → Option Outgoing
open_of_words (Some x) = Some (outgoing.Open x)
open_of_words None = None

-- none where the state is none of a record that goes out
abbrev pub outgoing_of : VfOutgoing → Option Outgoing
outgoing_of w =
    if w.state == 0 then open_of_words (sending_of w.transfer)
    else if w.state == 4 then Some (outgoing.Done w.transfer.id w.transfer.count)
    else if w.state == 5 then Some (outgoing.Failed w.transfer.id w.transfer.count)
    else None

-- ---- a sender

-- zeros
abbrev pub no_outgoing : VfOutgoing
no_outgoing = record { state = 0; transfer = ended_sending 0 0 }

-- the record, or zeros where there is none
abbrev pub outgoing_or_none : Option Outgoing → VfOutgoing
outgoing_or_none (Some r) = as_outgoing r
outgoing_or_none None = no_outgoing

-- the records, and zeros behind them
abbrev pub as_sender : List Outgoing → VfSender
as_sender records = record { count = length records; records = map (λ i. outgoing_or_none (slice_get records i)) places }

-- the records that a sender has, as far as it counts them
abbrev pub sender_in : VfSender → WithStatus (List Outgoing)
sender_in s = if nat_le s.count MOST_RECORDS then or_status (all_or_none outgoing_of (take s.count s.records)) bad_records else Err bad_records

-- ---- actions

-- nothing to do
abbrev pub no_send_action : VfSendAction
no_send_action = record { what = 0; transfer = ended_sending 0 0; to = 0; answers = 0; buffer = 0; room = 0 }

-- what there is to do, as words; zeros where it is nothing
abbrev pub as_send_action : Option SendAction → VfSendAction
as_send_action None = no_send_action
as_send_action (Some (action.Transmit a)) =
    record { what = 1; transfer = as_sending a.transfer; to = a.to; answers = a.answers; buffer = a.buffer; room = a.room }
as_send_action (Some (action.SaveFile a)) =
    record { what = 2; transfer = as_sending a.transfer; to = a.to; answers = a.answers; buffer = 0; room = 0 }
as_send_action (Some (action.Finish x)) =
    record { what = 3; transfer = as_sending x; to = 0; answers = 0; buffer = 0; room = 0 }

-- an action's transfer
abbrev pub sending_in : VfSendAction → WithStatus Sending
sending_in w = or_status (sending_of w.transfer) bad_action

-- the action, where it is to transmit
abbrev pub transmit_in : VfSendAction → WithStatus Transmit
transmit_in w =
    if w.what == 1
    then and_then (sending_in w) (λ x. Ok (record { transfer = x; to = w.to; answers = w.answers; buffer = w.buffer; room = w.room }))
    else Err bad_action

-- the action, where it is to save a file
abbrev pub save_file_in : VfSendAction → WithStatus SaveFile
save_file_in w =
    if w.what == 2 then and_then (sending_in w) (λ x. Ok (record { transfer = x; to = w.to; answers = w.answers })) else Err bad_action

-- the transfer, where the action is to look its source's size up
abbrev pub finish_in : VfSendAction → WithStatus Sending
finish_in w = if w.what == 3 then sending_in w else Err bad_action

-- any of the three
abbrev pub send_action_in : VfSendAction → WithStatus SendAction
send_action_in w =
    if w.what == 1 then and_then (transmit_in w) (λ a. Ok (action.Transmit a))
    else if w.what == 2 then and_then (save_file_in w) (λ a. Ok (action.SaveFile a))
    else and_then (finish_in w) (λ x. Ok (action.Finish x))

-- a truth as a word
abbrev pub as_word : Bool → ℕ
as_word true = 1
as_word false = 0

-- a part of a file, as words
abbrev pub as_part : Part → VfPart
as_part p = record { offset = p.offset; n = p.n; is_last = as_word p.is_last }
