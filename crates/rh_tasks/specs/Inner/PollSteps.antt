-- What the steps of a poll do to the desk.
use Rattle.std.specs.Prelude.{◌≡◌, ℕ, ◌+◌, true, length, if◌then◌else◌, slice_get, Some, Result, Ok, Err}
use Rattle.std.specs.Result.{MatchResult}
use Rattle.rh_defs.specs.declared.message.Letter.{Letter}
use Rattle.rh_defs.specs.declared.message.Message.{Message}
use Rattle.rh_defs.specs.declared.refusal.Refusal.{Refusal}
use Rattle.rh_defs.specs.declared.reply.Outcome.{Outcome}
use Rattle.rh_defs.specs.Chain.{Granted, ◌>>=◌}
use Rattle.rh_defs.specs.Slot.{Slot, Flex, flex_address, slot_block, slot_alloc}
use Rattle.rh_defs.specs.Places.{free_anchor}
use Rattle.rh_defs.specs.Messages.{Parcel}
use Rattle.rh_defs.specs.Desk.{Desk, Task, next_ref, free_pages, send_letter, with_slot}
use Rattle.rh_defs.specs.Pieces.{Split}
use Rattle.rh_defs.specs.Order.{IsReordered}
use Rattle.rh_defs.specs.OutgoingEvents.{Handled, transmit, save_scrap, send_with}
use Rattle.rh_defs.specs.declared.transfer_action.Transmit.{Transmit}
use Rattle.rh_defs.specs.declared.transfer_action.Part.{Part}
use Rattle.rh_defs.specs.declared.transfer_action.SaveFile.{SaveFile}
use Rattle.rh_defs.specs.declared.transfer_action.SendAction.{SendAction}
use Rattle.rh_defs.specs.declared.transfer_action.TakeAction.{TakeAction}
use Rattle.rh_defs.specs.declared.message.EventCode.{EventCode}
use Rattle.rh_defs.specs.declared.reply.Outcome.TheVariants as outcome
use Rattle.rh_defs.specs.RawTasks.{is_raw}
use Rattle.rh_defs.specs.Transfer.{handled}
use Rattle.rh_defs.specs.Sender as sender
use Rattle.rh_ram.specs.Due.{is_send_due, is_take_due}
use Rattle.rh_tasks.specs.Shown.{Shown}

-- the desk's task at a place
abbrev pub IsAt : ℕ → Task → Desk → Type 0
IsAt i t d = slice_get d.tasks i ≡ Some t

-- the desk's task at a place, and a message that it has
pub record IsFor (i : ℕ) (t : Task) (d : Desk) (m : Parcel) (message : Message) : Type 0 where
  pub at : IsAt i t d
  pub message_is : m.message ≡ message

-- a sender's action is due by the records of the desk's task at a place
abbrev pub CanSend : ℕ → SendAction → Desk → Type 0
CanSend i a d = (t : Task) → IsAt i t d → is_send_due a t.sending ≡ true

-- a receiver's action is due by the records of the desk's task at a place
abbrev pub CanTake : ℕ → TakeAction → Desk → Type 0
CanTake i a d = (t : Task) → IsAt i t d → is_take_due a t.taking ≡ true

-- the slot's lowest anchor without a block
pub record IsFreeAnchor (k : ℕ) (s : Slot) : Type 0 where
  pub is : free_anchor s ≡ Some k

-- the letter was sent and got the ref, or was refused and nothing changed
abbrev pub Sends : Letter → Shown → Shown → Result ℕ Refusal → Type 0
Sends letter old new result =
    MatchResult result
    (λ my_ref. (my_ref ≡ next_ref old.desk) × ((d : Desk) × ((send_letter letter old.desk ≡ Ok d) × IsReordered d new.desk)))
    (λ refusal. (send_letter letter old.desk ≡ Err refusal) × (new ≡ old))

-- a message was handled, but for the order of messages to different tasks
abbrev pub Handles : Handled → Shown → Outcome → Type 0
Handles after new outcome = (outcome ≡ after.1) × IsReordered after.0 new.desk

-- a message was handled, but for the order of messages to different tasks, or was refused, and then nothing changed
abbrev pub Attempts : Granted Handled → Shown → Shown → Result Outcome Refusal → Type 0
Attempts granted old new result =
    MatchResult result
    (λ outcome. (d : Desk) × ((granted ≡ Ok (d, outcome)) × IsReordered d new.desk))
    (λ refusal. (granted ≡ Err refusal) × (new ≡ old))

-- the desk has another slot for the task, and the call's answer, or it was refused and nothing changed
abbrev pub Claims : ℕ → Granted (Slot × ℕ) → Shown → Shown → Result ℕ Refusal → Type 0
Claims h granted old new result =
    MatchResult result
    (λ a. (s : Slot) × ((granted ≡ Ok (s, a)) × (new.desk ≡ with_slot h s old.desk)))
    (λ refusal. (granted ≡ Err refusal) × (new ≡ old))

-- what is done with a message that came under a code: a task with code of its own is handed it
abbrev pub received_as : Desk → Task → Parcel → EventCode → Handled
received_as d t m code = if is_raw t.manner then (d, outcome.Taken) else handled d t m code

-- the part of a transfer's source, which has so many bytes, that goes out from the address on
pub record IsPortion (t : Task) (a : Transmit) (address size : ℕ) (p : Part) : Type 0 where
  pub source : Split Flex
  pub block : slot_block a.transfer.anchor t.slot ≡ Ok source
  pub size_is : size ≡ length source.here.bytes
  pub address_is : address ≡ flex_address t.slot source.before + p.offset
  pub part_is : p ≡ sender.next_part a size

-- an action of a task that sends, with its transfer's source
abbrev pub sent_by : Desk → Task → SendAction → Granted Handled
sent_by d t a = slot_block (sender.transfer_of a).anchor t.slot >>= send_with d t a

-- a part of a transfer's source, for a fetch
abbrev pub transmitted : Desk → Task → Transmit → Granted Handled
transmitted d t a = slot_block a.transfer.anchor t.slot >>= transmit d t a

-- a transfer's source as the scrap file
abbrev pub scrapped : Desk → Task → SaveFile → Granted Handled
scrapped d t a = slot_block a.transfer.anchor t.slot >>= save_scrap d t a

-- an empty document on top of the task's slot
abbrev pub with_document : Desk → Task → ℕ → Granted Desk
with_document d t k = slot_alloc (free_pages d) k 0 t.slot >>= λ p. Ok (with_slot t.handle p.0 d)
