-- How the records are once it is told how an action ended, or why that isn't taken.
use Rattle.std.specs.Prelude.{ℕ, Bool, true, false, not, ◌&&◌, nat_le, ◌==◌, List, Ok, Err}
use Rattle.rh_defs.specs.declared.refusal.Refusal.{Refusal}
use Rattle.rh_defs.specs.declared.refusal.Refusal.TheVariants.{NotOpen, Busy, BadRange}
use Rattle.rh_defs.specs.declared.transfer.Sending.{Sending}
use Rattle.rh_defs.specs.declared.transfer.Taking.{Taking}
use Rattle.rh_defs.specs.declared.transfer.Outgoing.{Outgoing}
use Rattle.rh_defs.specs.declared.transfer.Incoming.{Incoming}
use Rattle.rh_defs.specs.declared.transfer_action.Transmit.{Transmit}
use Rattle.rh_defs.specs.declared.transfer_action.SaveFile.{SaveFile}
use Rattle.rh_defs.specs.declared.transfer_action.SendAction.{SendAction}
use Rattle.rh_defs.specs.declared.transfer_action.SendAction.TheVariants as send
use Rattle.rh_defs.specs.declared.transfer_action.Claim.{Claim}
use Rattle.rh_defs.specs.declared.transfer_action.Append.{Append}
use Rattle.rh_defs.specs.declared.transfer_action.LoadFile.{LoadFile}
use Rattle.rh_defs.specs.declared.transfer_action.Next.{Next}
use Rattle.rh_defs.specs.declared.transfer_action.Next.TheVariants as next
use Rattle.rh_defs.specs.declared.transfer_action.TakeAction.{TakeAction}
use Rattle.rh_defs.specs.declared.transfer_action.TakeAction.TheVariants as take
use Rattle.rh_defs.specs.Chain.{Granted}
use Rattle.rh_defs.specs.Sender as sender
use Rattle.rh_defs.specs.Receiver as receiver
use Rattle.rh_ram.specs.Due.{is_send_due, is_take_due}

-- what is granted where the condition holds, and refused where it doesn't
abbrev pub only_if : {A : Type 0} → Bool → Refusal → Granted A → Granted A
only_if true refusal granted = granted
only_if false refusal granted = Err refusal

-- ---- the sender

-- its part of a source with so many bytes went out
abbrev pub tell_sent : Transmit → ℕ → ℕ → List Outgoing → Granted (List Outgoing)
tell_sent a size ref records =
    only_if (is_send_due (send.Transmit a) records) NotOpen (Ok (sender.sent a (sender.next_part a size) ref records))

-- the file was saved
abbrev pub tell_saved : SaveFile → ℕ → List Outgoing → Granted (List Outgoing)
tell_saved a ref records = only_if (is_send_due (send.SaveFile a) records) NotOpen (Ok (sender.saved a ref records))

-- all bytes of the source, so many, were loaded
abbrev pub tell_sending_loaded : Sending → ℕ → List Outgoing → Granted (List Outgoing)
tell_sending_loaded x size records = only_if (is_send_due (send.Finish x) records) NotOpen (Ok (sender.sending_loaded x size records))

-- the action was refused
abbrev pub tell_sending_failed : SendAction → List Outgoing → Granted (List Outgoing)
tell_sending_failed a records = only_if (is_send_due a records) NotOpen (Ok (sender.sending_failed (sender.transfer_of a) records))

-- ---- the receiver

-- the buffer and the document are there, and the first fetch was sent
abbrev pub tell_fetching : Claim → ℕ → ℕ → ℕ → List Incoming → Granted (List Incoming)
tell_fetching a k buffer ref records = only_if (is_take_due (take.Claim a) records) Busy (Ok (receiver.taking_claimed a k buffer ref records))

-- whether no fetch follows on the bytes
abbrev pub is_finish : Next → Bool
is_finish next.Finish = true
is_finish _ = false

-- the bytes were taken, and the next fetch was sent
abbrev pub tell_fetched : Append → ℕ → List Incoming → Granted (List Incoming)
tell_fetched a ref records =
    only_if (is_take_due (take.Append a) records && not (is_finish a.next)) NotOpen (Ok (receiver.fetched a ref records))

-- the last bytes were taken
abbrev pub tell_finished : Append → List Incoming → Granted (List Incoming)
tell_finished a records = only_if (is_take_due (take.Append a) records && is_finish a.next) NotOpen (Ok (receiver.finished a records))

-- the sender was asked for a file
abbrev pub tell_asking : Taking → ℕ → List Incoming → Granted (List Incoming)
tell_asking f ref records = only_if (is_take_due (take.AskForFile f) records) NotOpen (Ok (receiver.asking f ref records))

-- the document has all bytes of the file
abbrev pub tell_taking_loaded : LoadFile → ℕ → List Incoming → Granted (List Incoming)
tell_taking_loaded a size records = only_if (is_take_due (take.LoadFile a) records) NotOpen (Ok (receiver.taking_loaded a.transfer size records))

-- whether so many of an action's bytes can be in the document
abbrev pub can_keep : TakeAction → ℕ → Bool
can_keep (take.Append a) kept = nat_le kept a.n
can_keep (take.LoadFile a) kept = true
can_keep _ kept = kept == 0

-- the records where an action failed with so many of its bytes in the document; a claim that failed leaves none
abbrev pub after_failure : TakeAction → ℕ → List Incoming → List Incoming
after_failure (take.Claim a) kept records = records
after_failure (take.Append a) kept records = receiver.failed_with a kept records
after_failure (take.AskForFile f) kept records = receiver.taking_failed f records
after_failure (take.LoadFile a) kept records = receiver.abandoned a.transfer kept records
after_failure (take.Release a) kept records = receiver.taking_failed a.transfer records

-- the action failed, or its transfer ended early
abbrev pub tell_failed : TakeAction → ℕ → List Incoming → Granted (List Incoming)
tell_failed a kept records =
    only_if (is_take_due a records) NotOpen (only_if (can_keep a kept) BadRange (Ok (after_failure a kept records)))
