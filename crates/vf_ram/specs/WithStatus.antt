-- What a call came to: what it gives, or the status with which it changes nothing.
use Rattle.std.specs.Prelude.{ℕ, Bool, nat_lt, ◌==◌, if◌then◌else◌, Option, Some, None, Result, Ok, Err}
use Rattle.rh_defs.specs.Chain.{Granted}
use Rattle.rh_defs.specs.declared.message.MessageFault.{MessageFault}
use Rattle.rh_defs.specs.declared.message.MessageFault.TheVariants as fault
use Rattle.rh_defs.specs.declared.refusal.Refusal.{Refusal}
use Rattle.rh_defs.specs.declared.refusal.Refusal.TheVariants.{Busy, NotOpen, BadRange}
use Rattle.rh_defs.specs.declared.sizes.TheConstants.{ANCHORS}

-- what a call gives, or its status
abbrev pub WithStatus : Type 0 → Type 0
WithStatus A = Result A ℕ

-- the first step, and with what it gives the next one
abbrev pub and_then : {A B : Type 0} → WithStatus A → (A → WithStatus B) → WithStatus B
and_then (Ok x) next = next x
and_then (Err status) next = Err status

-- the status of a refusal: its number in the one order of all refusals; the last is for those that no transfer has
abbrev pub refusal_status : Refusal → ℕ
refusal_status Busy = 10
refusal_status NotOpen = 11
refusal_status BadRange = 13
refusal_status _ = 63

-- what is granted by the rules, with a status in place of the refusal
abbrev pub by_rules : {A : Type 0} → Granted A → WithStatus A
by_rules (Ok x) = Ok x
by_rules (Err refusal) = Err (refusal_status refusal)

-- no slot has this anchor
abbrev pub bad_anchor : ℕ
bad_anchor = 38

-- a name is none that a message can carry
abbrev pub bad_name : ℕ
bad_name = 45

-- the struct is no sender or receiver
abbrev pub bad_records : ℕ
bad_records = 48

-- the struct has no action that the call is told of
abbrev pub bad_action : ℕ
bad_action = 49

-- the message is none of a file or a RAM transfer
abbrev pub bad_message : ℕ
bad_message = 50

-- the status of bytes that spell no message
abbrev pub fault_status : MessageFault → ℕ
fault_status fault.BadLength = 33
fault_status fault.BadAction = bad_message

-- the status of what a call came to
abbrev pub status_of : {A : Type 0} → WithStatus A → ℕ
status_of (Ok x) = 0
status_of (Err status) = status

-- what is told, as a struct or number of C, or what stood there before
abbrev pub shown_or : {A B : Type 0} → (A → B) → WithStatus A → B → B
shown_or shown (Ok x) old = shown x
shown_or shown (Err status) old = old

-- what there is, or else a status
abbrev pub or_status : {A : Type 0} → Option A → ℕ → WithStatus A
or_status (Some x) status = Ok x
or_status None status = Err status

-- the anchor with a number
abbrev pub anchor_in : ℕ → WithStatus ℕ
anchor_in k = if nat_lt k ANCHORS then Ok k else Err bad_anchor

-- the transfer that a cancel means: with 0 for its id the first
abbrev pub wanted : ℕ → Option ℕ
wanted id = if id == 0 then None else Some id
