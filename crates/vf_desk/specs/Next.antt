-- The message that a task's next poll would take, and what is told of it.
use Rattle.std.specs.Prelude.{ℕ, if◌then◌else◌, List, Option, Some, None, Result, Ok, Err}
use Rattle.rh_defs.specs.Chain.{Granted}
use Rattle.rh_defs.specs.Desk.{Desk}
use Rattle.rh_defs.specs.Forms.{is_name}
use Rattle.rh_defs.specs.Messages.{Parcel, code_number}
use Rattle.rh_tasks.specs.Sights.{next_message}
use Rattle.vf_desk.specs.DeskStatus.{bad_argument, closed_status, refusal_number}

-- a message, or none; or the status of why that isn't told
abbrev pub Next : Type 0
Next = Result (Option Parcel) ℕ

abbrev pub next_on : Granted (Option Parcel) → Next
next_on (Ok found) = Ok found
next_on (Err refusal) = Err (refusal_number refusal)

-- where the desk is open and seen as this one, or closed
abbrev pub next_in : Option Desk → List ℕ → Next
next_in None name = Err closed_status
next_in (Some d) name = if is_name name then next_on (next_message d name) else Err bad_argument

abbrev pub status_of_next : Next → ℕ
status_of_next (Ok found) = 0
status_of_next (Err status) = status

-- the message, if there is one
abbrev pub next_parcel : Next → Option Parcel
next_parcel (Ok found) = found
next_parcel (Err status) = None

-- the message's code, 0 where there is none, or what was there before
abbrev pub code_or : Next → ℕ → ℕ
code_or (Ok None) old = 0
code_or (Ok (Some p)) old = code_number p.code
code_or (Err status) old = old
