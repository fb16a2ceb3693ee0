-- Bytes of live blocks that a call writes or moves: no line spells it.
use Rattle.std.specs.Prelude.{◌≡◌, ◌≢◌, ℕ, Bool, ◌&&◌, nat_le, if◌then◌else◌, List, length, Option, Some, None, Ok}
use Rattle.std.specs.Option.{option_map}
use Rattle.rh_defs.specs.declared.reply.Reply.TheVariants as reply
use Rattle.rh_defs.specs.Chain.{Granted, ◌>>=◌, or_else}
use Rattle.rh_defs.specs.Commands.{Answer}
use Rattle.rh_defs.specs.Desk.{Desk}
use Rattle.rh_defs.specs.Forms.{is_number}
use Rattle.rh_tasks.specs.BlockBytes.{block_written, module_written}
use Rattle.rh_tasks.specs.TransferBlock.{transferred}
use Rattle.vf_desk.specs.declared.call_outcome.CallOutcome.{CallOutcome}
use Rattle.vf_desk.specs.declared.call_outcome.CallOutcome.TheVariants.{Closed, BadArgument, Said}
use Rattle.vf_desk.specs.declared.desk.VfDesk.{VfDesk}
use Rattle.vf_desk.specs.CallOutcome.{status_of}
use Rattle.vf_desk.specs.DeskForms.{name_read}
use Rattle.vf_desk.specs.SeenDesk.{IsSeenDesk, KeepsRest}

-- ---- what is done

-- to a desk: the desk after it and a reply, or a refusal
abbrev pub Edit : Type 0
Edit = Desk → Granted Answer

-- whether a `put` may write these bytes, one at least, from this offset on
abbrev pub is_write : ℕ → List ℕ → Bool
is_write offset bytes = is_number offset && nat_le 1 (length bytes)

-- bytes are written into the block at an address of a task's slot, where the arguments are of their forms
abbrev pub block_edit : List ℕ → ℕ → ℕ → List ℕ → Option Edit
block_edit name address offset bytes =
    if is_write offset bytes then option_map (λ known d. block_written d known address offset bytes) (name_read name)
    else None

-- bytes are written into a block of the module area
abbrev pub module_edit : ℕ → ℕ → List ℕ → Option Edit
module_edit address offset bytes =
    if is_write offset bytes then Some (λ d. module_written d address offset bytes) else None

-- bytes are moved from one task's block to another's
abbrev pub transfer_edit : ℕ → ℕ → ℕ → ℕ → ℕ → Option Edit
transfer_edit from address to address2 n = Some (λ d. transferred d from address to address2 n >>= λ e. Ok (e, reply.Done))

-- ---- what a call with it comes to

-- the desk after it, and the reply: a refusal leaves the desk as it was
abbrev pub answer_by : Edit → Desk → Answer
answer_by edit d = or_else (edit d) (λ refusal. (d, reply.Refused refusal))

-- where the desk is open and seen as this one, or closed, and the arguments are of their forms or not
abbrev pub called_by : Option Desk → Option Edit → CallOutcome
called_by None edit = Closed
called_by (Some d) None = BadArgument
called_by (Some d) (Some edit) = Said (answer_by edit d).1

-- a desk after it
abbrev pub edited_with : Option Edit → Desk → Desk
edited_with None d = d
edited_with (Some edit) d = (answer_by edit d).0

-- a handle after it, where the desk is open or closed
abbrev pub edited_by : Option Desk → Option Edit → Option Desk
edited_by None edit = None
edited_by (Some d) edit = Some (edited_with edit d)

-- A call edits: its status is that of the edit of each desk that the handle may be seen as, and so is the desk afterwards.
-- The last reply stays, and with any status but 0 all that the handle has: the desk, its bytes and areas.
pub record DoesEdit (edit : Option Edit) (old new : VfDesk) (status : ℕ) : Type 0 where
  pub status_is : (s : Option Desk) → IsSeenDesk old s → status ≡ status_of (called_by s edit)
  pub desk : (s : Option Desk) → IsSeenDesk old s → IsSeenDesk new (edited_by s edit)
  pub rest : KeepsRest old.handle.open_desk new.handle.open_desk
  pub refused : status ≢ 0 → new.handle.open_desk ≡ old.handle.open_desk
