-- What a task holds of a transfer after a run: the bytes of its record's document, which nobody edited since.
-- Read Offered first. d is a desk, h a handle, id a transfer, k an anchor, t a task, w a record that comes in, r a
-- reply. *edits_next* follows one command by its reply, *edits_from* all commands.
use Rattle.std.specs.Prelude.{ℕ, Bool, false, ◌&&◌, ◌||◌, ◌==◌, if◌then◌else◌, List, [], ◌∷◌, find, Option, Some, None}
use Rattle.std.specs.List.{list_any}
use Rattle.std.specs.Option.{option_and_then}
use Rattle.rh_defs.specs.declared.command.Command.{Command}
use Rattle.rh_defs.specs.declared.command.Command.TheVariants as command
use Rattle.rh_defs.specs.declared.reply.Reply.{Reply}
use Rattle.rh_defs.specs.declared.reply.Reply.TheVariants as reply
use Rattle.rh_defs.specs.declared.transfer.Incoming.{Incoming}
use Rattle.rh_defs.specs.declared.transfer.Incoming.TheVariants as incoming
use Rattle.rh_defs.specs.Records.{in_id}
use Rattle.rh_defs.specs.Desk.{Desk, Task, has_name, task_at}
use Rattle.rh_defs.specs.Commands.{step}
use Rattle.rh_defs.specs.Runs.{after}
use Rattle.rh_safety.specs.Offered.{at_place, bytes_of_block}

-- the anchor of a record's document
abbrev pub in_anchor : Incoming → ℕ
in_anchor (incoming.Fetching f) = f.anchor
in_anchor (incoming.Draining f) = f.anchor
in_anchor (incoming.Asking q) = q.anchor
in_anchor (incoming.Done id anchor count) = anchor
in_anchor (incoming.Failed id anchor count) = anchor

-- ---- edited: an accepted put, free, extend or mid of the document came after the record was made

-- by handle and id, whether an edit came to the document; an id is never given again
abbrev pub Edits : Type 0
Edits = ℕ → ℕ → Bool

-- the record carries the id, and its document has the anchor
abbrev pub is_document_of : ℕ → ℕ → Incoming → Bool
is_document_of id k w = in_id w == id && in_anchor w == k

-- the task's block with the anchor was edited
abbrev pub edited_task : Edits → ℕ → Option Task → Edits
edited_task edits k None = edits
edited_task edits k (Some t) =
    at_place edits t.handle (λ id. edits t.handle id || list_any (is_document_of id k) t.taking)

abbrev pub edited_next : Edits → Desk → List ℕ → ℕ → Reply → Edits
edited_next edits d name k reply.Done = edited_task edits k (find (has_name name) d.tasks)
edited_next edits d name k _ = edits

-- the edits after one more command, by the command's reply
abbrev pub edits_next : Edits → Desk → Command → Reply → Edits
edits_next edits d (command.Put name k offset bytes) r = edited_next edits d name k r
edits_next edits d (command.Free name k) r = edited_next edits d name k r
edits_next edits d (command.Extend name k n) r = edited_next edits d name k r
edits_next edits d (command.Mid name k offset by) r = edited_next edits d name k r
edits_next edits d _ r = edits

-- the edits after commands
abbrev pub edits_from : Edits → Desk → List Command → Edits
edits_from edits d [] = edits
edits_from edits d (c ∷ commands) = edits_from (edits_next edits d c (step d c).1) (step d c).0 commands

-- whether an edit came to the document of the handle's record with the id, in a run of the commands from the desk
abbrev pub is_edited : Desk → List Command → ℕ → ℕ → Bool
is_edited d commands h id = edits_from (λ k i. false) d commands h id

-- ---- held

-- the bytes of a record's document, unless an edit came to it
abbrev pub document_of : Task → Bool → Option Incoming → Option (List ℕ)
document_of t edited None = None
document_of t edited (Some w) = if edited then None else bytes_of_block t.slot (in_anchor w)

abbrev pub held_of : Option Task → ℕ → Bool → Option (List ℕ)
held_of task id edited = option_and_then (λ (t : Task). document_of t edited (find (λ w. in_id w == id) t.taking)) task

-- what the live task of the handle holds of the transfer with the id, after a run of the commands from the desk
abbrev pub held : Desk → List Command → ℕ → ℕ → Option (List ℕ)
held d commands id h = held_of (task_at h (after d commands)) id (is_edited d commands h id)
