-- The messages that wait or are held, by the list of all.
use Rattle.std.specs.Prelude.{ℕ, ◌==◌, ◌&&◌, not, Bool, List, find, Option, Some, None, is_some}
use Rattle.std.specs.List.{list_any}
use Rattle.rh_defs.specs.Desk.{Desk, task_at}
use Rattle.rh_sheet.specs.declared.note.Note.{Note}
use Rattle.rh_sheet.specs.declared.note.Whereabouts.{Whereabouts}
use Rattle.rh_sheet.specs.Fates.{next_taker}
use Rattle.rh_defs.specs.Messages.{code_number}
use Rattle.rh_defs.specs.declared.message.MessageItem.{MessageItem}

-- whether a message has the ref and waits
abbrev pub waits_as : ℕ → MessageItem → Bool
waits_as ref m = not m.held && m.my_ref == ref

-- the event code of a message that may be there, else 0
abbrev pub item_code : Option MessageItem → ℕ
item_code None = 0
item_code (Some m) = code_number m.code

-- the event code of the message with the ref that waits, 0 where none does
abbrev pub code_among : ℕ → List MessageItem → ℕ
code_among ref messages = item_code (find (waits_as ref) messages)

-- whether a message has the ref and is held
abbrev pub holds_as : ℕ → MessageItem → Bool
holds_as ref m = m.held && m.my_ref == ref

-- where the message of a note is, where the step's letter answers the ref
abbrev pub seen_among : Desk → ℕ → List MessageItem → Note → Whereabouts
seen_among d answered messages n = record {
  code = code_among n.my_ref messages;
  held = list_any (holds_as n.my_ref) messages;
  answered = n.my_ref == answered;
  live = is_some (task_at (next_taker n) d);
}
