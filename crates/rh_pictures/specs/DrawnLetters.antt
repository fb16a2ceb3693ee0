-- Letterboxes by the list of messages.
use Rattle.std.specs.Prelude.{ℕ, ◌==◌, Bool, List}
use Rattle.std.specs.List.{list_any}
use Rattle.rh_defs.specs.declared.message.MessageItem.{MessageItem}

-- whether a message is for the task
abbrev pub has_letters_in : ℕ → List MessageItem → Bool
has_letters_in h messages = list_any (λ (m : MessageItem). m.to == h) messages
