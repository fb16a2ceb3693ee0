-- A task's letterbox, by a list of messages.
use Rattle.std.specs.Prelude.{ℕ, if◌then◌else◌, List, [], ◌∷◌, filter, find, length, map, take}
use Rattle.std.specs.Option.{option_map}
use Rattle.rh_figure.specs.Figure.{Letterbox}
use Rattle.rh_figure.specs.declared.limits.TheConstants.{MOST_LISTED}
use Rattle.rh_map.specs.MapMessages.{mapped_letterbox}
use Rattle.rh_map.specs.declared.letterboxes.MessageEntry.{MessageEntry}
use Rattle.rh_scene.specs.SightMessages.{is_held_by, waits_for}
use Rattle.rh_defs.specs.declared.message.MessageItem.{MessageItem}
use Rattle.rh_pictures.specs.DrawnLetters.{has_letters_in}

-- a message as a letterbox has it
abbrev pub entry_seen : MessageItem → MessageEntry
entry_seen m = record { my_ref = m.my_ref; action = m.action; code = m.code }

-- the letterbox of the task with the name and the handle
abbrev pub letterbox_in : List ℕ → ℕ → List MessageItem → Letterbox
letterbox_in name h messages =
    let waits = map entry_seen (filter (waits_for h) messages) in
    mapped_letterbox name (option_map entry_seen (find (is_held_by h) messages)) (take MOST_LISTED waits) (length waits)

-- the letterbox of the task with the name and the handle, where a message is for the task
abbrev pub letterboxes_in : List ℕ → ℕ → List MessageItem → List Letterbox
letterboxes_in name h messages = if has_letters_in h messages then letterbox_in name h messages ∷ [] else []
