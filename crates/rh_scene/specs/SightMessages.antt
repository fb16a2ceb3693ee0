-- The messages of a desk in a list.
use Rattle.std.specs.Prelude.{ℕ, Bool, not, ◌&&◌, ◌==◌, if◌then◌else◌, List, [], ◌∷◌, filter, find, Option, Some, None}
pub use Rattle.rh_figure.specs.Scene.{seen_item, waiting_on, held_on, message_items}
use Rattle.rh_defs.specs.declared.message.MessageItem.{MessageItem}
use Rattle.rh_scene.specs.declared.message_list.MessagePlace.{MessagePlace}
use Rattle.rh_scene.specs.declared.message_list.MessagePlace.TheVariants.{Held, Before, Last}

-- ---- looking through the list

-- whether the task holds the message
abbrev pub is_held_by : ℕ → MessageItem → Bool
is_held_by h m = m.held && m.to == h

-- whether the message waits for the task
abbrev pub waits_for : ℕ → MessageItem → Bool
waits_for h m = not m.held && m.to == h

-- whether the message begins at the place of the module area
abbrev pub lies_in : ℕ → MessageItem → Bool
lies_in block m = m.block == block

-- the messages behind the first with the ref
abbrev pub items_behind : ℕ → List MessageItem → List MessageItem
items_behind ref [] = []
items_behind ref (m ∷ ms) = if m.my_ref == ref then ms else items_behind ref ms

-- the ref of a message that may be there, else 0
abbrev pub ref_or_none : Option MessageItem → ℕ
ref_or_none None = 0
ref_or_none (Some m) = m.my_ref

-- the ref of the message that the task holds, else 0
abbrev pub held_ref : ℕ → List MessageItem → ℕ
held_ref h messages = ref_or_none (find (is_held_by h) messages)

-- the ref of the first message, if there is one
abbrev pub first_ref : List MessageItem → Option ℕ
first_ref [] = None
first_ref (m ∷ ms) = Some m.my_ref

-- before the message with the ref, if there is one
abbrev pub before_next : Option ℕ → MessagePlace
before_next None = Last
before_next (Some ref) = Before ref

-- where a message stands in the chain of its task
abbrev pub message_place : List MessageItem → MessageItem → MessagePlace
message_place messages m =
    if held_ref m.to messages == m.my_ref then Held
    else before_next (first_ref (items_behind m.my_ref (filter (waits_for m.to) messages)))
