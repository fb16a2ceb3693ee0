-- Messages as cards and letterboxes have them.
use Rattle.std.specs.Prelude.{ℕ, List, [], ◌++◌, codes, Option, Some, None}
use Rattle.std.specs.List.{join_by}
use Rattle.std.specs.Fmt.{decimal}
use Rattle.rh_figure.specs.Phrases.{Text, and_more, entry_text}
use Rattle.rh_figure.specs.Cards.{Card, message_card}
use Rattle.rh_figure.specs.Figure.{Letterbox}
use Rattle.rh_map.specs.declared.messages.ChainPlace.{ChainPlace}
use Rattle.rh_map.specs.declared.messages.ChainPlace.TheVariants.{Held, Before, Last}
use Rattle.rh_map.specs.declared.messages.CardMessage.{CardMessage}
use Rattle.rh_map.specs.declared.letterboxes.MessageEntry.{MessageEntry}
use Rattle.rh_map.specs.MapTasks.{who_text}

-- where a message stands in its chain
abbrev pub place_text : ChainPlace → Text
place_text Held = codes "held"
place_text (Before next) = codes "then " ++ decimal next
place_text Last = codes "none behind"

-- the card of a message
abbrev pub card_of : CardMessage → Card
card_of m = message_card m.my_ref m.action m.code (who_text m.from) (who_text m.to) (place_text m.place) m.fresh

-- a message of a letterbox
abbrev pub message_entry_text : MessageEntry → Text
message_entry_text e = entry_text e.my_ref e.action e.code

abbrev pub held_text : Option MessageEntry → Text
held_text None = []
held_text (Some e) = message_entry_text e

-- the first of n messages that wait
abbrev pub waits_text : List MessageEntry → ℕ → Text
waits_text first n = join_by message_entry_text (codes ", ") first ++ and_more n

abbrev pub mapped_letterbox : List ℕ → Option MessageEntry → List MessageEntry → ℕ → Letterbox
mapped_letterbox name held first n = record { name = name; held = held_text held; waits = waits_text first n }
