-- Cards: what may be too small for its scale, written out. Read Scene first.
-- x is the scene, t a task, r a record, b a flex block, place an address.
use Rattle.std.specs.Prelude.{ℕ, ◌+◌, ◌-◌, ◌==◌, nat_le, Bool, false, if◌then◌else◌, List, [], ◌∷◌, ◌++◌, length, take, drop, filter, find, codes, Option, Some, None}
use Rattle.std.specs.List.{concat}
use Rattle.std.specs.Fmt.{decimal}
use Rattle.rh_defs.specs.declared.message.Action.{Action}
use Rattle.rh_defs.specs.declared.message.EventCode.{EventCode}
use Rattle.rh_defs.specs.declared.transfer.Outgoing.{Outgoing}
use Rattle.rh_defs.specs.declared.transfer.Incoming.{Incoming}
use Rattle.rh_defs.specs.Records.{out_id, in_id, is_source, is_document, is_buffer_of}
use Rattle.rh_defs.specs.Heap.{Segment, Used, Hole, size_of, first_place}
use Rattle.rh_defs.specs.Slot.{Flex, weight, heap_start, flex_start}
use Rattle.rh_defs.specs.Messages.{Parcel, code_number, action_of}
use Rattle.rh_defs.specs.Post.{held_by}
use Rattle.rh_defs.specs.Desk.{Task, module_start}
use Rattle.rh_defs.specs.Text.{address, action_name}
use Rattle.rh_figure.specs.Scene.{Scene, ref_of, message_of_scene}
use Rattle.rh_figure.specs.Phrases.{Text, size_text, bytes_text, task_name, is_returned}
use Rattle.rh_figure.specs.Layout.{is_fresh_flex, is_fresh_block, is_new_message, vacates}
use Rattle.rh_figure.specs.declared.limits.TheConstants.{MOST_CARDS}

-- what a card is about
pub data CardKind : Type 0 where
  FlexCard : CardKind
  UsedCard : CardKind
  HoleCard : CardKind
  PostCard : CardKind
  MoreCard : CardKind

-- three lines, and whether the command has changed what they are about
pub record Card : Type 0 where
  pub kind : CardKind
  pub first : Text
  pub second : Text
  pub third : Text
  pub fresh : Bool

-- ---- a slot's flex blocks

abbrev pub in_use_text : Option Incoming → Text
in_use_text None = []
in_use_text (Some r) = codes ", in " ++ decimal (in_id r)

abbrev pub out_use_text : Option Outgoing → Text → Text
out_use_text None other = other
out_use_text (Some r) other = codes ", out " ++ decimal (out_id r)

-- the transfer that uses a flex block
abbrev pub use_of_block : Task → ℕ → Text
use_of_block t k = out_use_text (find (is_source k) t.sending) (in_use_text (find (is_document k) t.taking))

abbrev pub flex_card : ℕ → ℕ → List ℕ → Text → Bool → Card
flex_card at anchor bytes use_text fresh = record {
  kind = FlexCard;
  first = concat (codes "anchor " ∷ decimal anchor ∷ codes " " ∷ address at ∷ []);
  second = size_text (length bytes) ++ use_text;
  third = bytes_text bytes;
  fresh = fresh;
}

-- blocks that lie from an address on
abbrev pub flex_cards_from : Scene → Task → ℕ → List Flex → List Card
flex_cards_from x t place [] = []
flex_cards_from x t place (b ∷ blocks) =
    flex_card (place + 8) b.anchor b.bytes (use_of_block t b.anchor)
    (is_fresh_flex x t.handle b.anchor (length b.bytes))
    ∷ flex_cards_from x t (place + weight b) blocks

abbrev pub flex_cards : Scene → Task → List Card
flex_cards x t = flex_cards_from x t (flex_start t.slot) t.slot.blocks

-- ---- a slot's C heap

abbrev pub hole_card : ℕ → ℕ → Bool → Card
hole_card place n fresh = record {
  kind = HoleCard;
  first = codes "hole " ++ address place;
  second = size_text n;
  third = [];
  fresh = fresh;
}

-- a block that a transfer uses is its buffer
abbrev pub used_card : ℕ → List ℕ → Text → Bool → Card
used_card at bytes use_text fresh = record {
  kind = UsedCard;
  first = (if length use_text == 0 then codes "used " else codes "buffer ") ++ address at;
  second = size_text (length bytes) ++ use_text;
  third = bytes_text bytes;
  fresh = fresh;
}

-- the transfer whose buffer the block is
abbrev pub use_of_buffer : Task → ℕ → Text
use_of_buffer t at = in_use_text (find (is_buffer_of at) t.taking)

abbrev pub heap_card : Scene → Task → ℕ → Segment → Card
heap_card x t place (Used bytes) =
    used_card (place + 4) bytes (use_of_buffer t (place + 4)) (is_fresh_block x t.handle (place + 4))
heap_card x t place (Hole n) = hole_card place n (vacates t.handle place n x.marks.heap_effect)

-- segments that lie from an address on
abbrev pub cards_from : (ℕ → Segment → Card) → ℕ → List Segment → List Card
cards_from card place [] = []
cards_from card place (s ∷ segments) = card place s ∷ cards_from card (place + size_of s) segments

abbrev pub heap_cards : Scene → Task → List Card
heap_cards x t = cards_from (heap_card x t) (heap_start + first_place) t.slot.heap.segments

-- ---- the module area

-- the messages behind the one with the ref
abbrev pub after_ref : ℕ → List Parcel → List Parcel
after_ref ref [] = []
after_ref ref (p ∷ ps) = if p.message.my_ref == ref then ps else after_ref ref ps

abbrev pub next_text : List Parcel → Text
next_text [] = codes "none behind"
next_text (p ∷ ps) = codes "then " ++ decimal p.message.my_ref

-- where a message stands in the chain of its task
abbrev pub chain_text : Scene → Parcel → Text
chain_text x p =
    if ref_of (held_by p.to x.desk.post.seats) == p.message.my_ref then codes "held"
    else next_text (after_ref p.message.my_ref (x.waits p.to))

-- the tasks between which a message goes; one that comes back is for its sender
abbrev pub between_text : EventCode → Text → Text → Text
between_text code from to =
    if is_returned code then codes "back to " ++ to else concat (from ∷ codes " to " ∷ to ∷ [])

-- a message by its ref, action, event code, tasks and place in its chain
abbrev pub message_card : ℕ → Action → EventCode → Text → Text → Text → Bool → Card
message_card ref action code from to place fresh = record {
  kind = PostCard;
  first = concat (decimal ref ∷ codes " " ∷ action_name action ∷ []);
  second = between_text code from to;
  third = concat (decimal (code_number code) ∷ codes ", " ∷ place ∷ []);
  fresh = fresh;
}

abbrev pub post_card : Scene → Parcel → Card
post_card x p = message_card
    p.message.my_ref (action_of p.message.body) p.code
    (task_name x.desk p.message.from) (task_name x.desk p.to) (chain_text x p) (is_new_message x (Some p))

abbrev pub post_or_used_card : Scene → ℕ → List ℕ → Option Parcel → Card
post_or_used_card x at bytes (Some p) = post_card x p
post_or_used_card x at bytes None = used_card at bytes [] (x.marks.module_block == at)

abbrev pub module_card : Scene → ℕ → Segment → Card
module_card x place (Used bytes) = post_or_used_card x (place + 4) bytes (message_of_scene x (place + 4 - module_start))
module_card x place (Hole n) = hole_card place n (vacates 0 place n x.marks.heap_effect)

abbrev pub module_cards : Scene → List Card
module_cards x = cards_from (module_card x) (module_start + first_place) x.desk.post.heap.segments

-- ---- a band of cards

abbrev pub more_card : ℕ → Card
more_card n = record { kind = MoreCard; first = decimal n ++ codes " more"; second = []; third = []; fresh = false }

-- The first cards, the first changed one of the others, and how many are left out, where there are too many.
abbrev pub shown_cards : List Card → List Card
shown_cards cards =
    if nat_le (length cards) MOST_CARDS then cards
    else with_rest (take 1 (filter (λ (c : Card). c.fresh) (drop (MOST_CARDS - 2) cards)))
  where
    with_rest : List Card → List Card
    with_rest fresh =
        take (MOST_CARDS - 2) cards ++ fresh ++ more_card (length cards - (MOST_CARDS - 2) - length fresh) ∷ []
