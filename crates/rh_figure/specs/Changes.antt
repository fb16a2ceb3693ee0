-- What a command has changed, in words. Read Scene first.
-- x is the scene, o an owner with its number of pages, k an anchor, n a number of a page, b a flex block.
use Rattle.std.specs.Prelude.{ℕ, ◌-◌, ◌==◌, nat_le, nat_lt, ◌&&◌, ◌||◌, not, Bool, false, if◌then◌else◌, List, [], ◌∷◌, ◌++◌, length, drop, map, filter, find}
use Rattle.std.specs.Prelude.{codes, Option, Some, None}
use Rattle.std.specs.List.{list_all, list_any, flat_map, concat}
use Rattle.std.specs.Fmt.{decimal}
use Rattle.rh_defs.specs.declared.question.BlockItem.{BlockItem}
use Rattle.rh_defs.specs.declared.message.Action.{Action}
use Rattle.rh_defs.specs.declared.message.EventCode.{EventCode}
use Rattle.rh_defs.specs.declared.message.EventCode.TheVariants as event
use Rattle.rh_defs.specs.declared.message.MessageItem.{MessageItem}
use Rattle.rh_defs.specs.declared.message.Body.{Body}
use Rattle.rh_defs.specs.declared.message.Body.TheVariants.{RamTransmit}
use Rattle.rh_defs.specs.declared.message.Letter.{Letter}
use Rattle.rh_defs.specs.Messages.{Parcel, action_of}
use Rattle.rh_defs.specs.Post.{Seat, answers_held}
use Rattle.rh_defs.specs.Desk.{Task, task_at}
use Rattle.rh_defs.specs.Questions.{block_items}
use Rattle.rh_defs.specs.Bytes.{space}
use Rattle.rh_defs.specs.Text.{action_name, address, on_or_off}
use Rattle.rh_figure.specs.Share.{Holding, count_of, holdings}
use Rattle.rh_figure.specs.Scene.{Scene, Effect, NoEffect, Begun, Ended, Budging, Longer, Shorter, Made, Removed, GivenUp, Written, Stored, Copied}
use Rattle.rh_figure.specs.Scene.{Acknowledged, waiting, live}
use Rattle.rh_figure.specs.HeapChanges.{buffer_text, grown_text, heap_text}
use Rattle.rh_figure.specs.Phrases.{Text, area_name, size_text, pages_text, where_so, listed_numbers, task_name, owner_name, is_returned}
use Rattle.rh_figure.specs.declared.limits.TheConstants.{MOST_FATES, MOST_TOLD}

-- ---- effects

abbrev pub begun_line : Text → ℕ → Text
begun_line name handle = concat (codes "Task " ∷ name ∷ codes " begins, with handle " ∷ decimal handle ∷ [])

abbrev pub ended_line : Text → Text
ended_line name = concat (codes "Task " ∷ name ∷ codes " ends, and its slot, records and blocks with it" ∷ [])

-- whether budging is on for a task, and whether it was before
abbrev pub budging_line : Text → Bool → Bool → Text
budging_line name was on = concat (
    codes "Budging is " ∷ on_or_off on ∷ codes " for " ∷ name
    ∷ where_so (if was then on else not on) (codes ", as before") ∷ []
    )

abbrev pub moved_line : ℕ → ℕ → Text → Text
moved_line k n more = concat (area_name k ∷ codes " has " ∷ size_text n ∷ more ∷ [])

abbrev pub made_line : ℕ → ℕ → Text
made_line k most =
    concat (area_name k ∷ codes " is made: no page yet, " ∷ pages_text most ∷ codes " at most" ∷ [])

abbrev pub removed_line : ℕ → Text
removed_line k = area_name k ++ codes " is taken away"

abbrev pub given_up_line : Text → Text
given_up_line name = name ++ codes " gives a transfer up; the other end isn't told"

-- a byte of a text
abbrev pub is_text_byte : ℕ → Bool
is_text_byte b = nat_le space b && nat_lt b 127

-- whether bytes are few, and each is one of a text
abbrev pub is_short_text : List ℕ → Bool
is_short_text bytes = nat_le (length bytes) MOST_TOLD && list_all is_text_byte bytes

-- a short text, behind a colon
abbrev pub quoted_text : List ℕ → Text
quoted_text bytes = where_so (is_short_text bytes) (concat (codes ": \"" ∷ bytes ∷ codes "\"" ∷ []))

-- bytes that went into a block, as a text where they are one
abbrev pub written_line : ℕ → ℕ → List ℕ → Text
written_line k offset bytes = concat (
    size_text (length bytes) ∷ codes " into flex block " ∷ decimal k ∷ codes " from offset " ∷ decimal offset
    ∷ quoted_text bytes ∷ []
    )

-- an address of a task
abbrev pub address_of : ℕ → Text → Text
address_of a name = concat (address a ∷ codes " of " ∷ name ∷ [])

-- bytes that went to an address of a task, as a text where they are one
abbrev pub stored_line : Text → ℕ → List ℕ → Text
stored_line name a bytes =
    concat (size_text (length bytes) ∷ codes " to " ∷ address_of a name ∷ quoted_text bytes ∷ [])

-- so many bytes from an address of a task to one of another
abbrev pub copied_line : Text → ℕ → ℕ → Text → ℕ → Text
copied_line name n a who place =
    concat (size_text n ∷ codes " from " ∷ address_of a name ∷ codes " to " ∷ address_of place who ∷ [])

-- the ref is 0 where there was nothing to acknowledge
abbrev pub acknowledged_line : Text → ℕ → Text
acknowledged_line name ref =
    name ++ (if ref == 0 then codes " holds no message" else codes " acknowledges message " ++ decimal ref)

abbrev pub effect_text : Scene → Effect → List Text
effect_text x NoEffect = []
effect_text x (Begun name handle) = begun_line name handle ∷ []
effect_text x (Ended name) = ended_line name ∷ []
effect_text x (Budging name was on) = budging_line name was on ∷ []
effect_text x (Longer k n) = moved_line k n (codes " more") ∷ []
effect_text x (Shorter k n) = moved_line k n (codes " fewer") ∷ []
effect_text x (Made k most) = made_line k most ∷ []
effect_text x (Removed k) = removed_line k ∷ []
effect_text x (GivenUp name) = given_up_line name ∷ []
effect_text x (Written k offset bytes) = written_line k offset bytes ∷ []
effect_text x (Stored name a bytes) = stored_line name a bytes ∷ []
effect_text x (Copied name n a to place) = copied_line name n a (task_name x.desk to) place ∷ []
effect_text x (Acknowledged name ref) = acknowledged_line name ref ∷ []

-- ---- pages

-- the pages that an owner has got, from those that it has now
abbrev pub taken_pages : Scene → Holding → List ℕ
taken_pages x o = drop (count_of o.0 x.before.holdings) (x.share.pages_of o.0)

-- the pages that were given back
abbrev pub freed_pages : Scene → List ℕ
freed_pages x = drop x.before.free x.share.free

abbrev pub taken_line : Text → List ℕ → Text
taken_line name numbers = name ++ codes " takes page " ++ listed_numbers numbers

abbrev pub takes_text : Scene → Holding → List Text
takes_text x o =
    if nat_lt (count_of o.0 x.before.holdings) o.1 then taken_line (owner_name x.desk o.0) (taken_pages x o) ∷ []
    else []

abbrev pub freed_line : List ℕ → Text
freed_line numbers = codes "Free again: page " ++ listed_numbers numbers

abbrev pub freed_text : List ℕ → List Text
freed_text [] = []
freed_text (n ∷ ns) = freed_line (n ∷ ns) ∷ []

abbrev pub page_changes : Scene → List Text
page_changes x = flat_map (takes_text x) (holdings x.desk) ++ freed_text (freed_pages x)

-- ---- flex blocks

-- the block of an anchor in a list
abbrev pub item_with_anchor : ℕ → List BlockItem → Option BlockItem
item_with_anchor k blocks = find (λ (b : BlockItem). b.anchor == k) blocks

abbrev pub has_anchor : ℕ → List BlockItem → Bool
has_anchor k blocks = list_any (λ (b : BlockItem). b.anchor == k) blocks

-- the blocks of the named task now
abbrev pub blocks_now : Option Task → List BlockItem
blocks_now None = []
blocks_now (Some t) = block_items t.slot

abbrev pub gone_line : ℕ → Text
gone_line k = concat (codes "Flex block " ∷ decimal k ∷ codes " is gone, and anchor " ∷ decimal k ∷ codes " is 0" ∷ [])

-- a block of so many bytes at an address
abbrev pub new_line : ℕ → ℕ → ℕ → Text
new_line k n at =
    concat (codes "Flex block " ∷ decimal k ∷ codes " is new: " ∷ size_text n ∷ codes " at " ∷ address at ∷ [])

-- a block that had so many bytes, and has another number now
abbrev pub resized_line : ℕ → ℕ → ℕ → Text
resized_line k had has =
    concat (codes "Flex block " ∷ decimal k ∷ codes " had " ∷ size_text had ∷ codes ", now " ∷ decimal has ∷ [])

abbrev pub block_change : BlockItem → Option BlockItem → List Text
block_change b None = new_line b.anchor b.size b.address ∷ []
block_change b (Some old) = if old.size == b.size then [] else resized_line b.anchor old.size b.size ∷ []

-- the blocks of the named task, while it lives, against those before
abbrev pub block_changes : Scene → Option Task → List Text
block_changes x None = []
block_changes x (Some t) =
    map (λ (b : BlockItem). gone_line b.anchor)
    (filter (λ (b : BlockItem). not (has_anchor b.anchor (block_items t.slot))) x.before.blocks)
    ++ flat_map (λ (b : BlockItem). block_change b (item_with_anchor b.anchor x.before.blocks)) (block_items t.slot)

-- a block that lies elsewhere now: where it lay, and where it lies
pub record Slide : Type 0 where
  pub from : ℕ
  pub to : ℕ

abbrev pub slide_of : BlockItem → Option BlockItem → List Slide
slide_of b None = []
slide_of b (Some old) = if old.address == b.address then [] else record { from = old.address; to = b.address } ∷ []

-- the blocks of the named task that slid, from below
abbrev pub slides : Scene → List Slide
slides x =
    flat_map (λ (b : BlockItem). slide_of b (item_with_anchor b.anchor x.before.blocks)) (blocks_now
    (task_at x.before.handle x.desk))

abbrev pub who_slides : ℕ → Text
who_slides n = if n == 1 then codes "1 block slides" else decimal n ++ codes " blocks slide"

-- from one address to another
abbrev pub way_text : ℕ → ℕ → Text
way_text from to =
    if nat_lt from to then codes " up by " ++ size_text (to - from) else codes " down by " ++ size_text (from - to)

-- what the anchors of so many blocks that slid hold, of which the lowest lies at an address now
abbrev pub anchors_told : ℕ → ℕ → Text
anchors_told n to =
    if n == 1 then concat (codes ": its anchor holds " ∷ address to ∷ codes " now" ∷ [])
    else codes ": their anchors hold the new addresses"

-- so many blocks, of which the lowest slid from one address to another
abbrev pub slide_line : ℕ → ℕ → ℕ → Text
slide_line n from to = concat (who_slides n ∷ way_text from to ∷ anchors_told n to ∷ [])

-- all blocks that slide in one command slide equally far
abbrev pub slide_change : List Slide → List Text
slide_change [] = []
slide_change (s ∷ ss) = slide_line (length (s ∷ ss)) s.from s.to ∷ []

-- ---- messages

-- whether a message that didn't come back before the command is among some
abbrev pub was_out : ℕ → List MessageItem → Bool
was_out ref messages = list_any (λ (m : MessageItem). m.my_ref == ref && not (is_returned m.code)) messages

-- the messages that the command sent back to those who sent them
abbrev pub bouncing : Scene → List Parcel
bouncing x = filter (λ (p : Parcel). is_returned p.code && was_out p.message.my_ref x.before.messages) (waiting x)

abbrev pub returns_line : Action → ℕ → Text → Text
returns_line action ref who = concat (
    action_name action ∷ codes " " ∷ decimal ref ∷ codes " bounces: it goes back to " ∷ who ∷ codes " with code 19" ∷ []
    )

abbrev pub returns_text : Scene → Parcel → Text
returns_text x p = returns_line (action_of p.message.body) p.message.my_ref (task_name x.desk p.to)

abbrev pub all_return_line : ℕ → Text
all_return_line n = decimal n ++ codes " messages bounce: they go back to those who sent them with code 19"

-- few things each by a line of its own, of more their number
abbrev pub few_or_count : {A : Type 0} → (A → Text) → (ℕ → Text) → List A → List Text
few_or_count line count things =
    if nat_lt MOST_FATES (length things) then count (length things) ∷ [] else map line things

abbrev pub bounced_text : Scene → List Text
bounced_text x = few_or_count (returns_text x) all_return_line (bouncing x)

abbrev pub takes_line : Text → Action → ℕ → Text
takes_line who action ref = concat (who ∷ codes " takes " ∷ action_name action ∷ codes " " ∷ decimal ref ∷ [])

abbrev pub taken_text : Scene → Option (ℕ × Action) → List Text
taken_text x None = []
taken_text x (Some taken) = takes_line (task_name x.desk x.marks.handle) taken.1 taken.0 ∷ []

-- Whether a message, as it was before the command, goes back next: it waits for its sender, or is held by it.
abbrev pub goes_back_next : MessageItem → Bool
goes_back_next m = is_returned m.code || m.held

-- whether a message that a task takes comes back to it, by all messages before
abbrev pub comes_back : ℕ → List MessageItem → Bool
comes_back ref messages = list_any (λ (m : MessageItem). m.my_ref == ref && goes_back_next m) messages

-- whether a task holds the message with the ref
abbrev pub is_held : Scene → ℕ → Bool
is_held x ref = list_any (λ (s : Seat). answers_held ref s.holds) x.desk.post.seats

abbrev pub back_line : Action → ℕ → Text
back_line action ref = concat (action_name action ∷ codes " " ∷ decimal ref ∷ codes " has come back: nobody answered it" ∷ [])

abbrev pub holds_line : Text → Action → ℕ → Text
holds_line who action ref = concat (
    who ∷ codes " holds " ∷ action_name action ∷ codes " " ∷ decimal ref ∷ codes " until it answers or polls again" ∷ []
    )

-- whether the message that the command took has come back
abbrev pub back_text : Scene → Option (ℕ × Action) → List Text
back_text x None = []
back_text x (Some taken) = if comes_back taken.0 x.before.messages then back_line taken.1 taken.0 ∷ [] else []

-- whether the task holds the message that it took
abbrev pub holding_text : Scene → Option (ℕ × Action) → List Text
holding_text x None = []
holding_text x (Some taken) =
    if is_held x taken.0 then holds_line (task_name x.desk x.marks.handle) taken.1 taken.0 ∷ [] else []

-- whether a message is the one that the command took
abbrev pub is_taken : ℕ → Option (ℕ × Action) → Bool
is_taken ref None = false
is_taken ref (Some taken) = taken.0 == ref

-- whether a message is the one that the letter of the command answers
abbrev pub answers_ref : ℕ → Option (Letter × ℕ) → Bool
answers_ref ref None = false
answers_ref ref (Some sent) = sent.0.your_ref == ref

abbrev pub is_live : Scene → ℕ → Bool
is_live x ref = list_any (λ (p : Parcel). p.message.my_ref == ref) (live x)

-- whether a message is the one that the command acknowledged
abbrev pub is_acknowledged : ℕ → Effect → Bool
is_acknowledged ref (Acknowledged name acknowledged) = acknowledged == ref
is_acknowledged ref _ = false

-- whether a message that was there before the command has vanished: it is gone, and nobody took, answered or
-- acknowledged it
abbrev pub has_vanished : Scene → MessageItem → Bool
has_vanished x m =
    not (is_live x m.my_ref) && not (is_taken m.my_ref x.marks.taken) && not (answers_ref m.my_ref x.marks.sent)
    && not (is_acknowledged m.my_ref x.marks.effect)

abbrev pub vanished : Scene → List MessageItem
vanished x = filter (has_vanished x) x.before.messages

-- the name of a task before the command, by what that did: it may have ended the task that it names
abbrev pub name_before : Scene → ℕ → Effect → Text
name_before x h (Ended name) = if h == x.before.handle then name else task_name x.desk h
name_before x h _ = task_name x.desk h

-- why a message vanished that was for the one task, and was sent by the other, by its event code
abbrev pub why_text : Text → Text → EventCode → Text
why_text to from event.User = concat (codes " with " ∷ to ∷ codes ": it wants no answer" ∷ [])
why_text to from event.Acknowledge = concat (codes " with " ∷ to ∷ codes ": it has come back already" ∷ [])
why_text to from event.Recorded = concat (codes ": " ∷ from ∷ codes ", who sent it, isn't live" ∷ [])

abbrev pub vanishes_line : Action → ℕ → Text → Text
vanishes_line action ref why = concat (action_name action ∷ codes " " ∷ decimal ref ∷ codes " vanishes" ∷ why ∷ [])

abbrev pub vanishes_text : Scene → MessageItem → Text
vanishes_text x m = vanishes_line
    m.action m.my_ref
    (why_text (name_before x m.to x.marks.effect) (name_before x m.from x.marks.effect) m.code)

abbrev pub all_vanish_line : ℕ → Text
all_vanish_line n = decimal n ++ codes " messages vanish: nobody is there to take them"

abbrev pub vanished_text : Scene → List Text
vanished_text x = few_or_count (vanishes_text x) all_vanish_line (vanished x)

abbrev pub bytes_line : ℕ → Text → ℕ → Text
bytes_line n who buffer =
    concat (size_text n ∷ codes " into the buffer of " ∷ who ∷ codes " at " ∷ address buffer ∷ [])

abbrev pub bytes_sent_text : Scene → Letter → Body → List Text
bytes_sent_text x l (RamTransmit buffer n) = bytes_line n (task_name x.desk l.to) buffer ∷ []
bytes_sent_text x l _ = []

-- lines where a poll took a message: a letter that a line sends takes no bytes with it
abbrev pub where_taken : Option (ℕ × Action) → List Text → List Text
where_taken None lines = []
where_taken (Some taken) lines = lines

abbrev pub sends_line : Text → Action → ℕ → Text → Text
sends_line who action ref to =
    concat (who ∷ codes " sends " ∷ action_name action ∷ codes " " ∷ decimal ref ∷ codes " to " ∷ to ∷ [])

abbrev pub sent_text : Scene → Option (Letter × ℕ) → List Text
sent_text x None = []
sent_text x (Some sent) =
    where_taken x.marks.taken (bytes_sent_text x sent.0 sent.0.body)
    ++ sends_line (task_name x.desk sent.0.from) (action_of sent.0.body) sent.1 (task_name x.desk sent.0.to) ∷ []

-- the messages that go back, the one that the task took, those that vanished, and the one that it sent
abbrev pub post_changes : Scene → List Text
post_changes x = bounced_text x ++ taken_text x x.marks.taken ++ vanished_text x ++ sent_text x x.marks.sent

-- ---- all of it
abbrev pub changes : Scene → List Text
changes x =
    effect_text x x.marks.effect
    ++ page_changes x
    ++ grown_text x (task_at x.before.handle x.desk)
    ++ heap_text x x.marks.heap_effect
    ++ buffer_text x x.marks.taken x.marks.sent
    ++ block_changes x (task_at x.before.handle x.desk)
    ++ slide_change (slides x)
    ++ back_text x x.marks.taken
    ++ post_changes x
    ++ holding_text x x.marks.taken
