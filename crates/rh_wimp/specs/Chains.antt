-- The queue's entries and the module area's heap, and the post that they spell.
use Rattle.std.specs.Prelude.{◌≡◌, ◌≢◌, ℕ, ◌<◌, ◌≤◌, ◌==◌, Bool, true, false, if◌then◌else◌, List, [], ◌∷◌, ◌++◌, length, map, filter, get_or}
use Rattle.std.specs.Prelude.{Option, Some, None}
use Rattle.rh_defs.specs.Heap.{Heap}
use Rattle.rh_defs.specs.Memory.{Memory}
use Rattle.rh_module.specs.ModuleArea.{module_heap_in}
use Rattle.rh_module.specs.declared.module.Module.{Module}
use Rattle.rh_defs.specs.Blocks.{block_bytes, SameShape}
use Rattle.rh_defs.specs.AnyMessage.{read_body}
use Rattle.rh_defs.specs.declared.message.Body.{Body}
use Rattle.rh_defs.specs.declared.message.Message.{Message}
use Rattle.rh_defs.specs.Messages.{Parcel, Fits, padded}
use Rattle.rh_defs.specs.Post.{Seat, Post, has_seat, live_count, most_messages}
use Rattle.rh_wimp.specs.declared.chain.Entry.{Entry}
use Rattle.rh_defs.specs.declared.message.Event.{Event}

-- what callers see of a queue: for each live handle the offsets of the first and last block of its chain and of the held
-- block, how many messages are live, and the next ref
pub record Chains : Type 0 where
  pub entries : List Entry
  pub live : ℕ
  pub next_ref : ℕ

-- a live handle with the messages queued for it and the one that it holds
pub record SeatRow : Type 0 where
  pub handle : ℕ
  pub chain : List Parcel
  pub held : Option Parcel

abbrev pub seat_row : List Parcel → Seat → SeatRow
seat_row queued s = record { handle = s.handle; chain = filter (λ (p : Parcel). p.to == s.handle) queued; held = s.holds }

abbrev pub rows_of : Post → List SeatRow
rows_of post = map (seat_row post.queued) post.seats

-- ---- one row
-- the block of the first of some messages, or what stands behind them
abbrev pub first_block : List Parcel → ℕ → ℕ
first_block [] next = next
first_block (p ∷ ps) next = p.block

-- the block of the last of some messages, 0 for none
abbrev pub last_block : List Parcel → ℕ
last_block [] = 0
last_block (p ∷ []) = p.block
last_block (p ∷ q ∷ ps) = last_block (q ∷ ps)

-- the message's block spells it, with a link
pub record Lies (h : Heap) (link : ℕ) (p : Parcel) : Type 0 where
  pub block : block_bytes p.block h ≡ Some (padded link p)
  pub fits : Fits p.message

-- each message's block links to that of the next one
abbrev pub Chain : Heap → List Parcel → ℕ → Type 0
Chain h [] next = Unit {0}
Chain h (p ∷ ps) next = Lies h (first_block ps next) p × Chain h ps next

abbrev pub Holds : Heap → ℕ → Option Parcel → Type 0
Holds h block None = block ≡ 0
Holds h block (Some p) = (block ≡ p.block) × Lies h 0 p

pub record RowLies (h : Heap) (e : Entry) (r : SeatRow) : Type 0 where
  pub handle : e.handle ≡ r.handle
  pub first : e.first ≡ first_block r.chain 0
  pub last : e.last ≡ last_block r.chain
  pub chain : Chain h r.chain 0
  pub held : Holds h e.held r.held

-- ---- all rows
abbrev pub held_list : Option Parcel → List Parcel
held_list None = []
held_list (Some p) = p ∷ []

abbrev pub row_parcels : SeatRow → List Parcel
row_parcels r = r.chain ++ held_list r.held

-- none of the messages lies in the block
abbrev pub Off : ℕ → List Parcel → Type 0
Off block [] = Unit {0}
Off block (p ∷ ps) = (p.block ≢ block) × Off block ps

-- no two lie in one block
abbrev pub Apart : List Parcel → Type 0
Apart [] = Unit {0}
Apart (p ∷ ps) = Off p.block ps × Apart ps

-- none of the first lies in a block of the second
abbrev pub Clear : List Parcel → List Parcel → Type 0
Clear [] qs = Unit {0}
Clear (p ∷ ps) qs = Off p.block qs × Clear ps qs

abbrev pub no_row : SeatRow
no_row = record { handle = 0; chain = []; held = None }

abbrev pub no_entry : Entry
no_entry = record { handle = 0; first = 0; last = 0; held = 0 }

abbrev pub row_at : List SeatRow → ℕ → SeatRow
row_at rows i = get_or rows i no_row

abbrev pub entry_at : List Entry → ℕ → Entry
entry_at es i = get_or es i no_entry

pub record RowsLie (h : Heap) (es : List Entry) (rows : List SeatRow) : Type 0 where
  pub len : length es ≡ length rows
  pub each : (i : ℕ) → i < length rows → RowLies h (entry_at es i) (row_at rows i)
  pub own : (i : ℕ) → i < length rows → Apart (row_parcels (row_at rows i))
  pub cross : (i j : ℕ) → i < length rows → j < length rows → i ≢ j → Clear (row_parcels (row_at rows i)) (row_parcels (row_at rows j))
  pub handles : (i j : ℕ) → i < length rows → j < length rows → i ≢ j → (row_at rows i).handle ≢ (row_at rows j).handle

-- ---- the plain heap, whose links are 0
abbrev pub AllLie : Heap → List Parcel → Type 0
AllLie d [] = Unit {0}
AllLie d (p ∷ ps) = (block_bytes p.block d ≡ Some (padded 0 p)) × AllLie d ps

-- the heap is the plain one, but for the links of messages; every other block is its user's
pub record IsLinked (h d : Heap) (rows : List SeatRow) : Type 0 where
  pub shape : SameShape h d
  pub lie : (i : ℕ) → i < length rows → AllLie d (row_parcels (row_at rows i))
  pub others : (a : ℕ) → ((i : ℕ) → i < length rows → Off a (row_parcels (row_at rows i))) → block_bytes a h ≡ block_bytes a d

-- every queued message is for a live task
abbrev pub AllLive : List Seat → List Parcel → Type 0
AllLive seats [] = Unit {0}
AllLive seats (p ∷ ps) = (has_seat p.to seats ≡ true) × AllLive seats ps

-- the queue's entries and the module area's heap spell the post
pub record ArePostChains (h : Heap) (q : Chains) (post : Post) : Type 0 where
  pub rows : RowsLie h q.entries (rows_of post)
  pub linked : IsLinked h post.heap (rows_of post)
  pub live : q.live ≡ live_count post
  pub recipients : AllLive post.seats post.queued
  pub few : live_count post ≤ most_messages
  pub next_ref : q.next_ref ≡ post.next_ref

abbrev pub SpellsPostIn : Memory → Module → Chains → Post → Type 0
SpellsPostIn m module_area q post = ArePostChains (module_heap_in m module_area) q post

-- ---- what a queue has
-- the handle is live
abbrev pub HasEntry : ℕ → Chains → Type 0
HasEntry h q = (i : ℕ) × ((i < length q.entries) × ((entry_at q.entries i).handle ≡ h))

-- a message lies in the block, and links to none
pub record LiesAt (m : Memory) (module_area : Module) (block : ℕ) (p : Parcel) : Type 0 where
  pub lies : Lies (module_heap_in m module_area) 0 p
  pub block_is : block ≡ p.block

-- what a poll hands out
abbrev pub event_of : Parcel → Event
event_of p = record { code = p.code; message = p.message }

-- what is said as it is, or as a task that the desk plays reads it
abbrev pub body_as : Bool → Body → Body
body_as true body = read_body body
body_as false body = body

-- such a message, and what a poll hands out of it
abbrev pub message_as : Bool → Message → Message
message_as played m = record m { body = body_as played m.body }

abbrev pub event_as : Bool → Parcel → Event
event_as played p = record { code = p.code; message = message_as played p.message }

-- ---- edits of entries
-- a block more at the end of the chain
abbrev pub lengthened : ℕ → Entry → Entry
lengthened block e = record e { first = if e.last == 0 then block else e.first; last = block }

-- the first block taken off the chain, where the next one is there or 0
abbrev pub shortened : ℕ → Entry → Entry
shortened next e = record e { first = next; last = if next == 0 then 0 else e.last }

-- no block held
abbrev pub emptied : Entry → Entry
emptied e = record e { held = 0 }

-- ---- edits of queues
-- a handle more, with no messages
abbrev pub joined_chains : ℕ → Chains → Chains
joined_chains h q = record q { entries = q.entries ++ record { handle = h; first = 0; last = 0; held = 0 } ∷ [] }
