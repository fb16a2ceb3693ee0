-- The post that a heap and a queue's entries spell, by a walk along each chain.
use Rattle.std.specs.Prelude.{ℕ, zero, suc, ◌==◌, if◌then◌else◌, List, [], ◌∷◌, ◌++◌, map, filter, Option, Some, None, Result, Ok, Err}
use Rattle.std.specs.Option.{option_map}
use Rattle.rh_defs.specs.declared.sizes.TheConstants.{MOST_MESSAGES}
use Rattle.rh_defs.specs.declared.message.Body.TheVariants.{RamFetch}
use Rattle.rh_defs.specs.declared.message.EventCode.{EventCode}
use Rattle.rh_defs.specs.declared.message.EventCode.TheVariants.{User}
use Rattle.rh_defs.specs.declared.message.Message.{Message}
use Rattle.rh_defs.specs.declared.message.MessageFault.{MessageFault}
use Rattle.rh_defs.specs.Blocks.{block_bytes, poked}
use Rattle.rh_defs.specs.Bytes.{part, word, word_bytes}
use Rattle.rh_defs.specs.Heap.{Heap}
use Rattle.rh_defs.specs.AnyMessage.{any_decoded}
use Rattle.rh_defs.specs.Messages.{Parcel, code_at}
use Rattle.rh_defs.specs.Post.{Seat, Post}
use Rattle.rh_defs.specs.Memory.{Memory}
use Rattle.rh_module.specs.ModuleArea.{module_heap_in}
use Rattle.rh_module.specs.declared.module.Module.{Module}
use Rattle.rh_wimp.specs.Chains.{Chains, SeatRow, row_parcels}
use Rattle.rh_wimp.specs.declared.chain.Entry.{Entry}

-- ---- one block
abbrev pub or_no_bytes : Option (List ℕ) → List ℕ
or_no_bytes None = []
or_no_bytes (Some bytes) = bytes

-- the bytes of a block, none where there is no block
abbrev pub message_bytes : ℕ → Heap → List ℕ
message_bytes block h = or_no_bytes (block_bytes block h)

-- the code 17 stands in for numbers that are no code
abbrev pub or_user : Option EventCode → EventCode
or_user None = User
or_user (Some code) = code

-- a message stands in where bytes spell none
abbrev pub or_no_message : Result Message MessageFault → Message
or_no_message (Ok message) = message
or_no_message (Err fault) = record { from = 0; my_ref = 0; your_ref = 0; body = RamFetch 0 0 }

-- the message for a task that bytes of a block spell: the code in the second word, and the message block
abbrev pub parcel_of_bytes : ℕ → ℕ → List ℕ → Parcel
parcel_of_bytes to block bytes = record {
  code = or_user (code_at (word bytes 4));
  to = to;
  block = block;
  message = or_no_message (any_decoded (part bytes 8 (word bytes 8)));
}

abbrev pub parcel_in : ℕ → ℕ → Heap → Parcel
parcel_in to block h = parcel_of_bytes to block (message_bytes block h)

-- ---- one entry
-- at most n messages for a task, from a block on along the links
abbrev pub chain_in : ℕ → ℕ → ℕ → Heap → List Parcel
chain_in zero to block h = []
chain_in (suc n) to block h = if block == 0 then [] else parcel_in to block h ∷ chain_in n to (word (message_bytes block h) 0) h

-- the message that a task holds in a block, none for block 0
abbrev pub held_in : ℕ → ℕ → Heap → Option Parcel
held_in to block h = if block == 0 then None else Some (parcel_in to block h)

-- what an entry's two chains have: the one of its blocks, and the block that is held
abbrev pub row_in : Heap → Entry → SeatRow
row_in h e = record { handle = e.handle; chain = chain_in MOST_MESSAGES e.handle e.first h; held = held_in e.handle e.held h }

-- ---- all entries
abbrev pub rows_in : Heap → Chains → List SeatRow
rows_in h q = map (row_in h) q.entries

abbrev pub seat_of : SeatRow → Seat
seat_of r = record { handle = r.handle; holds = r.held }

-- the messages of the chains, entry by entry
abbrev pub chains_of : List SeatRow → List Parcel
chains_of [] = []
chains_of (r ∷ rows) = r.chain ++ chains_of rows

-- the messages of the chains and those that are held, entry by entry
abbrev pub parcels_of : List SeatRow → List Parcel
parcels_of [] = []
parcels_of (r ∷ rows) = row_parcels r ++ parcels_of rows

-- the heap with link 0 in the blocks of some messages
abbrev pub unlinked : List Parcel → Heap → Heap
unlinked [] h = h
unlinked (p ∷ ps) h = unlinked ps (poked p.block 0 (word_bytes 0) h)

-- the post: what is queued stands entry by entry, and the links are 0
unfoldable pub post_of : Heap → Chains → Post
post_of h q = record {
  seats = map seat_of (rows_in h q);
  queued = chains_of (rows_in h q);
  heap = unlinked (parcels_of (rows_in h q)) h;
  next_ref = q.next_ref;
}

-- the post that the module area's bytes and the queue's entries spell, whatever bytes they are
abbrev pub post_in : Memory → Module → Chains → Post
post_in m module_area q = post_of (module_heap_in m module_area) q

-- ---- a post in order of seats
-- a message for a task
abbrev pub for_task : ℕ → Parcel → Parcel
for_task to p = record p { to = to }

-- the seat, where what it holds is for its handle
abbrev pub own_seat : Seat → Seat
own_seat s = record s { holds = option_map (for_task s.handle) s.holds }

-- the messages for the first seat, then those for the next one, and so on
abbrev pub by_seats : List Seat → List Parcel → List Parcel
by_seats [] queued = []
by_seats (s ∷ seats) queued = filter (λ (p : Parcel). p.to == s.handle) queued ++ by_seats seats queued

-- the post with its queue in order of seats, and what is held is for the handle that holds it
abbrev pub in_order : Post → Post
in_order post = record post { seats = map own_seat post.seats; queued = by_seats post.seats post.queued }
