-- The post: messages queued and held, each in a block of the module area's heap. Read Module, Blocks and Messages
-- first. h is a handle, or a heap where a type says that; s a seat, p a message in its block, l a letter, t a message
-- taken out of a queue with what is left of the queue, there a heap and the address of a block that was claimed in it.
-- A message is queued until its task polls. A recorded one is then held until the task answers, or polls again.
use Rattle.std.specs.Prelude.{ℕ, ◌+◌, ◌^◌, Bool, true, false, not, nat_le, ◌==◌, ◌||◌, if◌then◌else◌, List, [], ◌∷◌, ◌++◌, length, filter, Option, Some, None, Ok}
use Rattle.std.specs.List.{list_any}
use Rattle.rh_defs.specs.declared.refusal.Refusal.TheVariants.{NoTask, NoRefs, QueueFull}
use Rattle.rh_defs.specs.declared.sizes.TheConstants.{MOST_MESSAGES}
use Rattle.rh_defs.specs.Chain.{Granted, ◌>>=◌, ◌>>◌, refuse_if}
use Rattle.rh_defs.specs.Pieces.{total}
use Rattle.rh_defs.specs.Heap.{Heap, release_block}
use Rattle.rh_defs.specs.Module.{module_claim, module_need_pages}
use Rattle.rh_defs.specs.Blocks.{poked}
use Rattle.rh_defs.specs.Messages.{Parcel, is_recorded, parcel_bytes, parcel_size}
use Rattle.rh_defs.specs.declared.message.EventCode.TheVariants.{Acknowledge}
use Rattle.rh_defs.specs.declared.message.Message.{Message}
use Rattle.rh_defs.specs.declared.message.Letter.{Letter}

-- a live handle, and the message that it holds
pub record Seat : Type 0 where
  pub handle : ℕ
  pub holds : Option Parcel

-- the seats in order of handle, the queue, the module area's heap and the next ref
pub record Post : Type 0 where
  pub seats : List Seat
  pub queued : List Parcel
  pub heap : Heap
  pub next_ref : ℕ

-- at most so many messages are queued and held
abbrev pub most_messages : ℕ
most_messages = MOST_MESSAGES

-- ---- who is there, who holds what
-- whether the handle is live
abbrev pub has_seat : ℕ → List Seat → Bool
has_seat h [] = false
has_seat h (s ∷ seats) = if s.handle == h then true else has_seat h seats

-- the message that the task holds
abbrev pub held_by : ℕ → List Seat → Option Parcel
held_by h [] = None
held_by h (s ∷ seats) = if s.handle == h then s.holds else held_by h seats

-- the seats, where this one holds that
abbrev pub with_held : ℕ → Option Parcel → List Seat → List Seat
with_held h held [] = []
with_held h held (s ∷ seats) = if s.handle == h then record s { holds = held } ∷ seats else s ∷ with_held h held seats

abbrev pub count_held : Option Parcel → ℕ
count_held None = 0
count_held (Some p) = 1

-- how many messages are queued and held
abbrev pub live_count : Post → ℕ
live_count post = length post.queued + total (λ (s : Seat). count_held s.holds) post.seats

abbrev pub holds_such : (Parcel → Bool) → Option Parcel → Bool
holds_such test None = false
holds_such test (Some p) = test p

-- whether a message that is queued or held passes the test
abbrev pub has_message : (Parcel → Bool) → Post → Bool
has_message test post = list_any test post.queued || list_any (λ (s : Seat). holds_such test s.holds) post.seats

-- whether a message lies in the block
unfoldable pub post_is_message : ℕ → Post → Bool
post_is_message block post = has_message (λ (p : Parcel). p.block == block) post

-- whether the message with the ref is queued or held
unfoldable pub post_is_live : ℕ → Post → Bool
post_is_live ref post = has_message (λ (p : Parcel). p.message.my_ref == ref) post

-- a new seat
unfoldable pub post_join : ℕ → Post → Post
post_join h post = record post { seats = post.seats ++ record { handle = h; holds = None } ∷ [] }

-- ---- sending
-- the message of a letter, with its ref
abbrev pub message_of : Letter → ℕ → Message
message_of l ref = record { from = l.from; my_ref = ref; your_ref = l.your_ref; body = l.body }

-- the message of a letter, with its ref, in a block
abbrev pub parcel_of : Letter → ℕ → ℕ → Parcel
parcel_of l ref block = record { code = l.code; to = l.to; block = block; message = message_of l ref }

-- whether a letter answers the message that is held
abbrev pub answers_held : ℕ → Option Parcel → Bool
answers_held ref held = holds_such (λ (p : Parcel). p.message.my_ref == ref) held

-- the block of a message is released
abbrev pub release_held : Option Parcel → Heap → Heap
release_held None h = h
release_held (Some p) h = release_block p.block h

-- the task holds no more what it held
abbrev pub put_down : ℕ → Post → Post
put_down h post = record post { seats = with_held h None post.seats; heap = release_held (held_by h post.seats) post.heap }

-- the letter goes to the end of the queue, in a block that was claimed
abbrev pub queued_in : Letter → Heap × ℕ → Post → Post
queued_in l there post = record {
  seats = post.seats;
  queued = post.queued ++ parcel_of l post.next_ref there.1 ∷ [];
  heap = poked there.1 0 (parcel_bytes 0 (parcel_of l post.next_ref there.1)) there.0;
  next_ref = post.next_ref + 1;
}

-- and the message that it answers is put down
abbrev pub posted : Letter → Heap × ℕ → Post → Post
posted l there post =
    if answers_held l.your_ref (held_by l.from post.seats) then put_down l.from (queued_in l there post)
    else queued_in l there post

-- refused where the letter can't be sent, whatever room there is
unfoldable pub sendable : Letter → Post → Granted (Unit {0})
sendable l post = do
  refuse_if (not (has_seat l.to post.seats)) NoTask
  refuse_if (nat_le (2 ^ 32) post.next_ref) NoRefs
  refuse_if (nat_le most_messages (live_count post)) QueueFull

-- the letter is sent, where so many pages are free, and the module area grows where it must: the post, and the letter's ref
unfoldable pub post_send : ℕ → Letter → Post → Granted (Post × ℕ)
post_send free l post = do
  sendable l post
  there ← module_claim free (parcel_size (message_of l 0)) post.heap
  Ok (posted l there post, post.next_ref)

-- the pages that the send would take
unfoldable pub post_send_pages : Letter → Post → Granted ℕ
post_send_pages l post = do
  sendable l post
  module_need_pages (parcel_size (message_of l 0)) post.heap

-- ---- bouncing, polling and dying
-- back to its sender, in the same block
abbrev pub as_returned : Parcel → Parcel
as_returned p = record p { code = Acknowledge; to = p.message.from }

-- a message's block away
abbrev pub without_block : Parcel → Post → Post
without_block p post = record post { heap = release_block p.block post.heap }

-- the message goes to the end of the queue as one that came back, or vanishes where its sender isn't live
abbrev pub bounced : Parcel → Post → Post
bounced p post =
    if has_seat p.message.from post.seats
    then record post {
      queued = post.queued ++ as_returned p ∷ [];
      heap = poked p.block 0 (parcel_bytes 0 (as_returned p)) post.heap;
    }
    else without_block p post

abbrev pub bounce_held : ℕ → Option Parcel → Post → Post
bounce_held h None post = post
bounce_held h (Some p) post = bounced p (record post { seats = with_held h None post.seats })

abbrev pub behind_first : Parcel → Option (Parcel × List Parcel) → Option (Parcel × List Parcel)
behind_first p None = None
behind_first p (Some t) = Some (t.0, p ∷ t.1)

-- the first message for a handle, and the others
abbrev pub first_for : ℕ → List Parcel → Option (Parcel × List Parcel)
first_for h [] = None
first_for h (p ∷ queue) = if p.to == h then Some (p, queue) else behind_first p (first_for h queue)

-- a recorded message is held; the block of any other is released
abbrev pub held_or_released : ℕ → Parcel → Post → Post
held_or_released h p post =
    if is_recorded p.code then record post { seats = with_held h (Some p) post.seats } else without_block p post

abbrev pub taken_from : ℕ → Option (Parcel × List Parcel) → Post → Post × Option Parcel
taken_from h None post = (post, None)
taken_from h (Some t) post = (held_or_released h t.0 (record post { queued = t.1 }), Some t.0)

-- the first message for the handle is taken
abbrev pub taken : ℕ → Post → Post × Option Parcel
taken h post = taken_from h (first_for h post.queued) post

-- what the task holds bounces, and then the first message for it is taken
unfoldable pub post_poll : ℕ → Post → Post × Option Parcel
post_poll h post = taken h (bounce_held h (held_by h post.seats) post)

-- recorded messages bounce in order, the others vanish
abbrev pub bounce_all : List Parcel → Post → Post
bounce_all [] post = post
bounce_all (p ∷ queue) post = bounce_all queue (if is_recorded p.code then bounced p post else without_block p post)

-- the end of a handle, which isn't live for the bounces of its own death: what it holds bounces, then what is queued for it
unfoldable pub post_death : ℕ → Post → Post
post_death h post =
    bounce_all (filter (λ (p : Parcel). p.to == h) post.queued)
    (bounce_held h (held_by h post.seats) (record post {
      seats = filter (λ (s : Seat). not (s.handle == h)) post.seats;
      queued = filter (λ (p : Parcel). not (p.to == h)) post.queued;
    }))
