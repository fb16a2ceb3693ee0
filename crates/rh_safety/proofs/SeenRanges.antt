-- No poll answers that a range was bad, or that a block was missing.
use Rattle.rh_safety.proofs.Common.{◌≡◌, ◌≢◌, ℕ, ◌+◌, ◌≤◌, Bool, true, false, not, ◌&&◌, ◌||◌, List, [], length, take, Option, Some, None, refl, sym}
use Rattle.rh_safety.proofs.Common.{ap, ◌∙◌, subst, arith, nat_lt, nat_le, ◌==◌, ◌^◌, Ok, Err, is_some, option_map, leb_tells, Refusal, NoBlock}
use Rattle.rh_safety.proofs.Common.{BadRange, NoTask, NoRoom, Busy, Body, EventCode, User, Recorded, Acknowledge, Outcome, Reply, Sending, Taking}
use Rattle.rh_safety.proofs.Common.{Asked, Outgoing, Incoming, Transmit, Part, SaveFile, SendAction, Claim, Append, Next, LoadFile, TakeAction, Granted}
use Rattle.rh_safety.proofs.Common.{◌>>=◌, ◌>>◌, refuse_if, found_or, Split, Heap, Segment, fitted, Parcel, Post, has_seat, post_send, post_poll, Slot}
use Rattle.rh_safety.proofs.Common.{Flex, block_of, flex_address, heap_block_at, slot_block, slot_extend, slot_put, open_of, Desk, Task, Scrap}
use Rattle.rh_safety.proofs.Common.{free_pages, named, task_at, with_delivered, send_letter, Handled, ignored, transmit, fail_sending, save_scrap}
use Rattle.rh_safety.proofs.Common.{send_with, perform_send, accept, appended, fetch_more, took, append, ask, ack_back, loaded, load_file, take_with}
use Rattle.rh_safety.proofs.Common.{perform_take, answers_none, Answer, poll, poll_taken, step, in_anchor, view, blocks_of, buffers_of, task_of, Has}
use Rattle.rh_safety.proofs.Common.{either, put_same, open_is, Offered, Untouched, IsGood, Inv, seen_parcel, field_is, live_of, Fits, bind, done, is_found}
use Rattle.rh_safety.proofs.Common.{instead_of, the_task, OnGrant, granted, granted-then, or_else, or_else-keeps, chosen, IfSome}
use Rattle.rh_defs.specs.declared.refusal.Refusal.TheVariants.{BadSize, NoRefs, QueueFull}
use Rattle.rh_defs.specs.declared.message.Body.TheVariants as body
use Rattle.rh_defs.specs.declared.message.Letter.{Letter}
use Rattle.rh_defs.specs.declared.command.Command.TheVariants as command
use Rattle.rh_defs.specs.declared.transfer.Outgoing.TheVariants as outgoing
use Rattle.rh_defs.specs.declared.transfer.Incoming.TheVariants as incoming
use Rattle.rh_defs.specs.declared.transfer_action.Next.TheVariants as next
use Rattle.rh_defs.specs.declared.transfer_action.Ending.{Ending}
use Rattle.rh_defs.specs.declared.transfer_action.Ending.TheVariants as ending
use Rattle.rh_defs.specs.declared.transfer_action.TakeAction.TheVariants as take_action
use Rattle.rh_defs.specs.declared.transfer_action.SendAction.TheVariants as send_action
use Rattle.rh_defs.specs.Pieces.{lacks_pages}
use Rattle.rh_defs.specs.Heap.{need}
use Rattle.rh_defs.specs.Module.{module_claim}
use Rattle.rh_defs.specs.Post.{most_messages, live_count, sendable}
use Rattle.rh_defs.specs.Slot.{lacks_room, length_with, holds}
use Rattle.rh_defs.specs.Sender as sender
use Rattle.rh_defs.specs.Places.{overlap}
use Rattle.rh_defs.specs.OutgoingEvents.{is_bad_range}
use Rattle.rh_defs.specs.IncomingEvents.{outcome_of_end}
use Rattle.rh_defs.specs.Transfer as transfer
use Rattle.rh_defs.specs.declared.reply.Outcome.TheVariants as outcome
use Rattle.rh_defs.specs.AnyMessage.{as_read}
use Rattle.rh_defs.specs.RawTasks.{is_raw}
use Rattle.rh_safety.specs.RawIds.{Gave}
use Rattle.rh_safety.specs.Buffers.{outcome_refusal, failed_by, takes_raw, HasGoodRanges}
use Rattle.rh_safety.proofs.Keeps.{Stands}
use Rattle.rh_safety.proofs.Masks.{masked, masked_message}
use Rattle.rh_safety.proofs.Raws.{is_known}
use Rattle.rh_safety.specs.Polls.{LosesNoBlock}
use Rattle.rh_safety.proofs.Actions.{bounce-does, if-mapped, load-does, open-does, save-does, transmit-does}
use Rattle.rh_safety.proofs.Polls.{Taken, would_tells}
use Rattle.rh_safety.proofs.SeenBlocks.{extend_is, changed_map}
use Rattle.rh_safety.proofs.SeenHeaps.{length_fitted}
use Rattle.rh_safety.proofs.SeenDocuments.{letter_of, block_there}
use Rattle.rh_safety.proofs.SeenTaking.{poll_taken_is}
use Rattle.rh_safety.proofs.SeenWrites.{buffer_found}
use Rattle.rh_safety.proofs.Ends.{Letter as SeenLetter}
use Rattle.rh_safety.proofs.Sight as sight
use Rattle.rh_safety.proofs.KeptActs.{reaches}
use Rattle.rh_safety.proofs.SeenActs.{Reaches, fetch_in}
use Rattle.rh_safety.proofs.KeptPolls.{Given, given, known_kind, raw_of, read_same}
use Rattle.rh_safety.proofs.SeenLaws.{block_is}

-- ---- answers that name a bad range, or a missing block

-- a missing block, and where it is asked a bad range: a task with code of its own may fetch to where it likes
abbrev is_fault : Bool → Refusal → Bool
is_fault ranges BadRange = ranges
is_fault ranges NoBlock = true
is_fault ranges _ = false

abbrev names_fault : Bool → Option Refusal → Bool
names_fault ranges None = false
names_fault ranges (Some r) = is_fault ranges r

abbrev is_bad_outcome : Bool → Outcome → Bool
is_bad_outcome ranges v = names_fault ranges (outcome_refusal v)

abbrev is_bad_reply : Bool → Reply → Bool
is_bad_reply ranges r = names_fault ranges (failed_by r)

-- ---- calls that don't answer so

-- a chain whose refusal is no fault, and P of what it grants. A data type, so that P is found from a goal
data Sound {A : Type 0} (ranges : Bool) (P : A → Type 0) : Granted A → Type 0 where
  grants : {x : A} → P x → Sound ranges P (Ok x)
  refuses : {r : Refusal} → is_fault ranges r ≡ false → Sound ranges P (Err r)

-- the same, where nothing is said of what it grants
abbrev NoFault : {A : Type 0} → Bool → Granted A → Type 0
NoFault ranges g = Sound ranges (λ x. Unit {0}) g

-- no outcome of a bad range
abbrev Fine : Bool → Handled → Type 0
Fine ranges x = is_bad_outcome ranges x.1 ≡ false

-- the anchor has a block
abbrev There : Slot → ℕ → Type 0
There s k = (bytes : List ℕ) × (blocks_of s k ≡ Some bytes)

-- the source of an action is there, and the buffer that a fetch names
abbrev HasSource : Bool → Desk → Task → SendAction → Type 0
HasSource ranges d t (send_action.Transmit a) =
    There t.slot a.transfer.anchor × (ranges ≡ true → (view d).live a.transfer.recipient ≡ true → Reaches (view d) a)
HasSource ranges d t (send_action.SaveFile a) = There t.slot a.transfer.anchor × Unit {0}
HasSource ranges d t (send_action.Finish x) = There t.slot x.anchor × Unit {0}

-- the document that an action makes longer is there
abbrev HasDocument : Task → TakeAction → Type 0
HasDocument t (take_action.Append a) = There t.slot a.transfer.anchor
HasDocument t (take_action.LoadFile a) = There t.slot a.transfer.anchor
HasDocument t _ = Unit {0}

module _ {ranges : Bool} where
  bind_ok : {A B : Type 0} {P : B → Type 0} {first : Granted A} (next : A → Granted B) → NoFault ranges first →
      ((x : A) → first ≡ Ok x → Sound ranges P (next x)) → Sound ranges P (first >>= next)
  unfolding ◌>>=◌
  bind_ok next (grants {x = x} u) rest = rest x refl
  bind_ok next (refuses none) rest = refuses none

  then_ok : {A B : Type 0} {P : B → Type 0} {first : Granted A} (next : Granted B) → NoFault ranges first → Sound ranges P next → Sound ranges P (first >> next)
  unfolding ◌>>=◌ ◌>>◌
  then_ok next (grants u) rest = rest
  then_ok next (refuses none) rest = refuses none

  refuse_ok : (b : Bool) (s : Refusal) → is_fault ranges s ≡ false → NoFault ranges (refuse_if b s)
  unfolding refuse_if
  refuse_ok true s none = refuses none
  refuse_ok false s none = grants tt

  unless_ok : (b : Bool) (s : Refusal) → b ≡ false → NoFault ranges (refuse_if b s)
  unfolding refuse_if
  unless_ok true s off = absurd (let z : Bool.true ≡ false = off in cc)
  unless_ok false s off = grants tt

  found_ok : {A : Type 0} (o : Option A) (s : Refusal) → is_fault ranges s ≡ false → NoFault ranges (found_or o s)
  unfolding found_or
  found_ok None s none = refuses none
  found_ok (Some x) s none = grants tt

  claim_ok : (free n : ℕ) (h : Heap) → NoFault ranges (module_claim free n h)
  unfolding module_claim
  claim_ok free n h =
      bind_ok _ (refuse_ok (n == 0) BadSize refl) λ u e. bind_ok _ (refuse_ok (lacks_pages free (need n h)) NoRoom refl) λ u e. grants tt

  sendable_ok : (l : Letter) (p : Post) → NoFault ranges (sendable l p)
  unfolding sendable
  sendable_ok l p =
      then_ok _ (refuse_ok (not (has_seat l.to p.seats)) NoTask refl)
      (then_ok _ (refuse_ok (nat_le (2 ^ 32) p.next_ref) NoRefs refl) (refuse_ok (nat_le most_messages (live_count p)) QueueFull refl))

  post_ok : (free : ℕ) (l : Letter) (p : Post) → NoFault ranges (post_send free l p)
  unfolding post_send
  post_ok free l p = then_ok _ (sendable_ok l p) (bind_ok _ (claim_ok free _ p.heap) λ x e. grants tt)

  send_ok : (l : Letter) (d : Desk) → NoFault ranges (send_letter l d)
  unfolding send_letter
  send_ok l d = bind_ok _ (post_ok (free_pages d) l d.post) λ x e. grants tt

  block_ok : (k : ℕ) (s : Slot) → There s k → NoFault ranges (slot_block k s)
  unfolding slot_block found_or
  block_ok k s there = go (block_of k s) refl
    where
      go : (o : Option (Split Flex)) → block_of k s ≡ o → NoFault ranges (found_or o NoBlock)
      go None e =
          let lost : None ≡ Some there.0 = ap (option_map (λ (b : Split Flex). b.here.bytes)) (sym e) ∙ sym (block_is s k) ∙ there.1 in
          absurd cc
      go (Some b) e = grants tt

  extend_ok : (free k n : ℕ) (s : Slot) → There s k → NoFault ranges (slot_extend free k n s)
  unfolding slot_extend
  extend_ok free k n s there =
      bind_ok _ (block_ok k s there) λ b e. bind_ok _ (refuse_ok (lacks_room free (length_with b n s) s) NoRoom refl) λ u e. grants tt

  -- bytes that fit are put
  put_ok : (k offset : ℕ) (bytes document : List ℕ) (s : Slot) → blocks_of s k ≡ Some document →
      offset + length bytes ≤ length document → NoFault ranges (slot_put k offset bytes s)
  unfolding slot_put
  put_ok k offset bytes document s there fits =
      bind_ok _ (block_ok k s (document, there)) λ b e.
      let one : Some document ≡ Some b.here.bytes = sym there ∙ block_there k s b e in
      let same : document ≡ b.here.bytes = cc in
      let less : nat_lt (length b.here.bytes) (offset + length bytes) ≡ false = grind (
        arith,
        leb_tells,
        ap (λ (v : List ℕ). length v) same,
      ) in
      bind_ok _ (unless_ok _ BadRange less) λ u e. grants tt

  appended_ok : (d : Desk) (t : Task) (k : ℕ) (bytes : List ℕ) → There t.slot k → NoFault ranges (appended d t k bytes)
  unfolding appended
  appended_ok d t k bytes there =
      bind_ok _ (block_ok k t.slot there) λ b e. bind_ok _ (extend_ok (free_pages d) k _ t.slot there) λ longer e1.
      let w = extend_is (free_pages d) k (length b.here.bytes + length bytes) t.slot longer e1 in
      let new : List ℕ = fitted (length b.here.bytes + length bytes) w.cut.here.bytes in
      bind_ok _ (put_ok k (length b.here.bytes) bytes new longer (changed_map w k ∙ put_same (blocks_of t.slot) k (Some new))
      (let z = length_fitted (length b.here.bytes + length bytes) w.cut.here.bytes in omega arith)) λ s e2. grants tt

-- ---- handlers

module _ (ranges : Bool) where
  -- a chain, with what stands in its place where it is refused
  fine_or : {g : Granted Handled} (instead : Refusal → Handled) → Sound ranges (Fine ranges) g
      → ((r : Refusal) → is_fault ranges r ≡ false → Fine ranges (instead r)) →
      Fine ranges (or_else g instead)
  unfolding or_else
  fine_or instead (grants fine) outcome_of_end = fine
  fine_or instead (refuses {r = r} none) outcome_of_end = outcome_of_end r none

  module _ (d : Desk) (t : Task) where
    -- ---- the sender

    fail_fine : (v : Option Sending) → Fine ranges (fail_sending d t v)
    unfolding fail_sending
    fail_fine None = refl
    fail_fine (Some x) = refl

    -- a range is asked where bad ranges are
    range_ok : (c : Bool) → (ranges ≡ true → c ≡ false) → NoFault ranges (refuse_if c BadRange)
    range_ok c off = go ranges refl
      where
        go : (b : Bool) → ranges ≡ b → NoFault ranges (refuse_if c BadRange)
        go true q = unless_ok c BadRange (off q)
        go false q = refuse_ok c BadRange q

    transmit_fine : (a : Transmit) (source : Split Flex) →
        (ranges ≡ true → (view d).live a.transfer.recipient ≡ true → Reaches (view d) a) →
        Sound ranges (Fine ranges) (transmit d t a source)
    unfolding transmit
    transmit_fine a source reach =
        let p : Part = sender.next_part a (length source.here.bytes) in
        let place : ℕ = flex_address t.slot source.before + p.offset in
        bind_ok _ (found_ok (task_at a.transfer.recipient d) NoTask refl) λ r e.
        then_ok _ (range_ok (is_bad_range t r a.buffer a.room place p.n) (λ on.
        let to : task_of a.transfer.recipient d.tasks ≡ Some r = is_found (task_at a.transfer.recipient d) NoTask r e in
        let range = reach on (live_of d a.transfer.recipient r to) in
        let w = buffer_found a.buffer a.room r.slot range.old (ap (λ (g : ℕ → Option (List ℕ)). g a.buffer)
        (sym (field_is (λ y. buffers_of y.slot) (λ a. None) a.transfer.recipient d.tasks r to)) ∙ range.there) range.fits
        (heap_block_at a.buffer r.slot) refl in
        ap (λ (o : Option (Split Segment)). not (is_some o) && (not (holds a.buffer a.room r.slot) || (t.handle ==
        r.handle && overlap a.buffer a.room place p.n))) w.found))
        (bind_ok _ (send_ok _ d) λ sent e. grants refl)

    save_fine : (a : SaveFile) (source : Split Flex) → Sound ranges (Fine ranges) (save_scrap d t a source)
    unfolding save_scrap
    save_fine a source =
        then_ok _ (refuse_ok (is_some d.scrap) Busy refl) (then_ok _ (sendable_ok _ d.post)
        (then_ok _ (refuse_ok _ NoRoom refl) (bind_ok _ (send_ok _ _) λ sent e. grants refl)))

    send_fine : (a : SendAction) (source : Split Flex) → HasSource ranges d t a → Sound ranges (Fine ranges) (send_with d t a source)
    unfolding send_with
    send_fine (send_action.Transmit a) source has = transmit_fine a source has.1
    send_fine (send_action.SaveFile a) source has = save_fine a source
    send_fine (send_action.Finish x) source has = grants refl

    source_of : (a : SendAction) → HasSource ranges d t a → There t.slot (sender.transfer_of a).anchor
    source_of (send_action.Transmit a) has = has.0
    source_of _ has = has.0

    perform_send_fine : (o : Option SendAction) → IfSome o (HasSource ranges d t) → Fine ranges (perform_send d t o)
    unfolding perform_send
    perform_send_fine None has = refl
    perform_send_fine (Some a) has =
        fine_or _ (bind_ok _ (block_ok _ t.slot (source_of a has)) λ source e. send_fine a source has) (λ r q. q)

    -- ---- the receiver

    accept_fine : (a : Claim) → OnGrant (Fine ranges) (accept d t a)
    unfolding accept
    accept_fine a =
        granted-then _ _ λ k e. granted-then _ _ λ b e. granted-then _ _ λ p e. granted-then _ _ λ sent e. granted refl

    took_fine : (a : Append) (b : Next) → Fine ranges (took d t a b)
    unfolding took fetch_more
    took_fine a next.Finish = refl
    took_fine a (next.Fetch b) = fine_or _ (bind_ok _ (send_ok _ d) λ sent e. grants refl) (λ r q. q)

    ask_fine : (f : Taking) → Sound ranges (Fine ranges) (ask d t f)
    unfolding ask
    ask_fine f = bind_ok _ (send_ok _ d) λ sent e. grants refl

    ack_back_fine : (v : Option Asked) → Fine ranges (ack_back d t v)
    unfolding ack_back
    ack_back_fine None = refl
    ack_back_fine (Some q) = refl

    loaded_fine : (a : LoadFile) (n : ℕ) → Fine ranges (loaded d t a n)
    unfolding loaded
    loaded_fine a n = fine_or _ (bind_ok _ (send_ok _ d) λ sent e. grants refl) (λ r q. q)

  module _ (d : Desk) (t : Task) where
    append_fine : (a : Append) → There t.slot a.transfer.anchor → Fine ranges (append d t a)
    unfolding append
    append_fine a there =
        fine_or _ (bind_ok _ (appended_ok d t a.transfer.anchor _ there) λ after e. grants (took_fine after t a a.next)) (λ r q. q)

    file_fine : (a : LoadFile) (o : Option Scrap) → There t.slot a.transfer.anchor → Fine ranges (load_file d t a o)
    unfolding load_file
    file_fine a None there = refl
    file_fine a (Some file) there =
        chosen (Fine ranges) (file.load == a.answers) _ _
        (fine_or _ (bind_ok _ (appended_ok d t a.transfer.anchor file.bytes there) λ after e.
        grants (loaded_fine (record after { scrap = None }) t a _)) (λ r q. q)) refl

    ending_fine : (e : Ending) → is_bad_outcome ranges (outcome_of_end e) ≡ false
    ending_fine ending.Drained = refl
    ending_fine _ = refl

    take_fine : (a : TakeAction) → HasDocument t a → Fine ranges (take_with d t a)
    unfolding take_with
    take_fine (take_action.Claim a) has = or_else-keeps (Fine ranges) _ (accept_fine d t a) (λ r. refl)
    take_fine (take_action.Append a) has = append_fine a has
    take_fine (take_action.AskForFile f) has = fine_or _ (ask_fine d t f) (λ r q. q)
    take_fine (take_action.LoadFile a) has = file_fine a d.scrap has
    take_fine (take_action.Release a) has = ending_fine a.ending

    perform_take_fine : (o : Option TakeAction) → IfSome o (HasDocument t) → Fine ranges (perform_take d t o)
    unfolding perform_take
    perform_take_fine None has = refl
    perform_take_fine (Some a) has = take_fine a has

    -- ---- a message that came back

    bounced_to_fine : (m : Parcel) (b : Body) → Fine ranges (transfer.bounced_to d t m b)
    unfolding transfer.bounced_to
    bounced_to_fine m (body.Other other) = refl
    bounced_to_fine m (body.DataSave file) = fail_fine d t _
    bounced_to_fine m (body.DataSaveAck file) = ack_back_fine d t _
    bounced_to_fine m (body.DataLoad file) = fail_fine d t _
    bounced_to_fine m (body.DataLoadAck file) = refl
    bounced_to_fine m (body.RamFetch buffer amount) =
        perform_take_fine _ (bounce-does (HasDocument t) t.taking _ (λ f has. tt) (λ f e has. tt))
    bounced_to_fine m (body.RamTransmit buffer n) = fail_fine d t _

  -- ---- a poll

  -- what a record names is there
  block_there_in : (d : Desk) (t : Task) (is : task_of t.handle d.tasks ≡ Some t) (k : ℕ) (bytes : List ℕ) →
      (view d).block t.handle k ≡ Some bytes → There t.slot k
  block_there_in d t is k bytes q = (
    bytes,
    ap (λ (f : ℕ → Option (List ℕ)). f k) (sym (field_is (λ y. blocks_of y.slot) (λ a. None) t.handle d.tasks t is)) ∙ q,
  )

  module _ {o : Offered} {e : ℕ → ℕ → Bool} (R : Gave) (d : Desk) (t : Task) (m : Parcel) where
    source_there : (is : task_of t.handle d.tasks ≡ Some t) → Inv o e (masked R (view d)) → (x : Sending) → Has (outgoing.Open x) t.sending →
        There t.slot x.anchor
    source_there is inv x has =
        let s = inv.outs.source t.handle x
        (subst (λ (y : List Outgoing). Has (outgoing.Open x) y) (sym (field_is (λ y. y.sending) [] t.handle d.tasks t is)) has) in
        block_there_in d t is x.anchor s.all s.there

    document_there : (is : task_of t.handle d.tasks ≡ Some t) → Inv o e (masked R (view d)) → (w : Incoming) → Has w t.taking →
        Untouched (e t.handle) w → IsGood o w ((view d).block t.handle (in_anchor w))
    document_there is inv w has un = inv.ins.good t.handle w (subst (λ (y : List Incoming). Has w y)
        (sym (field_is (λ y. y.taking) [] t.handle d.tasks t is)) has) un

    fetching_there : (is : task_of t.handle d.tasks ≡ Some t) → Inv o e (masked R (view d)) → (f : Taking) → Has (incoming.Fetching f) t.taking →
        There t.slot f.anchor
    fetching_there is inv f has =
        let s = document_there is inv (incoming.Fetching f) has tt in
        block_there_in d t is f.anchor (take f.count s.all) s.there

    asking_there : (is : task_of t.handle d.tasks ≡ Some t) → Inv o e (masked R (view d)) → (x : Asked) → Has (incoming.Asking x) t.taking →
        There t.slot x.anchor
    asking_there is inv x has =
        let s = document_there is inv (incoming.Asking x) has tt in
        block_there_in d t is x.anchor (take 0 s.all) s.there

    -- the message is the desk's own where its range is asked, and its sender lives
    delivered_fine : (is : task_of t.handle d.tasks ≡ Some t) (b : Body) → Inv o e (masked R (view d)) →
        (ranges ≡ true → (view d).live m.message.from ≡ true → Taken o e (masked R (view d)) t.handle (letter_of m b)) →
        Fine ranges (transfer.delivered d t m b)
    unfolding transfer.delivered
    delivered_fine is (body.Other other) inv own = refl
    delivered_fine is (body.DataSave file) inv own = perform_take_fine d t _ (save-does (HasDocument t) t.taking _ _ _ _ tt)
    delivered_fine is (body.DataSaveAck file) inv own =
        perform_send_fine d t _
        (open-does (HasSource ranges d t) t.sending (sender.file_for m.message.from m.message.my_ref) _ (λ x has p. (source_there is inv x has, tt)))
    delivered_fine is (body.DataLoad file) inv own =
        perform_take_fine d t _ (load-does (HasDocument t) t.taking _ _ _ (λ x has p. asking_there is inv x has))
    delivered_fine is (body.DataLoadAck file) inv own =
        perform_send_fine d t _ (open-does (HasSource ranges d t) t.sending send_action.Finish _ (λ x has p. (source_there is inv x has, tt)))
    delivered_fine is (body.RamFetch buffer amount) inv own =
        let test : Sending → Bool = sight.would_answer (fetch_in m buffer amount) in
        either (Fine ranges) (answers_none t.manner) (ignored d) _ (λ y. refl) (λ y.
        perform_send_fine d t _ (if-mapped (HasSource ranges d t) (sender.transmit_for m.message.from m.message.my_ref buffer amount)
        (open_of test t.sending)
        (λ x q. let w = open_is test t.sending x q in (
          source_there is inv x w.0,
          λ on lives.
              let from : m.message.from ≡ x.recipient = (would_tells x (fetch_in m buffer amount) w.1).from in
              reaches R (λ k. false) d t m is buffer amount (own on (subst (λ k. (view d).live k ≡ true) (sym from) lives)) x w.0 y w.1 lives,
        ))))
    delivered_fine is (body.RamTransmit buffer n) inv own =
        perform_take_fine d t _
        (transmit-does (HasDocument t) t.taking _ _ _ _ _ _ (λ f has. fetching_there is inv f has) (λ f e has. tt))

  module _ {o : Offered} {e : ℕ → ℕ → Bool} {R : Gave} {H : ℕ → Bool} (d : Desk) (t : Task) (m : Parcel) (w : Given o e R H d t m)
      (mine : ranges ≡ true → (view d).live m.message.from ≡ true → R m.message.my_ref ≡ false) where
    -- a message of the desk's own, as it is read
    own_letter : (m.code ≡ Acknowledge → ⊥) → R m.message.my_ref ≡ false →
        Taken o e (masked R (view d)) t.handle (letter_of (as_read m) (as_read m).message.body)
    own_letter ne own =
        let seen : (masked_message R (seen_parcel m)).letter ≡ letter_of m m.message.body = rw own refl in
        let same = read_same m (known_kind m.message.body (ap (λ (z : SeenLetter). is_known z.kind) (sym seen) ∙ w.kind)) in
        subst (λ (z : Parcel). Taken o e (masked R (view d)) t.handle (letter_of z z.message.body)) (sym same)
        (subst (λ z. Taken o e (masked R (view d)) t.handle z) seen (w.came ne))

    read_fine : (m.code ≡ Acknowledge → ⊥) → Fine ranges (transfer.delivered d t (as_read m) (as_read m).message.body)
    read_fine ne = delivered_fine R d t (as_read m) w.is (as_read m).message.body (w.came ne).inv (λ on lives. own_letter ne (mine on lives))

    handled_fine : (c : EventCode) → m.code ≡ c → Fine ranges (transfer.handled d t (as_read m) c)
    unfolding transfer.handled
    handled_fine User q = read_fine (λ z. let y : User ≡ Acknowledge = sym q ∙ z in (cc))
    handled_fine Recorded q = read_fine (λ z. let y : Recorded ≡ Acknowledge = sym q ∙ z in (cc))
    handled_fine Acknowledge q = bounced_to_fine d t (as_read m) (as_read m).message.body

  poll_fine : {o : Offered} {e : ℕ → ℕ → Bool} {R : Gave} (d : Desk) (t : Task) → Fits d → task_of t.handle d.tasks ≡ Some t →
      Stands o e R (view d) → (ranges ≡ true → takes_raw (post_poll t.handle d.post).1 d ≡ false) →
      is_bad_reply ranges (poll_taken (with_delivered (post_poll t.handle d.post).0 d) t (post_poll t.handle d.post).1).1 ≡ false
  unfolding poll_taken with_delivered
  poll_fine {o} {e} {R} d t f is g own = go (post_poll t.handle d.post).1 refl
    where
      go : (v : Option Parcel) → (post_poll t.handle d.post).1 ≡ v →
          is_bad_reply ranges (poll_taken (with_delivered (post_poll t.handle d.post).0 d) t v).1 ≡ false
      go None q = refl
      go (Some m) q =
          let w = given d t f is g (post_poll t.handle d.post) (f.polled t.handle) (poll_taken_is d t.handle f (live_of d t.handle t is)) m q in
          either (λ (x : Handled). Fine ranges x) (is_raw t.manner) (with_delivered (post_poll t.handle d.post).0 d, outcome.Taken) _
          (λ its. refl) (λ plays.
          handled_fine (with_delivered (post_poll t.handle d.post).0 d) t m w (λ on lives.
          w.sender ∙ sym (raw_of (task_of m.message.from d.tasks) ∙ w.raws.manners m.message.from lives) ∙
          subst (λ v. takes_raw v d ≡ false) q (own on)) m.code refl)

  never_bad : {o : Offered} {e : ℕ → ℕ → Bool} {R : Gave} (d : Desk) (name : List ℕ) → Fits d → Stands o e R (view d) →
      ((t : Task) → named name d ≡ Ok t → ranges ≡ true → takes_raw (post_poll t.handle d.post).1 d ≡ false) →
      is_bad_reply ranges (step d (command.Poll name)).1 ≡ false
  unfolding poll
  never_bad d name f g own =
      bind (λ (a : Answer). is_bad_reply ranges a.1 ≡ false) (named name d) _ (instead_of d) (λ r. refl) (λ t q.
      done (λ (a : Answer). is_bad_reply ranges a.1 ≡ false) _ (instead_of d) (
      poll_fine d t f (the_task d name t f q) g (own t q)))

  -- an answer that isn't bad is not this one
  not_bad : (fault : Refusal) → is_fault ranges fault ≡ true → (v : Option Refusal) → names_fault ranges v ≡ false → v ≢ Some fault
  not_bad fault is None q e = cc
  not_bad fault is (Some r) q e =
      let z : r ≡ fault = cc in
      let y : is_fault ranges fault ≡ false = subst (λ x. is_fault ranges x ≡ false) z q in
      let no : Bool.true ≡ false = sym is ∙ y in cc

pub good_ranges : {o : Offered} {e : ℕ → ℕ → Bool} {R : Gave} (d : Desk) → Fits d → Stands o e R (view d) → HasGoodRanges d
good_ranges d f g name own = not_bad true BadRange refl _ (never_bad true d name f g (λ t q on. own t q))

pub no_lost_blocks : {o : Offered} {e : ℕ → ℕ → Bool} {R : Gave} (d : Desk) → Fits d → Stands o e R (view d) → LosesNoBlock d
no_lost_blocks d f g name = not_bad false NoBlock refl _ (never_bad false d name f g (λ t q on. let z : Bool.false ≡ true = on in absurd (cc)))
