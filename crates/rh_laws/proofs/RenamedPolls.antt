-- A poll does to a desk with its bytes renamed the same.
use Rattle.rh_laws.proofs.Common.{◌≡◌, ℕ, ◌+◌, List, length, map, refl, sym, ap, subst, ◌∙◌, length-map, take-map, drop-map, Option, Some, None}
use Rattle.rh_laws.proofs.Common.{is_some, Ok, ◌==◌, ◌&&◌, ◌||◌, not, nat_lt, take, drop, option_map, Refusal, NoTask, BadRange, AnchorInUse, Busy}
use Rattle.rh_laws.proofs.Common.{NoRoom, EventCode, User, Recorded, Acknowledge, Body, Letter, Outcome, Sending, Taking, Asked, Incoming, Transmit}
use Rattle.rh_laws.proofs.Common.{Part, SaveFile, SendAction, Claim, Append, Fetch, Next, LoadFile, TakeAction, Granted, ◌>>=◌, ◌>>◌, refuse_if}
use Rattle.rh_laws.proofs.Common.{found_or, Split, Slot, Flex, flex_address, heap_block_at, slot_alloc, slot_extend, slot_put, slot_claim, Parcel}
use Rattle.rh_laws.proofs.Common.{post_poll, Desk, Task, Scrap, next_ref, free_pages, task_at, with_task, with_slot, with_sending, with_taking}
use Rattle.rh_laws.proofs.Common.{with_delivered, send_letter, buffer_at, written_in, Handled, transmit, refused, fail_sending, save_scrap, send_with}
use Rattle.rh_laws.proofs.Common.{perform_send, without_buffer, taking_ended, accept, append, appended, fetch_more, took, ask, ack_back, loaded}
use Rattle.rh_laws.proofs.Common.{load_file, take_with, perform_take, answers_none, delivered, bounced_to, handled, event, poll_taken, poll, Follows}
use Rattle.rh_laws.proofs.Common.{follows-then, follows-equal, follows-as}
use Rattle.rh_defs.specs.declared.message.Body.TheVariants.{DataSave, DataSaveAck, DataLoad, DataLoadAck, RamFetch, RamTransmit, Other}
use Rattle.rh_defs.specs.declared.reply.Outcome.TheVariants as outcome
use Rattle.rh_defs.specs.declared.transfer_action.SendAction.TheVariants as send_action
use Rattle.rh_defs.specs.declared.transfer_action.TakeAction.TheVariants as take_action
use Rattle.rh_defs.specs.declared.transfer_action.Next.TheVariants as next_action
use Rattle.rh_defs.specs.Slot.{holds, anchor_count}
use Rattle.rh_defs.specs.Letters.{fetch_letter, transmit_letter, load_letter}
use Rattle.rh_defs.specs.Post.{sendable}
use Rattle.rh_defs.specs.Sender as sender
use Rattle.rh_defs.specs.Receiver as receiver
use Rattle.rh_defs.specs.AnyMessage.{as_read}
use Rattle.rh_defs.specs.IncomingEvents.{is_deaf}
use Rattle.rh_defs.specs.Places.{overlap, first_bytes}
use Rattle.rh_defs.specs.RawTasks.{is_raw, is_raw_at}
use Rattle.rh_defs.specs.OutgoingEvents.{is_bad_range, scrap_shortage, wider}
use Rattle.rh_defs.proofs.Follows.{or_else-follows, chosen-both}
use Rattle.rh_laws.specs.Renaming.{renamed_slot, renamed_task, renamed_scrap, renamed}
use Rattle.rh_laws.proofs.RenamedParts.{By, follows-by, found-by}
use Rattle.rh_laws.proofs.RenamedHeaps.{renamed_cut}
use Rattle.rh_laws.proofs.RenamedSlots.{renamed_here, renamed_given, some-map, address-renamed, holds-renamed, free_from-renamed, heap_block_at-renamed}
use Rattle.rh_laws.proofs.RenamedSlots.{buffer_at-renamed, written_in-renamed, first_bytes-renamed, slot_block-renamed, slot_put-renamed}
use Rattle.rh_laws.proofs.RenamedSlots.{slot_release-renamed, slot_alloc-renamed, slot_extend-renamed, slot_claim-renamed}
use Rattle.rh_laws.proofs.RenamedDesks.{renamed_with, result-by, free-renamed, raw-renamed, where-free, named-renamed, task_at-renamed, with_task-renamed}
use Rattle.rh_laws.proofs.RenamedDesks.{with_slot-renamed, with_delivered-renamed, send_letter-renamed}

-- a transmit of a part from a place, of a source with these bytes
abbrev transmit_of : Desk → Task → Transmit → Part → ℕ → List ℕ → Granted Handled
transmit_of d t a p place bytes = do
  r ← found_or (task_at a.transfer.recipient d) NoTask
  refuse_if (is_bad_range t r a.buffer a.room place p.n) BadRange
  sent ← send_letter (transmit_letter t.handle a p) d
  Ok (
    with_sending t.handle (sender.sent a p (next_ref d))
        (with_task r.handle (λ r. record r {
          slot = written_in a.buffer (take p.n (drop p.offset bytes)) (buffer_at a.buffer a.room r.slot) r.slot;
        }) sent),
    outcome.Sent p.n (next_ref d),
  )

-- the scrap file of n bytes, which takes so many more pages
abbrev save_scrap_of : Desk → Task → SaveFile → ℕ → List ℕ → Granted Handled
save_scrap_of d t a n bytes = do
  refuse_if (is_some d.scrap) Busy
  sendable (load_letter t.handle a n) d.post
  refuse_if (nat_lt (free_pages d) (scrap_shortage n d)) NoRoom
  sent ← send_letter (load_letter t.handle a n) (wider (scrap_shortage n d) d)
  Ok (
    with_sending t.handle (sender.saved a (next_ref d)) (record sent { scrap = Some (record { load = next_ref d; bytes = bytes }) }),
    outcome.Saved n (next_ref d),
  )

module _ (f : ℕ → ℕ) (zero-is : f 0 ≡ 0) where
  abbrev Same : Handled → Handled → Type 0
  Same x y = By (renamed_with f) x y

  abbrev After : Granted Handled → Granted Handled → Type 0
  After x y = Follows (By (renamed_with f)) x y

  -- an edit of a task's records
  edited : (h : ℕ) (edit other : Task → Task) (d : Desk) (o : Outcome) → ((t : Task) → other (renamed_task f t) ≡ renamed_task f (edit t)) →
      Same (with_task h edit d, o) (with_task h other (renamed f d), o)
  edited h edit other d o same = ap (λ (e : Desk). (e, o)) (with_task-renamed f h edit other d same)

  -- ---- the sender

  reach-renamed : (t r : Task) (buffer amount place n : ℕ) → is_bad_range (renamed_task f t) (renamed_task f r) buffer amount place n
      ≡ is_bad_range t r buffer amount place n
  reach-renamed t r buffer amount place n =
      ap (λ o. not (is_some o) && (not (holds buffer amount (renamed_slot f r.slot)) || (t.handle == r.handle && overlap buffer amount place n)))
      (buffer_at-renamed f buffer amount r.slot)
      ∙ ap (λ b. not b && (not (holds buffer amount (renamed_slot f r.slot)) || (t.handle == r.handle && overlap buffer amount place n))) (some-map
      (renamed_cut f) (buffer_at buffer amount r.slot))
      ∙ ap (λ b. not (is_some (buffer_at buffer amount r.slot)) && (not b || (t.handle == r.handle && overlap buffer amount place n)))
      (holds-renamed f buffer amount r.slot)

  written-renamed : (buffer amount n count : ℕ) (bytes : List ℕ) (t : Task) →
      ◌≡◌ {A = Task} (record (renamed_task f t) {
        slot = written_in buffer (take n (drop count (map f bytes))) (buffer_at buffer amount
            (renamed_slot f t.slot)) (renamed_slot f t.slot);
      })
      (renamed_task f (record t { slot = written_in buffer (take n (drop count bytes)) (buffer_at buffer amount t.slot) t.slot }))
  written-renamed buffer amount n count bytes t =
      ap (λ s. with_it s) (
      ap (λ l. written_in buffer (take n l) (buffer_at buffer amount (renamed_slot f t.slot)) (renamed_slot f t.slot)) (drop-map f count bytes)
      ∙ ap (λ l. written_in buffer l (buffer_at buffer amount (renamed_slot f t.slot)) (renamed_slot f t.slot)) (take-map f n (drop count bytes))
      ∙ ap (λ o. written_in buffer (map f (take n (drop count bytes))) o (renamed_slot f t.slot)) (buffer_at-renamed f buffer amount t.slot)
      ∙ written_in-renamed f buffer (take n (drop count bytes)) (buffer_at buffer amount t.slot) t.slot
      )
    where
      with_it : Slot → Task
      with_it s = record t { slot = s }

  transmit_of-renamed : (d : Desk) (t : Task) (a : Transmit) (p : Part) (place : ℕ) (bytes : List ℕ) →
      After (transmit_of d t a p place bytes) (transmit_of (renamed f d) (renamed_task f t) a p place (map f bytes))
  transmit_of-renamed d t a p place bytes =
      follows-by _ _ (found-by (renamed_task f) (task_at a.transfer.recipient d) _ NoTask (task_at-renamed f a.transfer.recipient d)) λ r.
      follows-as _ _ _ _ (ap (λ b. refuse_if b BadRange) (reach-renamed t r a.buffer a.room place p.n))
      (follows-by _ _ (send_letter-renamed f (transmit_letter t.handle a p) d) λ sent.
      Follows.both (
      ap (λ (e : Desk). (with_sending t.handle (sender.sent a p (next_ref d)) e, outcome.Sent p.n (next_ref d)))
      (with_task-renamed f r.handle _ _ sent (written-renamed a.buffer a.room p.n p.offset bytes))
      ∙ edited t.handle _ _ _ (outcome.Sent p.n (next_ref d)) (λ u. refl)
      ))

  transmit-renamed : (d : Desk) (t : Task) (a : Transmit) (source : Split Flex) →
      After (transmit d t a source) (transmit (renamed f d) (renamed_task f t) a (renamed_here f source))
  unfolding transmit
  transmit-renamed d t a source =
      subst (λ k. After here (there (sender.next_part a k) (flex_address (renamed_slot f t.slot) (renamed_here f source).before + a.transfer.count)))
      (sym (length-map source.here.bytes f))
      (subst (λ y. After here (there part (y + a.transfer.count))) (sym (address-renamed f t.slot source.before))
      (transmit_of-renamed d t a part (flex_address t.slot source.before + a.transfer.count) source.here.bytes))
    where
      part : Part
      part = sender.next_part a (length source.here.bytes)

      here : Granted Handled
      here = transmit_of d t a part (flex_address t.slot source.before + a.transfer.count) source.here.bytes

      there : Part → ℕ → Granted Handled
      there p place = transmit_of (renamed f d) (renamed_task f t) a p place (map f source.here.bytes)

  refused-renamed : (d : Desk) (t : Task) (x : Sending) (refusal : Refusal) → Same (refused d t x refusal) (refused (renamed f d) (renamed_task f t) x refusal)
  refused-renamed d t x refusal = edited t.handle _ _ d (outcome.Refused refusal) (λ u. refl)

  fail_sending-renamed : (d : Desk) (t : Task) (o : Option Sending) → Same (fail_sending d t o) (fail_sending (renamed f d) (renamed_task f t) o)
  unfolding fail_sending
  fail_sending-renamed d t None = refl
  fail_sending-renamed d t (Some x) = edited t.handle _ _ d outcome.Failed (λ u. refl)

  save_scrap_of-renamed : (d : Desk) (t : Task) (a : SaveFile) (n : ℕ) (bytes : List ℕ) →
      After (save_scrap_of d t a n bytes) (save_scrap_of (renamed f d) (renamed_task f t) a n (map f bytes))
  save_scrap_of-renamed d t a n bytes =
      follows-as _ _ _ _ (ap (λ b. refuse_if b Busy) (some_scrap d.scrap))
      (follows-then _ _ _ (follows-as _ _ _ _ (ap (λ k. refuse_if (nat_lt k (scrap_shortage n d)) NoRoom) (free-renamed f d))
      (follows-by _ _ (send_letter-renamed f (load_letter t.handle a n) (wider (scrap_shortage n d) d)) λ sent.
      Follows.both (edited t.handle _ _ (record sent { scrap = Some (record { load = next_ref d; bytes = bytes }) }) (outcome.Saved n (next_ref d))
      (λ u. refl)))))
    where
      some_scrap : (o : Option Scrap) → is_some (option_map (renamed_scrap f) o) ≡ is_some o
      some_scrap o = some-map (renamed_scrap f) o

  save_scrap-renamed : (d : Desk) (t : Task) (a : SaveFile) (source : Split Flex) → After (save_scrap d t a source) (save_scrap
      (renamed f d) (renamed_task f t) a (renamed_here f source))
  unfolding save_scrap
  save_scrap-renamed d t a source =
      subst (λ n. After (save_scrap_of d t a (length source.here.bytes) source.here.bytes) (save_scrap_of (renamed f d) (renamed_task f t) a n
      (map f source.here.bytes))) (sym (length-map source.here.bytes f))
      (save_scrap_of-renamed d t a (length source.here.bytes) source.here.bytes)

  send_with-renamed : (d : Desk) (t : Task) (a : SendAction) (source : Split Flex) → After (send_with d t a source) (send_with
      (renamed f d) (renamed_task f t) a (renamed_here f source))
  unfolding send_with
  send_with-renamed d t (send_action.Transmit a) source = transmit-renamed d t a source
  send_with-renamed d t (send_action.SaveFile a) source = save_scrap-renamed d t a source
  send_with-renamed d t (send_action.Finish x) source =
      Follows.both (
      ap (λ (n : ℕ). (with_sending t.handle (sender.sending_loaded x n) (renamed f d), outcome.Done)) (length-map source.here.bytes f)
      ∙ edited t.handle _ _ d outcome.Done (λ u. refl)
      )

  perform_send-renamed : (d : Desk) (t : Task) (o : Option SendAction) → Same (perform_send d t o) (perform_send (renamed f d) (renamed_task f t) o)
  unfolding perform_send
  perform_send-renamed d t None = refl
  perform_send-renamed d t (Some a) =
      or_else-follows (By (renamed_with f)) _ _ (follows-by _ _ (slot_block-renamed f (sender.transfer_of a).anchor t.slot) λ source.
      send_with-renamed d t a source) (refused-renamed d t (sender.transfer_of a))

  -- ---- the receiver

  pub without-renamed : (address : ℕ) (s : Slot) → without_buffer address (renamed_slot f s) ≡ renamed_slot f (without_buffer address s)
  without-renamed address s = result-by s (slot_release-renamed f address s)

  ended-renamed : (h : ℕ) (x : Taking) (edit : List Incoming → List Incoming) (d : Desk) → taking_ended h x edit (renamed f d) ≡ renamed f
      (taking_ended h x edit d)
  unfolding taking_ended
  ended-renamed h x edit d =
      ap (with_taking h edit) (with_task-renamed f h _ _ d (λ t. ap (with_it t) (without-renamed x.buffer t.slot)))
      ∙ with_task-renamed f h _ _ _ (λ t. refl)
    where
      with_it : Task → Slot → Task
      with_it t s = record t { slot = s }

  ended-same : (h : ℕ) (x : Taking) (edit : List Incoming → List Incoming) (d : Desk) (o : Outcome) →
      Same (taking_ended h x edit d, o) (taking_ended h x edit (renamed f d), o)
  ended-same h x edit d o = ap (λ (e : Desk). (e, o)) (ended-renamed h x edit d)

  accept-renamed : (d : Desk) (t : Task) (a : Claim) → After (accept d t a) (accept (renamed f d) (renamed_task f t) a)
  unfolding accept
  accept-renamed d t a =
      follows-equal _ _ _ _ (ap (λ o. found_or o AnchorInUse) (free_from-renamed f 0 anchor_count t.slot)) λ k.
      follows-by _ _ (where-free f d (λ n. slot_claim n t.buffer (renamed_slot f t.slot)) (slot_claim-renamed f zero-is (free_pages d) t.buffer t.slot)) λ b.
      follows-by _ _ (alloc k b) λ p.
      follows-by _ _ (send k b p) λ sent.
      Follows.both (edited t.handle _ _ sent (outcome.Fetch (next_ref d)) (λ u. refl))
    where
      alloc : (k : ℕ) (b : Slot × ℕ) → Follows (By (renamed_given f)) (slot_alloc (free_pages (with_slot t.handle b.0 d)) k 0 b.0) (slot_alloc
          (free_pages (with_slot t.handle (renamed_slot f b.0) (renamed f d))) k 0 (renamed_slot f b.0))
      alloc k b =
          subst (λ (e : Desk). Follows (By (renamed_given f)) (slot_alloc (free_pages (with_slot t.handle b.0 d)) k 0 b.0) (slot_alloc
          (free_pages e) k 0 (renamed_slot f b.0))) (sym (with_slot-renamed f t.handle b.0 d))
          (where-free f (with_slot t.handle b.0 d) (λ n. slot_alloc n k 0 (renamed_slot f b.0)) (slot_alloc-renamed f zero-is (free_pages
          (with_slot t.handle b.0 d)) k 0 b.0))

      letter : Slot × ℕ → Letter
      letter b = fetch_letter t.handle (receiver.first_fetch a b.1 t.buffer)

      send : (k : ℕ) (b p : Slot × ℕ) → Follows (By (renamed f)) (send_letter (letter b) (with_slot t.handle p.0 d)) (send_letter (letter b)
          (with_slot t.handle (renamed_slot f p.0) (renamed f d)))
      send k b p =
          subst (λ (e : Desk). Follows (By (renamed f)) (send_letter (letter b) (with_slot t.handle p.0 d)) (send_letter (letter b) e)) (sym
          (with_slot-renamed f t.handle p.0 d))
          (send_letter-renamed f (letter b) (with_slot t.handle p.0 d))

  appended-renamed : (d : Desk) (t : Task) (k : ℕ) (bytes : List ℕ) → Follows (By (renamed f)) (appended d t k bytes) (appended (renamed f d)
      (renamed_task f t) k (map f bytes))
  unfolding appended
  appended-renamed d t k bytes =
      follows-by _ _ (slot_block-renamed f k t.slot) λ document.
      follows-by _ _ (longer document) λ s.
      follows-by _ _ (filled document s) λ u.
      Follows.both (with_slot-renamed f t.handle u d)
    where
      longer : (document : Split Flex) → Follows (By (renamed_slot f)) (slot_extend (free_pages d) k (length document.here.bytes + length bytes) t.slot)
          (slot_extend (free_pages (renamed f d)) k (length (map f document.here.bytes) + length (map f bytes)) (renamed_slot f t.slot))
      longer document =
          subst (λ n. Follows (By (renamed_slot f)) (slot_extend (free_pages d) k (length document.here.bytes + length bytes) t.slot) (slot_extend
          (free_pages (renamed f d)) k (n + length (map f bytes)) (renamed_slot f t.slot))) (sym (length-map document.here.bytes f))
          (subst (λ n. Follows (By (renamed_slot f)) (slot_extend (free_pages d) k (length document.here.bytes + length bytes) t.slot) (slot_extend
          (free_pages (renamed f d)) k (length document.here.bytes + n) (renamed_slot f t.slot))) (sym (length-map bytes f))
          (where-free f d (λ m. slot_extend m k (length document.here.bytes + length bytes) (renamed_slot f t.slot)) (slot_extend-renamed f zero-is
          (free_pages d) k (length document.here.bytes + length bytes) t.slot)))

      filled : (document : Split Flex) (s : Slot) → Follows (By (renamed_slot f)) (slot_put k (length document.here.bytes) bytes s) (slot_put k
          (length (map f document.here.bytes)) (map f bytes) (renamed_slot f s))
      filled document s =
          subst (λ n. Follows (By (renamed_slot f)) (slot_put k (length document.here.bytes) bytes s) (slot_put k n (map f bytes)
          (renamed_slot f s))) (sym (length-map document.here.bytes f))
          (slot_put-renamed f k (length document.here.bytes) bytes s)

  fetch_more-renamed : (d : Desk) (t : Task) (a : Append) (b : Fetch) → After (fetch_more d t a b) (fetch_more (renamed f d) (renamed_task f t) a b)
  unfolding fetch_more
  fetch_more-renamed d t a b = follows-by _ _ (send_letter-renamed f _ d) λ sent. Follows.both (edited t.handle _ _ sent _ (λ u. refl))

  took-renamed : (d : Desk) (t : Task) (a : Append) (b : Next) → Same (took d t a b) (took (renamed f d) (renamed_task f t) a b)
  unfolding took
  took-renamed d t a next_action.Finish = ended-same t.handle a.transfer _ d _
  took-renamed d t a (next_action.Fetch b) =
      or_else-follows (By (renamed_with f)) _ _ (fetch_more-renamed d t a b) (λ refusal. ended-same t.handle a.transfer _ d _)

  append-renamed : (d : Desk) (t : Task) (a : Append) → Same (append d t a) (append (renamed f d) (renamed_task f t) a)
  unfolding append
  append-renamed d t a =
      or_else-follows (By (renamed_with f)) _ _ (follows-by _ _ document λ longer. Follows.both (took-renamed longer t a a.next))
      (λ refusal. ended-same t.handle x _ d _)
    where
      x : Taking
      x = a.transfer

      document : Follows (By (renamed f)) (appended d t x.anchor (first_bytes a.n (heap_block_at x.buffer t.slot))) (appended (renamed f d)
          (renamed_task f t) x.anchor (first_bytes a.n (heap_block_at x.buffer (renamed_slot f t.slot))))
      document =
          subst (λ bytes. Follows (By (renamed f)) (appended d t x.anchor (first_bytes a.n (heap_block_at x.buffer t.slot))) (appended (renamed f d)
          (renamed_task f t) x.anchor bytes))
          (sym (ap (first_bytes a.n) (heap_block_at-renamed f x.buffer t.slot) ∙ first_bytes-renamed f a.n (heap_block_at x.buffer t.slot)))
          (appended-renamed d t x.anchor (first_bytes a.n (heap_block_at x.buffer t.slot)))

  -- ---- the receiver's side of the scrap file

  ask-renamed : (d : Desk) (t : Task) (x : Taking) → After (ask d t x) (ask (renamed f d) (renamed_task f t) x)
  unfolding ask
  ask-renamed d t x = follows-by _ _ (send_letter-renamed f _ d) λ sent. Follows.both (ended-same t.handle x _ sent _)

  ack_back-renamed : (d : Desk) (t : Task) (o : Option Asked) → Same (ack_back d t o) (ack_back (renamed f d) (renamed_task f t) o)
  unfolding ack_back
  ack_back-renamed d t None = refl
  ack_back-renamed d t (Some q) = edited t.handle _ _ d outcome.Failed (λ u. refl)

  loaded-renamed : (d : Desk) (t : Task) (a : LoadFile) (n : ℕ) → Same (loaded d t a n) (loaded (renamed f d) (renamed_task f t) a n)
  unfolding loaded
  loaded-renamed d t a n =
      or_else-follows (By (renamed_with f)) _ _
      (follows-by _ _ (send_letter-renamed f _ d) λ sent. Follows.both (edited t.handle _ _ sent _ (λ u. refl)))
      (λ refusal. edited t.handle _ _ d _ (λ u. refl))

  load_file-renamed : (d : Desk) (t : Task) (a : LoadFile) (o : Option Scrap) → Same (load_file d t a o) (load_file (renamed f d)
      (renamed_task f t) a (option_map (renamed_scrap f) o))
  unfolding load_file
  load_file-renamed d t a None = refl
  load_file-renamed d t a (Some file) =
      chosen-both (By (renamed_with f)) (file.load == a.answers) _ _ _ _
      (or_else-follows (By (renamed_with f)) _ _
      (follows-by _ _ (appended-renamed d t a.transfer.anchor file.bytes) λ longer.
      Follows.both (
      ap (λ n. loaded (record (renamed f longer) { scrap = None }) (renamed_task f t) a n) (length-map file.bytes f)
      ∙ loaded-renamed (record longer { scrap = None }) t a (length file.bytes)
      ))
      (λ refusal. edited t.handle _ _ d _ (λ u. refl)))
      refl

  take_with-renamed : (d : Desk) (t : Task) (a : TakeAction) → Same (take_with d t a) (take_with (renamed f d) (renamed_task f t) a)
  unfolding take_with
  take_with-renamed d t (take_action.Claim a) = or_else-follows (By (renamed_with f)) _ _ (accept-renamed d t a) (λ refusal. refl)
  take_with-renamed d t (take_action.Append a) = append-renamed d t a
  take_with-renamed d t (take_action.AskForFile x) =
      or_else-follows (By (renamed_with f)) _ _ (ask-renamed d t x) (λ refusal. ended-same t.handle x _ d _)
  take_with-renamed d t (take_action.LoadFile a) = load_file-renamed d t a d.scrap
  take_with-renamed d t (take_action.Release a) = ended-same t.handle a.transfer _ d _

  perform_take-renamed : (d : Desk) (t : Task) (o : Option TakeAction) → Same (perform_take d t o) (perform_take (renamed f d) (renamed_task f t) o)
  unfolding perform_take
  perform_take-renamed d t None = refl
  perform_take-renamed d t (Some a) = take_with-renamed d t a

  -- ---- one message

  delivered-renamed : (d : Desk) (t : Task) (m : Parcel) (body : Body) → Same (delivered d t m body) (delivered (renamed f d) (renamed_task f t) m body)
  unfolding delivered
  delivered-renamed d t m (DataSave file) =
      let claim = receiver.on_save (is_deaf t.manner) m.message.from m.message.my_ref t.taking in
      let here = perform_take d t (receiver.flagged (is_raw_at m.message.from d) claim) in
      subst (λ b. Same here (perform_take (renamed f d) (renamed_task f t) (receiver.flagged b claim)))
      (sym (raw-renamed f m.message.from d)) (perform_take-renamed d t (receiver.flagged (is_raw_at m.message.from d) claim))
  delivered-renamed d t m (DataSaveAck file) = perform_send-renamed d t _
  delivered-renamed d t m (DataLoad file) = perform_take-renamed d t _
  delivered-renamed d t m (DataLoadAck file) = perform_send-renamed d t _
  delivered-renamed d t m (RamFetch buffer amount) =
      chosen-both (By (renamed_with f)) (answers_none t.manner) _ _ _ _ refl (perform_send-renamed d t _)
  delivered-renamed d t m (RamTransmit buffer n) = perform_take-renamed d t _
  delivered-renamed d t m (Other other) = refl

  bounced_to-renamed : (d : Desk) (t : Task) (m : Parcel) (body : Body) → Same (bounced_to d t m body) (bounced_to (renamed f d) (renamed_task f t) m body)
  unfolding bounced_to
  bounced_to-renamed d t m (DataSave file) = fail_sending-renamed d t _
  bounced_to-renamed d t m (DataSaveAck file) = ack_back-renamed d t _
  bounced_to-renamed d t m (DataLoad file) = fail_sending-renamed d t _
  bounced_to-renamed d t m (DataLoadAck file) = refl
  bounced_to-renamed d t m (RamFetch buffer amount) = perform_take-renamed d t _
  bounced_to-renamed d t m (RamTransmit buffer n) = fail_sending-renamed d t _
  bounced_to-renamed d t m (Other other) = refl

  handled-renamed : (d : Desk) (t : Task) (m : Parcel) (code : EventCode) → Same (handled d t m code) (handled (renamed f d) (renamed_task f t) m code)
  unfolding handled
  handled-renamed d t m User = delivered-renamed d t m m.message.body
  handled-renamed d t m Recorded = delivered-renamed d t m m.message.body
  handled-renamed d t m Acknowledge = bounced_to-renamed d t m m.message.body

  poll_taken-renamed : (d : Desk) (t : Task) (o : Option Parcel) → By (renamed_with f) (poll_taken d t o) (poll_taken (renamed f d) (renamed_task f t) o)
  unfolding poll_taken
  poll_taken-renamed d t None = refl
  poll_taken-renamed d t (Some m) =
      ap (event (as_read m)) (chosen-both (By (renamed_with f)) (is_raw t.manner) _ _ _ _ refl (handled-renamed d t (as_read m) m.code))

  pub poll-renamed : (d : Desk) (name : List ℕ) → Follows (By (renamed_with f)) (poll d name) (poll (renamed f d) name)
  unfolding poll
  poll-renamed d name =
      follows-by _ _ (named-renamed f name d) λ t.
      Follows.both (
      ap (λ (e : Desk). poll_taken e (renamed_task f t) (post_poll t.handle d.post).1) (with_delivered-renamed f (post_poll t.handle d.post).0 d)
      ∙ poll_taken-renamed (with_delivered (post_poll t.handle d.post).0 d) t (post_poll t.handle d.post).1
      )
