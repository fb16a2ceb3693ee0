-- A poll leaves the buffers that fetch from tasks with code of their own as they were, but for a new one.
use Rattle.rh_laws.proofs.Common.{◌≡◌, ◌≢◌, ℕ, ◌-◌, ◌≤◌, Bool, true, false, List, [], length, take, drop, Option, Some, None, refl, sym, ap, ◌∙◌}
use Rattle.rh_laws.proofs.Common.{subst, inl, inr, arith, ◌==◌, find, Ok, option_map, length-take, either, Body, Reply, Outcome, Incoming, Sending}
use Rattle.rh_laws.proofs.Common.{Flex, Part, Refusal, Handled, granted, granted-then, or_else-keeps, Slot, Split, bytes_of, heap_block_at, Parcel}
use Rattle.rh_laws.proofs.Common.{post_poll, EventCode, User, Recorded, Acknowledge, Desk, Task, has_name, named, task_at, with_delivered, Answer}
use Rattle.rh_laws.proofs.Common.{poll, poll_taken, event, step, handled, Active, and_left, and_right, has_of, first_is, is_equal, none_some}
use Rattle.rh_laws.proofs.Common.{same_value, found_task, field_is, seen_parcel, live_of, buffers_of, task_of, view, buffer_at, with_heap_bytes}
use Rattle.rh_laws.proofs.Common.{written_in}
use Rattle.rh_defs.specs.declared.command.Command.TheVariants as command
use Rattle.rh_defs.specs.declared.message.Body.TheVariants as body
use Rattle.rh_defs.specs.declared.reply.Outcome.TheVariants as outcome
use Rattle.rh_defs.specs.declared.reply.Reply.TheVariants as reply
use Rattle.rh_defs.specs.declared.transfer.Incoming.TheVariants as incoming
use Rattle.rh_defs.specs.declared.transfer.Outgoing.TheVariants as outgoing
use Rattle.rh_defs.specs.AnyMessage.{as_read, read_body}
use Rattle.rh_defs.specs.RawTasks.{is_raw}
use Rattle.rh_defs.specs.Sender as sender
use Rattle.rh_safety.specs.Given.{is_bounce}
use Rattle.rh_safety.proofs.Acts.{ForOpen, Sends, is_back, not-back, part_of}
use Rattle.rh_safety.proofs.Basics.{not_true}
use Rattle.rh_safety.proofs.Ends.{Letter as RamLetter}
use Rattle.rh_safety.proofs.KeptActs.{reaches, waits}
use Rattle.rh_safety.proofs.KeptPolls.{Given, given, known_kind, read_same}
use Rattle.rh_safety.proofs.Masks.{masked, masked_message}
use Rattle.rh_safety.proofs.Polls.{Taken, would_tells}
use Rattle.rh_safety.proofs.Raws.{is_known}
use Rattle.rh_safety.proofs.SeenActs.{fetch_in}
use Rattle.rh_safety.proofs.View.{of}
use Rattle.rh_safety.proofs.RecordLaws.{has_no_records}
use Rattle.rh_safety.proofs.SeenDocuments.{letter_of}
use Rattle.rh_safety.proofs.SeenTaking.{poll_taken_is}
use Rattle.rh_safety.proofs.SeenWrites.{buffer_found, written_map}
use Rattle.rh_laws.specs.Contents.{Contents, contents_by, contents_event, contents_next, contents_polled}
use Rattle.rh_laws.specs.Frame.{Fills, handle_of}
use Rattle.rh_laws.proofs.AccountPolls.{stands-delivered}
use Rattle.rh_laws.proofs.ContentPolls.{Keeps, Kept, Pours, Unborn, by-none, handled-keeps, part-few}
use Rattle.rh_laws.proofs.ContentRecords.{Filled, away-filled, none-filled, same-filled}
use Rattle.rh_laws.proofs.ContentTasks.{Each, Holds, Own, apart, counted, filled-other, fit, found, kept-own, left-own, not-theirs, seen, sending-has}
use Rattle.rh_laws.proofs.ContentTasks.{stand, there, whose}
use Rattle.rh_laws.proofs.FramePolls.{polls-fill}
use Rattle.rh_laws.proofs.Frames.{leaves-others}

-- ---- rows of other handles

by-other : (g : Contents) (t : Task) (m : Parcel) (back : Bool) (b : Body) (o : Outcome) (h : ℕ) → h ≢ t.handle → contents_by g t m back b o h ≡ g h
by-other g t m false (body.DataSave file) (outcome.Fetch ref) h ne = filled-other g t.handle m.message.my_ref _ h ne
by-other g t m back b o h ne = refl

event-other : (g : Contents) (t : Task) (v : Option Parcel) (r : Reply) (h : ℕ) → h ≢ t.handle → contents_event g t v r h ≡ g h
event-other g t (Some m) (reply.Event code action mine yours o) h ne = by-other g t m (is_bounce m.code) (read_body m.message.body) o h ne
event-other g t v r h ne = refl

module _ {g : Contents} {d : Desk} (w : Holds g d) where
  -- ---- polls

  bounce-is : (c : EventCode) → is_bounce c ≡ is_back c
  bounce-is User = refl
  bounce-is Recorded = refl
  bounce-is Acknowledge = refl

  abbrev left : Task → Desk
  left t = with_delivered (post_poll t.handle d.post).0 d

  -- the bytes of a transmit to the task itself
  module _ (t : Task) (there_ : task_at t.handle d ≡ Some t) (m : Parcel) (taken : (post_poll t.handle d.post).1 ≡ Some m)
      (plays : is_raw t.manner ≡ false) where
    told : Given w.known.offers w.edits w.gave w.known.coded (left t) t m
    told = given d t (fit w) there_ w.known (post_poll t.handle d.post) ((fit w).polled t.handle)
        (poll_taken_is d t.handle (fit w) (live_of d t.handle t there_)) m taken

    module _ (buffer n : ℕ) (x : Sending) (source : Split Flex) (r : Task) (sent : Desk)
        (it : ForOpen (left t) t (as_read m) false (body.RamFetch buffer n) x) (s : Sends (left t) t (as_read m) buffer n x source r sent)
        (own : r.handle ≡ t.handle) where
      abbrev p : Part
      p = part_of (left t) t (as_read m) buffer n x source

      abbrev out : List ℕ
      out = take p.n (drop p.offset source.here.bytes)

      abbrev Poured : Type 0
      Poured = Filled (g t.handle) (buffers_of (written_in buffer out (buffer_at buffer n t.slot) t.slot)) t.taking

      -- the recipient is the task
      recipient-is : x.recipient ≡ t.handle
      recipient-is = sym (is_equal _ _ (first_is (λ (y : Task). y.handle == x.recipient) (left t).tasks r s.to).1) ∙ own

      is-own : r ≡ t
      unfolding with_delivered
      is-own = same_value (task_at t.handle d) (subst (λ j. task_of j d.tasks ≡ Some r) recipient-is s.to) there_

      -- it has code of its own
      theirs-poured : w.gave m.message.my_ref ≡ true → Poured
      theirs-poured theirs =
          let from : m.message.from ≡ x.recipient =
          (would_tells x (fetch_in (as_read m) buffer n) (and_right _ (sender.would_answer m.message.from m.message.your_ref n x) it.passes)).from in
          let here : task_of m.message.from (left t).tasks ≡ Some r = subst (λ j. task_of j (left t).tasks ≡ Some r) (sym from) s.to in
          let codes : is_raw r.manner ≡ true =
          sym (field_is (λ y. is_raw y.manner) false m.message.from (left t).tasks r here)
          ∙ told.raws.manners m.message.from (live_of (left t) m.message.from r here) ∙ sym told.sender ∙ theirs in
          let z : true ≡ false = sym codes ∙ ap (λ (y : Task). is_raw y.manner) is-own ∙ plays in
          absurd (cc)

      -- the desk plays it: the buffer is of the open record's transfer
      mine-poured : Taken w.known.offers w.edits (masked w.gave (view (left t))) t.handle (fetch_in (as_read m) buffer n) → Poured
      unfolding with_delivered
      mine-poured tk =
          let lives = live_of (left t) x.recipient r s.to in
          let file = not_true _ (and_left _ (sender.would_answer m.message.from m.message.your_ref n x) it.passes) in
          let found_ = and_right _ (sender.would_answer m.message.from m.message.your_ref n x) it.passes in
          let reach = reaches w.gave (λ j. false) (left t) t (as_read m) there_ buffer n tk x it.has file found_ lives in
          let wait = waits w.gave (λ j. false) (left t) t (as_read m) there_ buffer n tk x it.has file found_ lives in
          let at_t : task_of x.recipient d.tasks ≡ Some t = subst (λ (y : Task). task_of x.recipient d.tasks ≡ Some y) is-own s.to in
          let c = buffer_found buffer n t.slot reach.old (ap (λ (b : ℕ → Option (List ℕ)). b buffer)
          (sym (field_is (λ y. buffers_of y.slot) (λ a. None) x.recipient d.tasks t at_t)) ∙ reach.there) reach.fits
          (heap_block_at buffer t.slot) refl in
          let active : Active t.taking wait.taking = subst (λ (ws : List Incoming). Active ws wait.taking)
          (field_is (λ y. y.taking) [] x.recipient d.tasks t at_t) wait.is_active in
          let few : length out ≤ length (bytes_of c.cut.here) =
          let z = reach.fits in let y : length (bytes_of c.cut.here) ≡ length reach.old = ap (λ (v : List ℕ). length v) c.bytes in
          part-few n (length source.here.bytes - x.count) (drop p.offset source.here.bytes) (length (bytes_of c.cut.here)) (omega (arith, z, y)) in
          let now : written_in buffer out (buffer_at buffer n t.slot) t.slot ≡ with_heap_bytes c.cut 0 out t.slot =
          ap (λ o. written_in buffer out o t.slot) c.found in
          subst (λ (y : Slot). Filled (g t.handle) (buffers_of y) t.taking) (sym now)
          (same-filled (away-filled (w.each t.handle t there_) buffer _ (λ j has its same.
          not-theirs w t there_ t.handle x (sending-has w t there_ (outgoing.Open x) it.has) wait.taking active wait.same_id j has its (same ∙ sym wait.names)))
          (written_map buffer t.slot c.cut out c.is few))

    pours-own : Pours (g t.handle) (left t) t (as_read m) (is_back m.code) (as_read m).message.body
    pours-own buffer n x source r sent came is_fetch it s own = go (w.gave m.message.my_ref) refl
      where
        go : (b : Bool) → w.gave m.message.my_ref ≡ b → Poured buffer n x source r sent it s own
        go true theirs = theirs-poured buffer n x source r sent it s own theirs
        go false mine =
            let shown : (masked_message w.gave (seen_parcel m)).letter ≡ letter_of m m.message.body = rw mine refl in
            let same = read_same m (known_kind m.message.body (ap (λ (z : RamLetter). is_known z.kind) (sym shown) ∙ told.kind)) in
            mine-poured buffer n x source r sent it s own
            (subst (λ (b : Body). Taken w.known.offers w.edits (masked w.gave (view (left t))) t.handle (letter_of (as_read m) b)) is_fetch
            (subst (λ (z : Parcel). Taken w.known.offers w.edits (masked w.gave (view (left t))) t.handle (letter_of z z.message.body)) (sym same)
            (subst (λ z. Taken w.known.offers w.edits (masked w.gave (view (left t))) t.handle z) shown (told.came (not-back m.code came)))))

    unborn-own : Unborn t (as_read m) (is_back m.code)
    unfolding with_delivered
    unborn-own came v has = told.unborn (not-back m.code came) t.handle v (seen w t there_ v has)

  -- the message that was taken, where there is one
  taken-own : (name : List ℕ) (t : Task) → named name d ≡ Ok t → (v : Option Parcel) → (post_poll t.handle d.post).1 ≡ v →
      let a : Answer = poll_taken (left t) t v in Own (contents_event g t v a.1) (handle_of name d) a
  unfolding poll_taken
  taken-own name t q None taken = left-own w name t q (_, reply.NoEvent) (stands-delivered _ (stand w name t q))
  taken-own name t q (Some m) taken =
      let read = as_read m in
      let here : Kept (g t.handle) t.handle (left t) t.taking = record {
        slot = t.slot;
        stands = stands-delivered _ (stand w name t q);
        all = counted w name t q;
      } in
      either (λ (x : Handled). Own (contents_by g t m (is_bounce m.code) (read_body m.message.body) x.1) (handle_of name d) (event read x))
      (is_raw t.manner) (left t, outcome.Taken) (handled (left t) t read m.code)
      (λ its. subst (λ (r : Contents). Own r (handle_of name d) (event read (left t, outcome.Taken)))
      (sym (by-none g t m (is_bounce m.code) (read_body m.message.body) outcome.Taken refl))
      (left-own w name t q (event read (left t, outcome.Taken)) (stands-delivered _ (stand w name t q))))
      (λ plays.
      let x = handled (left t) t read m.code in
      let k : Keeps (contents_by g t m (is_back m.code) (read_body m.message.body) x.1 t.handle) t.handle x.0 =
      handled-keeps g (left t) t read here refl (apart w t (there w name t q)) m.code
      (pours-own t (there w name t q) m taken plays) (unborn-own t (there w name t q) m taken plays) in
      subst (λ (b : Bool). Own (contents_by g t m b (read_body m.message.body) x.1) (handle_of name d) (event read x)) (sym (bounce-is m.code))
      (kept-own w name t q (contents_by g t m (is_back m.code) (read_body m.message.body) x.1) (event read x) k.records k.desk))

  refused-none : (v : Option Task) (r : Refusal) → contents_polled g d v (reply.Refused r) ≡ g
  refused-none None r = refl
  refused-none (Some t) r = go (post_poll t.handle d.post).1
    where
      go : (v : Option Parcel) → contents_event g t v (reply.Refused r) ≡ g
      go None = refl
      go (Some m) = refl

  abbrev Polled : List ℕ → Answer → Type 0
  Polled name a = Own (contents_polled g d (find (has_name name) d.tasks) a.1) (handle_of name d) a

  poll-own : (name : List ℕ) → Polled name (step d (command.Poll name))
  unfolding poll
  poll-own name =
      or_else-keeps (Polled name) _
      (granted-then _ _ λ t q. granted (let a : Answer = poll_taken (left t) t (post_poll t.handle d.post).1 in
      subst (λ v. Own (contents_polled g d v a.1) (handle_of name d) a) (sym (found w name t q)) (taken-own name t q (post_poll t.handle d.post).1 refl)))
      (λ refusal. record {
        own = λ h t named_h at_. subst (λ (r : Contents). Filled (r h) (buffers_of t.slot) t.taking)
            (sym (refused-none (find (has_name name) d.tasks) refusal)) (w.each h t at_);
      })

  -- a poll fills a buffer of another task at most, and one that fetches from it
  filled : (s : Task) → task_at s.handle d ≡ Some s → (h : ℕ) (before now : Option Task) (said : Reply) → Fills s h before now said → task_at h d ≡ before →
      (t : Task) → now ≡ Some t → Filled (g h) (buffers_of t.slot) t.taking
  filled s there_ h before now said (inl fills) was t at_ =
      let r = fills.receiver in
      let own : task_at h d ≡ Some r = was ∙ fills.was in
      let same_h : r.handle ≡ h = is_equal _ _ (first_is (λ (y : Task). y.handle == h) d.tasks r own).1 in
      let of_r : task_at r.handle d ≡ Some r = ap (λ j. task_at j d) same_h ∙ own in
      let new : List ℕ = take fills.n (drop fills.out.count fills.source) in
      let few : length new ≤ length (bytes_of fills.buffer.here) = let z = fills.room in simp length-take (omega (arith, z)) in
      let active : Active r.taking fills.into = elim fills.holds [
        | inl y ↦ inl (has_of r.taking (incoming.Fetching fills.into) y)
        | inr y ↦ inr (has_of r.taking (incoming.Draining fills.into) y)
      ] in
      let that : (record r { slot = with_heap_bytes fills.buffer 0 new r.slot }) ≡ t = let z = sym fills.filled ∙ at_ in cc in
      subst (λ (u : Task). Filled (g h) (buffers_of u.slot) u.taking) that
      (same-filled (away-filled (w.each h r own) fills.into.buffer _ (λ j has its.
      not-theirs w r of_r s.handle fills.out (sending-has w s there_ (outgoing.Open fills.out) (has_of s.sending (outgoing.Open fills.out) fills.sends))
      fills.into active fills.same_id j has its))
      (written_map fills.into.buffer r.slot fills.buffer new fills.buffer_is few))
  filled s there_ h before now said (inr fills) was t at_ =
      let r = fills.receiver in
      let own : task_at h d ≡ Some r = was ∙ fills.was in
      let same_h : r.handle ≡ h = is_equal _ _ (first_is (λ (y : Task). y.handle == h) d.tasks r own).1 in
      let of_r : task_at r.handle d ≡ Some r = ap (λ j. task_at j d) same_h ∙ own in
      let that : r.taking ≡ t.taking = let z = sym fills.filled ∙ at_ in ap (λ (o : Option Task). of (λ (y : Task). y.taking) [] o) z in
      none-filled (sym that ∙ (has_no_records d w.known r.handle r of_r fills.codes).1)

  pub poll-each : (name : List ℕ) → let c = command.Poll name in Each (contents_next g d c (step d c).1) (step d c)
  poll-each name h t at_ = elim (whose (handle_of name d) h) [
    | inl same ↦ (poll-own name).own h t same at_
    | inr ne ↦ go (find (has_name name) d.tasks) refl ne
  ]
    where
      go : (v : Option Task) → find (has_name name) d.tasks ≡ v → handle_of name d ≢ Some h →
          Filled (contents_polled g d v (step d (command.Poll name)).1 h) (buffers_of t.slot) t.taking
      go None q ne = w.each h t (sym (leaves-others d (command.Poll name) h q ne (λ z. none_some None refl z)) ∙ at_)
      go (Some s) q ne =
          let away : s.handle ≢ h = λ same. ne (ap (option_map (λ (y : Task). y.handle)) q ∙ ap Some same) in
          let row : contents_event g s (post_poll s.handle d.post).1 (step d (command.Poll name)).1 h ≡ g h =
          event-other g s (post_poll s.handle d.post).1 (step d (command.Poll name)).1 h (λ same. away (sym same)) in
          subst (λ (x : ℕ → List ℕ). Filled x (buffers_of t.slot) t.taking) (sym row)
          (elim (polls-fill d (fit w) w.known name s h q away) [
            | inl same ↦ w.each h t (sym same ∙ at_)
            | inr fills ↦ filled s (found_task (has_name name) d.tasks s (fit w).handles q) h _ _ _ fills refl t at_
          ])
