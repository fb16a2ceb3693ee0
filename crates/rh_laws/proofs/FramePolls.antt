-- A poll leaves other tasks as they were, but for the first bytes of one buffer.
use Rattle.rh_laws.proofs.Common.{◌≡◌, ◌≢◌, ℕ, Bool, false, List, [], length, take, drop, Option, Some, None, refl, sym, ap, ◌∙◌, subst, ◌⊎◌, inl}
use Rattle.rh_laws.proofs.Common.{inr, arith, ◌-◌, ◌==◌, min, Ok, option_map, eqb_tells, Refusal, Command}
use Rattle.rh_laws.proofs.Common.{and_left, and_right, Sending, Taking, Incoming, Part, Split, bytes_of, Flex, heap_block_at}
use Rattle.rh_laws.proofs.Common.{buffer_at, with_heap_bytes, written_in, Parcel, post_poll, Desk, Task, named, next_ref, task_at}
use Rattle.rh_laws.proofs.Common.{with_delivered, with_sending, with_task, Handled}
use Rattle.rh_laws.proofs.Common.{handled, Answer, event, poll, poll_taken, step, Active, buffers_of, task_of, view, contains_of, first_is}
use Rattle.rh_laws.proofs.Common.{is_equal, found_name, Fits, the_task, field_is, live_of}
use Rattle.rh_defs.specs.declared.command.Command.TheVariants as command
use Rattle.rh_defs.specs.declared.message.Body.TheVariants as body
use Rattle.rh_defs.specs.declared.reply.Outcome.TheVariants as outcome
use Rattle.rh_defs.specs.declared.transfer.Incoming.TheVariants as incoming
use Rattle.rh_defs.specs.declared.transfer.Outgoing.TheVariants as outgoing
use Rattle.rh_defs.specs.Sender as sender
use Rattle.rh_safety.proofs.Ends.{Letter}
use Rattle.rh_safety.proofs.Invariant.{Offered}
use Rattle.rh_safety.proofs.KeptActs.{reaches, waits}
use Rattle.rh_safety.proofs.SeenActs.{fetch_in}
use Rattle.rh_safety.proofs.KeptPolls.{Given, given, known_kind, read_same}
use Rattle.rh_safety.specs.RawIds.{Gave}
use Rattle.rh_safety.proofs.Keeps.{Stands}
use Rattle.rh_safety.proofs.Masks.{masked, masked_message}
use Rattle.rh_safety.proofs.Raws.{is_known}
use Rattle.rh_defs.specs.AnyMessage.{as_read}
use Rattle.rh_defs.specs.RawTasks.{is_raw, is_raw_at, is_raw_task}
use Rattle.rh_defs.specs.Slot.{holds}
use Rattle.rh_defs.specs.Transfer.{received}
use Rattle.rh_laws.proofs.Common.{Acknowledge, either, is_some, not, seen_parcel, true, ◌&&◌, ◌||◌}
use Rattle.rh_safety.proofs.Acts.{ForOpen, Sends, handled-acts, not-back, part_of, poured, transmit_of}
use Rattle.rh_safety.proofs.Basics.{not_true}
use Rattle.rh_safety.proofs.OwnEdits.{OwnEdits, act-own}
use Rattle.rh_safety.proofs.Polls.{Taken, would_tells}
use Rattle.rh_safety.proofs.SeenBlocks.{the_block}
use Rattle.rh_safety.proofs.SeenDocuments.{letter_of}
use Rattle.rh_safety.proofs.SeenFrames.{bind, done, instead_of}
use Rattle.rh_safety.proofs.SeenTaking.{poll_taken_is}
use Rattle.rh_safety.proofs.SeenWrites.{buffer_found}
use Rattle.rh_safety.specs.TaskRecords.{HoldsOne}
use Rattle.rh_laws.specs.Frame.{Fills, KeepsBlocks, PollsFill, actor, flex_blocks, handle_of, moves_to, poller}
use Rattle.rh_laws.proofs.Frames.{Leaves, both-leave, edit-own, ins-leave, leaves-others, letter-leaves, other-task, outs-leave, task-leaves}

-- ---- messages that leave another task

-- the task of another handle is as it was
own-leaves : (h k : ℕ) → h ≢ k → OwnEdits h (Leaves k)
own-leaves h k ne = record {
  same = λ d. record { same = refl };
  after = both-leave;
  slot = λ edit d. task-leaves h k ne (λ (t : Task). record t { slot = edit t.slot }) (λ y. refl) d;
  outs = outs-leave h k ne;
  ins = ins-leave h k ne;
  letter = λ l d from. letter-leaves k l d (λ same. ne (sym from ∙ same));
  scrap = λ file d. record { same = refl };
  areas = λ areas d. record { same = refl };
}

-- ---- a fetch

-- the task of the handle, which an edit of it changes
pub own-task : (h : ℕ) (f : Task → Task) → ((y : Task) → (f y).handle ≡ y.handle) → (d : Desk) (r : Task) → r.handle ≡ h →
    task_at h d ≡ Some r → task_at h (with_task r.handle f d) ≡ Some (f r)
unfolding with_task
own-task h f kh d r same is =
    subst (λ j. task_at h (with_task j f d) ≡ Some (f r)) (sym same) (edit-own h f kh d.tasks r is)

-- a record that holds a buffer, as the task has it
holds-one : (r : Task) (f : Taking) → Active r.taking f → HoldsOne r f
holds-one r f (inl has) = inl (contains_of r.taking (incoming.Fetching f) has)
holds-one r f (inr has) = inr (contains_of r.taking (incoming.Draining f) has)

-- the other task is as it was, or one buffer of it is filled, or a range that it named
abbrev FillOf : ℕ → Task → Desk → Parcel → Handled → Type 0
FillOf k t d m x = Leaves k d x.0 ⊎ Fills t k (task_at k d) (task_at k x.0) (event m x).1

module _ (k : ℕ) (t : Task) (ne : t.handle ≢ k) (d : Desk) (m : Parcel) (is : task_of t.handle d.tasks ≡ Some t) where
  abbrev Fill : Handled → Type 0
  Fill x = FillOf k t d m x

  module _ (buffer n : ℕ) (x : Sending) (source : Split Flex) (r : Task) (sent : Desk) (it : ForOpen d t m false (body.RamFetch buffer n) x)
      (w : Sends d t m buffer n x source r sent) (leaves : Leaves k d sent) where
    abbrev l : Letter
    l = fetch_in m buffer n

    -- the next bytes of the source, and the recipient with them in its buffer
    abbrev p : Part
    p = part_of d t m buffer n x source

    abbrev out : List ℕ
    out = take p.n (drop p.offset source.here.bytes)

    abbrev filled : Task → Task
    filled r = record r { slot = written_in buffer out (buffer_at buffer n r.slot) r.slot }

    abbrev Poured : Type 0
    Poured = Fill (
      with_sending t.handle (sender.sent (transmit_of d t m buffer n x) p (next_ref d)) (poured d t m buffer n p source r sent),
      outcome.Sent p.n (next_ref d),
    )

    -- the recipient is another task, or the one that is looked at
    poured-at : (x.recipient ≡ k → task_at k d ≡ Some r → task_at k (with_sending t.handle (sender.sent (transmit_of d t m buffer n x) p (next_ref d))
        (poured d t m buffer n p source r sent)) ≡ Some (filled r) → Poured) → Poured
    poured-at here_is =
        let same : r.handle ≡ x.recipient = is_equal _ _ (first_is (λ (y : Task). y.handle == x.recipient) d.tasks r w.to).1 in
        let written : Desk = poured d t m buffer n p source r sent in
        let records : Leaves k written (with_sending t.handle (sender.sent (transmit_of d t m buffer n x) p (next_ref d)) written) =
        outs-leave t.handle k ne _ written in
        elim (eqb_tells x.recipient k) [
          | inr away ↦ inl (both-leave leaves (both-leave (task-leaves r.handle k (λ e. away.1 (sym same ∙ e)) filled (λ y. refl) sent) records))
          | inl here ↦
              let was : task_at k d ≡ Some r = subst (λ j. task_of j d.tasks ≡ Some r) here.1 w.to in
              let own : task_at k written ≡ Some (filled r) = own-task k filled (λ y. refl) sent r (same ∙ here.1) (leaves.same ∙ was) in
              here_is here.1 was (records.same ∙ own)
        ]

    -- a recipient with code of its own
    range-fills : is_raw r.manner ≡ true → Poured
    range-fills codes = poured-at (λ here was now. inr (inr (record {
      receiver = r;
      was = was;
      codes = codes;
      out = x;
      sends = contains_of t.sending (outgoing.Open x) it.has;
      recipient = here;
      source = source.here.bytes;
      source_is = ap (option_map (λ (b : Split Flex). b.here.bytes)) (the_block x.anchor t.slot source w.source_is);
      address = buffer;
      room = n;
      whole = lies (is_some (buffer_at buffer n r.slot)) (holds buffer n r.slot) _ w.range;
      n = p.n;
      portion = refl;
      filled = now;
      answered = refl;
    })))
      where
        lies : (a b c : Bool) → (not a && (not b || c)) ≡ false → (a || b) ≡ true
        lies true b c e = refl
        lies false true c e = refl
        lies false false c e = absurd (let z : Bool.true ≡ false = e in (cc))

    fetch-fills : {o : Offered} {e : ℕ → ℕ → Bool} (R : Gave) → Taken o e (masked R (view d)) t.handle l → Poured
    fetch-fills R tk = poured-at (λ here was after.
        let lives = live_of d x.recipient r w.to in
        let file = not_true _ (and_left _ (sender.would_answer m.message.from m.message.your_ref n x) it.passes) in
        let found = and_right _ (sender.would_answer m.message.from m.message.your_ref n x) it.passes in
        let reach = reaches R (λ j. false) d t m is buffer n tk x it.has file found lives in
        let wait = waits R (λ j. false) d t m is buffer n tk x it.has file found lives in
        let c = buffer_found buffer n r.slot reach.old (ap (λ (g : ℕ → Option (List ℕ)). g buffer)
        (sym (field_is (λ y. buffers_of y.slot) (λ a. None) x.recipient d.tasks r w.to)) ∙ reach.there) reach.fits
        (heap_block_at buffer r.slot) refl in
        let now : written_in buffer out (buffer_at buffer n r.slot) r.slot ≡ with_heap_bytes c.cut 0 out r.slot =
        ap (λ o. written_in buffer out o r.slot) c.found in
        inr (inl (record {
          receiver = r;
          was = was;
          out = x;
          sends = contains_of t.sending (outgoing.Open x) it.has;
          recipient = here;
          source = source.here.bytes;
          source_is = ap (option_map (λ (b : Split Flex). b.here.bytes)) (the_block x.anchor t.slot source w.source_is);
          into = wait.taking;
          holds = holds-one r wait.taking (subst (λ (ws : List Incoming). Active ws wait.taking)
              (field_is (λ y. y.taking) [] x.recipient d.tasks r w.to) wait.is_active);
          same_id = wait.same_id;
          from = wait.sender;
          buffer = c.cut;
          buffer_is = ap (λ a. heap_block_at a r.slot) wait.names ∙ c.is;
          n = p.n;
          portion = ap (λ a. min a (length source.here.bytes - x.count))
              (wait.amount ∙ field_is (λ y. y.buffer) 1 x.recipient d.tasks r w.to);
          room = let z = reach.fits in let y : length (bytes_of c.cut.here) ≡ length reach.old = ap (λ (v : List ℕ).
              length v) c.bytes in omega arith;
          filled = after ∙ ap (λ s. Some (record r { slot = s })) now;
          answered = refl;
        })))

  -- a message of the desk's own
  mine-fills : {o : Offered} {e : ℕ → ℕ → Bool} (R : Gave) →
      ((m.code ≡ Acknowledge → ⊥) → Taken o e (masked R (view d)) t.handle (letter_of m m.message.body)) → Fill (handled d t m m.code)
  mine-fills {o} {e} R came =
      act-own (Leaves k) t (own-leaves t.handle k ne) d m
      (λ back b x. (back ≡ false → Taken o e (masked R (view d)) t.handle (letter_of m b)) → Fill x)
      (λ back b x leaves tk. inl leaves) (λ buffer n x source r sent it s leaves tk. fetch-fills buffer n x source r sent it s leaves R (tk refl))
      (handled-acts d t m m.code) (λ back. came (not-back m.code back))

  -- a message of a task with code of its own: the recipient of what is sent is its sender
  theirs-fills : ((r : Task) → task_at m.message.from d ≡ Some r → is_raw r.manner ≡ true) → Fill (handled d t m m.code)
  theirs-fills codes =
      act-own (Leaves k) t (own-leaves t.handle k ne) d m (λ back b x. Fill x)
      (λ back b x leaves. inl leaves) (λ buffer n x source r sent it s leaves.
      let found = and_right _ (sender.would_answer m.message.from m.message.your_ref n x) it.passes in
      let from : m.message.from ≡ x.recipient = (would_tells x (fetch_in m buffer n) found).from in
      range-fills buffer n x source r sent it s leaves (codes r (subst (λ j. task_at j d ≡ Some r) (sym from) s.to)))
      (handled-acts d t m m.code)

-- ---- a poll

-- the other task after an answer
abbrev FillsAt : Desk → Task → ℕ → Answer → Type 0
FillsAt d t h a = (task_at h a.0 ≡ task_at h d) ⊎ Fills t h (task_at h d) (task_at h a.0) a.1

-- the handling of a message as it is read, of whichever task
read-fills : (k : ℕ) (t : Task) → t.handle ≢ k → (d : Desk) (m : Parcel) {o : Offered} {e : ℕ → ℕ → Bool} {R : Gave} {H : ℕ → Bool} →
    Given o e R H d t m → FillOf k t d (as_read m) (handled d t (as_read m) m.code)
read-fills k t ne d m {o} {e} {R} {H} w = go (R m.message.my_ref) refl
  where
    go : (b : Bool) → R m.message.my_ref ≡ b → FillOf k t d (as_read m) (handled d t (as_read m) m.code)
    go true theirs = theirs-fills k t ne d (as_read m) w.is (λ r at_.
        let live = live_of d m.message.from r at_ in
        sym (field_is (λ y. is_raw y.manner) false m.message.from d.tasks r at_) ∙ w.raws.manners m.message.from live ∙ sym w.sender ∙ theirs)
    go false mine =
        let seen : (masked_message R (seen_parcel m)).letter ≡ letter_of m m.message.body = rw mine refl in
        let same = read_same m (known_kind m.message.body (ap (λ (z : Letter). is_known z.kind) (sym seen) ∙ w.kind)) in
        mine-fills k t ne d (as_read m) w.is R (λ came.
        subst (λ (z : Parcel). Taken o e (masked R (view d)) t.handle (letter_of z z.message.body)) (sym same)
        (subst (λ z. Taken o e (masked R (view d)) t.handle z) seen (w.came came)))

-- what the poll of a task answers and leaves
abbrev polled : Desk → Task → Answer
polled d t = poll_taken (with_delivered (post_poll t.handle d.post).0 d) t (post_poll t.handle d.post).1

module _ {o : Offered} {e : ℕ → ℕ → Bool} {R : Gave} (d : Desk) (f : Fits d) (g : Stands o e R (view d)) (h : ℕ) where
  polled-fills : (t : Task) → t.handle ≢ h → task_of t.handle d.tasks ≡ Some t → FillsAt d t h (polled d t)
  unfolding poll_taken with_delivered
  polled-fills t ne is = go (post_poll t.handle d.post).1 refl
    where
      at_ : Desk
      at_ = with_delivered (post_poll t.handle d.post).0 d

      told : {a : Answer} → Leaves h at_ a.0 ⊎ Fills t h (task_at h at_) (task_at h a.0) a.1 → FillsAt d t h a
      told (inl leaves) = inl leaves.same
      told (inr fills) = inr fills

      go : (v : Option Parcel) → (post_poll t.handle d.post).1 ≡ v → FillsAt d t h (poll_taken at_ t v)
      go None q = inl refl
      go (Some m) q = told {a = event (as_read m) (received at_ t (as_read m))}
          (either (λ (x : Handled). FillOf h t at_ (as_read m) x) (is_raw t.manner) (at_, outcome.Taken) (handled at_ t (as_read m) m.code)
          (λ its. inl (record { same = refl }))
          (λ plays. read-fills h t ne at_ m (given d t f is g (post_poll t.handle d.post) (f.polled t.handle)
          (poll_taken_is d t.handle f (live_of d t.handle t is)) m q)))

-- a filled buffer leaves the flex blocks
blocks-left : (d : Desk) (t : Task) (h : ℕ) (a : Answer) → is_raw_at h d ≡ false → FillsAt d t h a →
    option_map flex_blocks (task_at h a.0) ≡ option_map flex_blocks (task_at h d)
blocks-left d t h a plays (inl same) = ap (option_map flex_blocks) same
blocks-left d t h a plays (inr (inl w)) = ap (option_map flex_blocks) w.filled ∙ sym (ap (option_map flex_blocks) w.was)
blocks-left d t h a plays (inr (inr w)) =
    absurd (let z : Bool.true ≡ false = sym w.codes ∙ ap is_raw_task (sym w.was) ∙ plays in (cc))

-- what holds of the poll of each task that may have the name holds of the command
by-name : (P : Answer → Type 0) (d : Desk) (name : List ℕ) → ((r : Refusal) → P (instead_of d r)) →
    ((t : Task) → named name d ≡ Ok t → P (polled d t)) → P (step d (command.Poll name))
unfolding poll
by-name P d name none one = bind P (named name d) _ (instead_of d) none (λ t q. done P _ (instead_of d) (one t q))

module _ {o : Offered} {e : ℕ → ℕ → Bool} {R : Gave} (d : Desk) (f : Fits d) (g : Stands o e R (view d)) where
  pub polls-fill : PollsFill d
  polls-fill name sender h found ne =
      by-name (FillsAt d sender h) d name (λ r. inl refl) (λ t q.
      let one : Some t ≡ Some sender = sym (found_name d name t q) ∙ found in
      let same : t ≡ sender = cc in
      subst (λ u. FillsAt d sender h (polled d u)) (sym same)
      (polled-fills d f g h sender ne (the_task d name sender f (subst (λ u. named name d ≡ Ok u) same q))))

  poll-blocks : (name : List ℕ) (h : ℕ) → handle_of name d ≢ Some h → is_raw_at h d ≡ false →
      option_map flex_blocks (task_at h (step d (command.Poll name)).0) ≡ option_map flex_blocks (task_at h d)
  poll-blocks name h ne plays =
      by-name (λ (a : Answer). option_map flex_blocks (task_at h a.0) ≡ option_map flex_blocks (task_at h d)) d name (λ r. refl)
      (λ t q. blocks-left d t h (polled d t) plays (polled-fills d f g h t (other-task h name d t ne q) (the_task d name t f q)))

  other-blocks : (c : Command) → poller c d ≡ None → (h : ℕ) → actor c d ≢ Some h → moves_to c ≢ Some h →
      option_map flex_blocks (task_at h (step d c).0) ≡ option_map flex_blocks (task_at h d)
  other-blocks c p h ne away = ap (option_map flex_blocks) (leaves-others d c h p ne away)

  pub keeps-blocks : KeepsBlocks d
  keeps-blocks (command.Poll name) h ne away plays = poll-blocks name h ne plays
  keeps-blocks c h ne away plays = other-blocks c refl h ne away
