-- What went out of each transfer is a front of what was offered.
use Rattle.rh_laws.proofs.Common.{◌≡◌, ◌≢◌, ℕ, ◌+◌, ◌≤◌, ◌<◌, Bool, true, false, not, ◌&&◌, List, [], ◌∷◌, ◌++◌, length, take, drop, Option}
use Rattle.rh_laws.proofs.Common.{Some, None, refl, sym}
use Rattle.rh_laws.proofs.Common.{ap, ◌∙◌, subst, inl, inr, arith, eqb_tells, ◌==◌, find, filter, option_map, AllByRecursion, Ok}
use Rattle.rh_laws.proofs.Common.{unwrap_or, Refusal, Command, Manner, Body, Parcel, Post, post_poll, Desk, Task, Slot, has_name, named}
use Rattle.rh_laws.proofs.Common.{next_ref, send_letter, task_at}
use Rattle.rh_laws.proofs.Common.{with_delivered, with_sending, with_taking, with_task, taking_ended, appended, Answer, Letter, Handled, Sending}
use Rattle.rh_laws.proofs.Common.{Taking, Incoming}
use Rattle.rh_laws.proofs.Common.{Outgoing, Outcome, Reply, Part, Split, Flex, handled, poll, poll_taken, start_task, kill, make, save, repeat, cancel_in}
use Rattle.rh_laws.proofs.Common.{cancel_out, change, step, after, start_with, all_in_range, in_range, OnGrant, granted, granted-past}
use Rattle.rh_laws.proofs.Common.{granted-then, granted-with, granted-both}
use Rattle.rh_laws.proofs.Common.{◌⊎◌, EventCode, User, Recorded, Acknowledge, Granted, Err, or_else, idle_block, or_else-keeps, chosen, either}
use Rattle.rh_laws.proofs.Common.{any-grant, found_name, is_found, is_equal, and_left, and_right, Has, has_of, first_is, none_some}
use Rattle.rh_laws.proofs.Common.{Changed, IsOnMemory, granted-on, in_areas, in_made, in_module, in_nothing, in_slot, Offers, Edits, at_place}
use Rattle.rh_laws.proofs.Common.{put_other, put_same, same_value}
use Rattle.rh_laws.proofs.Common.{Fits, fits, the_task, task_of, field_is, view, blocks_of, out_id, with_id, is_open, IsDesk, step-keeps}
use Rattle.rh_laws.proofs.Common.{start-is, open_of, found_task}
use Rattle.std.specs.List.{flat_map}
use Rattle.rh_defs.proofs.Chains.{grant-holds}
use Rattle.rh_defs.specs.declared.command.Command.TheVariants as command
use Rattle.rh_defs.specs.declared.message.Body.TheVariants as body
use Rattle.rh_defs.specs.declared.refusal.Refusal.TheVariants.{NotOpen}
use Rattle.rh_defs.specs.declared.raw_command.RawCommand.TheVariants as raw
use Rattle.rh_defs.specs.declared.reply.Outcome.TheVariants as outcome
use Rattle.rh_defs.specs.declared.reply.Reply.TheVariants as reply
use Rattle.rh_defs.specs.declared.transfer.Outgoing.TheVariants as outgoing
use Rattle.rh_defs.specs.AnyMessage.{as_read, read_body}
use Rattle.rh_defs.specs.Commands.{with_released}
use Rattle.rh_defs.specs.Desk.{edit_task}
use Rattle.rh_defs.specs.IncomingEvents.{without_buffer}
use Rattle.rh_defs.specs.OutgoingEvents.{scrap_shortage, wider}
use Rattle.rh_defs.specs.Letters.{transmit_letter}
use Rattle.rh_defs.specs.Places.{buffer_at, bytes_held, written_held, written_in}
use Rattle.rh_defs.specs.RawCommands.{ack, after_answer, send, spool, transfer}
use Rattle.rh_defs.specs.RawTasks.{is_raw}
use Rattle.rh_defs.specs.Receiver as receiver
use Rattle.rh_defs.specs.Sender as sender
use Rattle.rh_defs.specs.Transfer.{answers_none, received}
use Rattle.rh_safety.specs.Counts.{AlwaysCounts}
use Rattle.rh_safety.specs.Given.{is_bounce}
use Rattle.rh_safety.specs.Held.{edits_from}
use Rattle.rh_safety.specs.Numbers.{GoUp, refs_in}
use Rattle.rh_safety.specs.Offered.{bytes_of_block, last_of, offered, offered_again, offered_last, offers_from, offers_next, repeated_next}
use Rattle.rh_safety.specs.Offered.{saved_next, source_of}
use Rattle.rh_safety.specs.RawIds.{Gave, gave_from}
use Rattle.rh_safety.proofs.Acts.{Act, ForOpen, Sends, abandons, asks, claims, fails, finishes, gives_up, handled-acts, is_back, loads, loads_only, part_of}
use Rattle.rh_safety.proofs.Acts.{poured, saves, sends, skips, takes_full, takes_last, takes_some, transmit_of}
use Rattle.rh_safety.proofs.Basics.{open_is, take_more}
use Rattle.rh_safety.proofs.Keeps.{Stands}
use Rattle.rh_safety.proofs.Numbers.{numbers-go-up}
use Rattle.rh_safety.proofs.SeenBlocks.{the_block}
use Rattle.rh_safety.proofs.SeenFrames.{bind, done, instead_of}
use Rattle.rh_safety.proofs.SeenLaws.{block_is, keeps, start_stands}
use Rattle.rh_laws.specs.Addressed.{Addresses, AgreesOut, From, Parties, addresses_next}
use Rattle.rh_laws.specs.Moved.{IsFront, Moved, SendsFront, SendsOffered, went_out, moved_by, moved_bytes, moved_event, moved_from, moved_next, moved_polled}
use Rattle.rh_laws.proofs.AddressLaws.{step-agrees}
use Rattle.rh_laws.proofs.Addresses.{Agrees, OutAgrees, TaskAgrees, all-has, all-more, all-with}
use Rattle.rh_laws.proofs.Frames.{edit-other, edit-own, less-other}

-- ---- what is known of the task of each handle

abbrev Of : (ℕ → Task → Type 0) → Desk → Type 0
Of Q d = (k : ℕ) (u : Task) → task_at k d ≡ Some u → Q k u

none-edited : (h : ℕ) (f : Task → Task) → ((y : Task) → (f y).handle ≡ y.handle) → (ts : List Task) → task_of h ts ≡ None → task_of h (edit_task h f ts) ≡ None
none-edited h f kh [] q = refl
none-edited h f kh (x ∷ ts) q = elim (eqb_tells x.handle h) [
  | inl a ↦ absurd (let z : Some x ≡ None = rw a.0 at q in (cc))
  | inr a ↦ rw (a.0, a.0) (none-edited h f kh ts (rw a.0 at q))
]

edit-of : (Q P : ℕ → Task → Type 0) (h : ℕ) (f : Task → Task) → ((y : Task) → (f y).handle ≡ y.handle) →
    ((k : ℕ) (u : Task) → k ≢ h → Q k u → P k u) → ((u : Task) → Q h u → P h (f u)) → (d : Desk) → Of Q d → Of P (with_task h f d)
unfolding with_task
edit-of Q P h f kh away here d all k u at_ = elim (eqb_tells h k) [
  | inr a ↦ away k u (λ e. a.1 (sym e)) (all k u (sym (edit-other h k f kh d.tasks a.1) ∙ at_))
  | inl a ↦ subst (λ j. P j u) a.1 (own (task_of h d.tasks) refl (subst (λ j. task_of j (edit_task h f d.tasks) ≡ Some u) (sym a.1) at_))
]
  where
    own : (v : Option Task) → task_of h d.tasks ≡ v → task_of h (edit_task h f d.tasks) ≡ Some u → P h u
    own None e q = absurd (none_some _ (none-edited h f kh d.tasks e) q)
    own (Some t) e q =
        let z : Some (f t) ≡ Some u = sym (edit-own h f kh d.tasks t e) ∙ q in
        let same : f t ≡ u = cc in
        subst (P h) same (here t (all h t e))

-- ---- records of which something holds

-- of each record of each task
abbrev Each : (Outgoing → Type 0) → Desk → Type 0
Each P d = Of (λ k u. AllByRecursion P u.sending) d

module _ (P : Outgoing → Type 0) where
  -- an edit that leaves the records
  calm : (h : ℕ) (f : Task → Task) → ((y : Task) → (f y).handle ≡ y.handle) → ((y : Task) → (f y).sending ≡ y.sending) → (d : Desk) → Each P d →
      Each P (with_task h f d)
  calm h f kh ks d all =
      edit-of (λ k u. AllByRecursion P u.sending) (λ k u. AllByRecursion P u.sending) h f kh (λ k u away x. x)
      (λ u x. subst (AllByRecursion P) (sym (ks u)) x) d all

  slot-each : (h : ℕ) (edit : Slot → Slot) (d : Desk) → Each P d → Each P (with_task h (λ (t : Task). record t { slot = edit t.slot }) d)
  slot-each h edit d all = calm h (λ (t : Task). record t { slot = edit t.slot }) (λ y. refl) (λ y. refl) d all

  ins-each : (h : ℕ) (edit : List Incoming → List Incoming) (d : Desk) → Each P d → Each P (with_taking h edit d)
  ins-each h edit d all = calm h (λ (t : Task). record t { taking = edit t.taking }) (λ y. refl) (λ y. refl) d all

  outs-each : (h : ℕ) (edit : List Outgoing → List Outgoing) → ((vs : List Outgoing) → AllByRecursion P vs → AllByRecursion P (edit vs)) → (d : Desk) →
      Each P d → Each P (with_sending h edit d)
  outs-each h edit keeps d all =
      edit-of (λ k u. AllByRecursion P u.sending) (λ k u. AllByRecursion P u.sending) h (λ (t : Task). record t { sending = edit t.sending }) (λ y. refl)
      (λ k u away x. x) (λ u x. keeps u.sending x) d all

  letter-each : (l : Letter) (d : Desk) → Each P d → OnGrant (Each P) (send_letter l d)
  unfolding send_letter
  letter-each l d all =
      granted-then _ _ λ sent e.
      granted (calm l.from (λ (t : Task). record t { last_sent = Some (l, sent.1) }) (λ y. refl) (λ y. refl) _ all)

  sent-each : (l : Letter) (d : Desk) {sent : Desk} → send_letter l d ≡ Ok sent → Each P d → Each P sent
  sent-each l d q all = grant-holds (letter-each l d all) q

  ended-each : (h : ℕ) (f : Taking) (edit : List Incoming → List Incoming) (d : Desk) → Each P d → Each P (taking_ended h f edit d)
  unfolding taking_ended
  ended-each h f edit d all = ins-each h edit _ (slot-each h (λ (s : Slot). without_buffer f.buffer s) d all)

  longer-each : (d : Desk) {e : Desk} (t : Task) (k : ℕ) (bytes : List ℕ) → appended d t k bytes ≡ Ok e → Each P d → Each P e
  unfolding appended
  longer-each d t k bytes q all = grant-holds edits q
    where
      edits : OnGrant (Each P) (appended d t k bytes)
      edits = granted-then _ _ λ document found. granted-then _ _ λ more e. granted-then _ _ λ s f. granted (slot-each t.handle (λ old. s) d all)

-- ---- commands by which no task polls

more-at : (k : ℕ) (new : Task) (ts : List Task) (u : Task) → task_of k (ts ++ new ∷ []) ≡ Some u → (task_of k ts ≡ Some u) ⊎ (u ≡ new)
more-at k new [] u q = elim (eqb_tells new.handle k) [
  | inl a ↦ inr (let z : Some new ≡ Some u = rw a.0 at q in let y : new ≡ u = cc in sym y)
  | inr a ↦ absurd (let z : None ≡ Some u = rw a.0 at q in (cc))
]
more-at k new (x ∷ ts) u q = elim (eqb_tells x.handle k) [
  | inl a ↦ inl (let z : Some x ≡ Some u = rw a.0 at q in rw a.0 z)
  | inr a ↦ rw a.0 (more-at k new ts u (rw a.0 at q))
]

none-left : (h : ℕ) (ts : List Task) → task_of h (filter (λ (t : Task). not (t.handle == h)) ts) ≡ None
none-left h [] = refl
none-left h (x ∷ ts) = elim (eqb_tells x.handle h) [
  | inl a ↦ rw a.0 (none-left h ts)
  | inr a ↦ rw (a.0, a.0) (none-left h ts)
]

module _ (P : Outgoing → Type 0) (fail : (x : Sending) → P (outgoing.Open x) → P (outgoing.Failed x.id x.count)) (d : Desk) (f : Fits d)
    (all : Each P d) where
  record Keeps (a : Answer) : Type 0 where
    each : Each P a.0

  still : {a : Answer} → Each P a.0 → OnGrant Keeps (Ok a)
  still each = granted (record { each = each })

  own : (name : List ℕ) (t : Task) → named name d ≡ Ok t → AllByRecursion P t.sending
  own name t q = all t.handle t (the_task d name t f q)

  start-keeps : (name : List ℕ) (buffer : ℕ) (manner : Manner) → OnGrant Keeps (start_task d name buffer manner)
  unfolding start_task
  start-keeps name buffer manner =
      granted-past _ _ _ λ a. granted-past _ _ _ λ b. granted-past _ _ _ λ c. granted-then _ _ λ s e.
      still (λ k u at_. elim (more-at k _ d.tasks u at_) [
        | inl x ↦ all k u x
        | inr x ↦ subst (λ (z : Task). AllByRecursion P z.sending) (sym x) tt
      ])

  kill-keeps : (name : List ℕ) → OnGrant Keeps (kill d name)
  unfolding kill with_delivered
  kill-keeps name = granted-then _ _ λ t e. still (left t.handle)
    where
      left : (h k : ℕ) (u : Task) → task_of k (filter (λ (y : Task). not (y.handle == h)) d.tasks) ≡ Some u → AllByRecursion P u.sending
      left h k u at_ = elim (eqb_tells h k) [
        | inr a ↦ all k u (sym (less-other h k d.tasks a.1) ∙ at_)
        | inl a ↦ absurd (none_some _ (none-left h d.tasks)
            (subst (λ j. task_of j (filter (λ (y : Task). not (y.handle == h)) d.tasks) ≡ Some u) (sym a.1) at_))
      ]

  changed-keeps : {c : Command} (a : Answer) → Changed c d a → Keeps a
  changed-keeps _ (in_slot name t s is e quiet) = record { each = slot-each P t.handle (λ old. s) d all }
  changed-keeps _ (in_module h quiet) = record { each = all }
  changed-keeps _ (in_areas areas quiet) = record { each = all }
  changed-keeps _ (in_made areas quiet) = record { each = all }
  changed-keeps _ (in_nothing quiet) = record { each = all }

  memory-keeps : (c : Command) → IsOnMemory c → OnGrant Keeps (change d c)
  memory-keeps c is = granted-on d c is changed-keeps

  make-keeps : (most : ℕ) → OnGrant Keeps (make d most)
  unfolding make
  make-keeps most = granted-past _ _ _ λ a. granted-past _ _ _ λ b. still all

  save-keeps : (name : List ℕ) (k : ℕ) (to leaf : List ℕ) →
      ((t : Task) (b : Split Flex) (r : ℕ) → named name d ≡ Ok t → bytes_of_block t.slot k ≡ Some b.here.bytes →
      P (outgoing.Open (sender.new_sending (next_ref d) r k))) → OnGrant Keeps (save d name k to leaf)
  unfolding save idle_block
  save-keeps name k to leaf new =
      granted-then _ _ λ t e. granted-with {Q = λ b. bytes_of_block t.slot k ≡ Some b.here.bytes} _ (idle t) λ b there.
      granted-past _ _ _ λ full. granted-then _ _ λ r g.
      granted-with _ (letter-each P _ d all) λ sent one. granted-past _ _ _ λ plays.
      still (outs-each P t.handle _ (λ vs old. all-more P is_open _ vs (new t b r.handle e there) old) sent one)
    where
      idle : (t : Task) → OnGrant (λ (b : Split Flex). bytes_of_block t.slot k ≡ Some b.here.bytes) (idle_block k t)
      idle t = granted-then _ _ λ b q. granted-past _ _ _ λ busy.
          granted (ap (option_map (λ (b : Split Flex). b.here.bytes)) (the_block k t.slot b q))

  released-each : (h : ℕ) (o : Option Taking) → Each P (with_released h o d)
  released-each h None = all
  released-each h (Some g) = slot-each P h (λ (s : Slot). without_buffer g.buffer s) d all

  cancel_in-keeps : (name : List ℕ) (id : Option ℕ) → OnGrant Keeps (cancel_in d name id)
  unfolding cancel_in
  cancel_in-keeps name id = granted-then _ _ λ t e. granted-then _ _ λ records g.
      still (ins-each P t.handle (λ old. records) _ (released-each t.handle (receiver.released_by id t.taking)))

  cancel_out-keeps : (name : List ℕ) (id : Option ℕ) → OnGrant Keeps (cancel_out d name id)
  unfolding cancel_out sender.cancel_sending
  cancel_out-keeps name id =
      granted-then _ _ λ t e. granted-with {Q = AllByRecursion P} _
      (granted-then _ _ λ x g. granted (all-with P out_id x.id (outgoing.Failed x.id x.count) t.sending
      (fail x (all-has P t.sending (outgoing.Open x) (own name t e) (open_is _ t.sending x (is_found _ NotOpen x g)).0)) (own name t e))) λ records each.
      still (outs-each P t.handle (λ old. records) (λ vs old. each) d all)

  answered-each : (sent : Desk) → Each P sent → Each P (after_answer sent)
  unfolding with_delivered
  answered-each sent each = each

  repeat-keeps : (name : List ℕ) → OnGrant Keeps (repeat d name)
  unfolding repeat
  repeat-keeps name =
      granted-then _ _ λ t e. granted-then _ _ λ last g. granted-with _ (letter-each P _ d all) λ sent one.
      still (chosen (Each P) (is_raw t.manner) (after_answer sent) sent (answered-each sent one) one)

  send-keeps : (name : List ℕ) (recorded : Bool) (h ref a : ℕ) (bytes : List ℕ) → OnGrant Keeps (send d name recorded h ref a bytes)
  unfolding send
  send-keeps name recorded h ref a bytes =
      granted-then _ _ λ t e. granted-with _ (letter-each P _ d all) λ sent one. granted-past _ _ _ λ its. granted-past _ _ _ λ was.
      still (answered-each sent one)

  ack-keeps : (name : List ℕ) → OnGrant Keeps (ack d name)
  unfolding ack with_delivered
  ack-keeps name = granted-then _ _ λ t e. granted-past _ _ _ λ its. still all

  spool-keeps : (name : List ℕ) (k h ref : ℕ) → OnGrant Keeps (spool d name k h ref)
  unfolding spool
  spool-keeps name k h ref =
      granted-then _ _ λ t e. granted-then _ _ λ b g. granted-past _ _ _ λ none. granted-both _ (any-grant _) λ x u. granted-past _ _ _ λ fits.
      granted-with _ (letter-each P _ (wider (scrap_shortage (length b.here.bytes) d) d) all) λ sent one.
      granted-past _ _ _ λ its. granted-past _ _ _ λ was. still one

  transfer-keeps : (name : List ℕ) (x h y n : ℕ) → OnGrant Keeps (transfer d name x h y n)
  unfolding transfer
  transfer-keeps name x h y n =
      granted-then _ _ λ t e. granted-past _ _ _ λ open_. granted-then _ _ λ r g. granted-past _ _ _ λ its.
      still (slot-each P r.handle (λ (s : Slot). written_held y (bytes_held x n t.slot) s) d all)

  so : (c : Command) → OnGrant Keeps (change d c) → Each P (step d c).0
  so c q = (or_else-keeps Keeps _ q (λ refusal. record { each = all })).each

-- ---- what went out

-- the front of an open record's file is that of the failed one
fail-front : (o : Offers) (g : Moved) (x : Sending) → SendsFront o g (outgoing.Open x) → SendsFront o g (outgoing.Failed x.id x.count)
fail-front o g x w = record { file = w.file; is = w.is; front = w.front }

-- words that agree on a record's id
same-front : (o p : Offers) (g k : Moved) (v : Outgoing) → o (out_id v) ≡ p (out_id v) → g (out_id v) ≡ k (out_id v) → SendsFront o g v → SendsFront p k v
same-front o p g k v e q w = record { file = w.file; is = sym e ∙ w.is; front = subst (IsFront v w.file) q w.front }

-- where no bytes go out
moved-none : (g : Moved) (t : Task) (m : Parcel) (back : Bool) (b : Body) (r : Refusal) → moved_by g t m back b (outcome.Refused r) ≡ g
moved-none g t m false (body.RamFetch buffer room) r = refl
moved-none g t m back b r = refl

ignored-none : (g : Moved) (t : Task) (m : Parcel) (back : Bool) (b : Body) → moved_by g t m back b outcome.Ignored ≡ g
ignored-none g t m false (body.RamFetch buffer room) = refl
ignored-none g t m back b = refl

taken-none : (g : Moved) (t : Task) (m : Parcel) (back : Bool) (b : Body) → moved_by g t m back b outcome.Taken ≡ g
taken-none g t m false (body.RamFetch buffer room) = refl
taken-none g t m back b = refl

module _ {o : Offers} {g : Moved} (a : Addresses) (d : Desk) (t : Task) (m : Parcel) (is : task_of t.handle d.tasks ≡ Some t)
    (all : Each (SendsFront o g) d) (agrees : (k : ℕ) (u : Task) → task_at k d ≡ Some u → AllByRecursion (OutAgrees a u.handle) u.sending) where
  abbrev P : Outgoing → Type 0
  P = SendsFront o g

  -- what is known of the record that a message is for
  opened : (x : Sending) → Has (outgoing.Open x) t.sending → P (outgoing.Open x)
  opened x has = all-has P t.sending (outgoing.Open x) (all t.handle t is) has

  -- nothing went out
  abbrev Out : Bool → Body → Handled → Type 0
  Out back b x = Each (SendsFront o (moved_by g t m back b x.1)) x.0

  in-words : (e : Desk) {h : Moved} → h ≡ g → Each P e → Each (SendsFront o h) e
  in-words e q each = subst (λ (z : Moved). Each (SendsFront o z) e) (sym q) each

  turned : (e : Desk) (id : ℕ) (v : Outgoing) → P v → Each P e → Each P (with_sending t.handle (λ vs. with_id out_id id v vs) e)
  turned e id v p each = outs-each P t.handle (λ vs. with_id out_id id v vs) (λ vs old. all-with P out_id id v vs p old) e each

  -- ---- bytes that go out

  module _ (buffer n : ℕ) (x : Sending) (source : Split Flex) (r : Task) (sent : Desk) (it : ForOpen d t m false (body.RamFetch buffer n) x)
      (w : Sends d t m buffer n x source r sent) (of : (file : List ℕ) → o x.id ≡ Some file → bytes_of_block t.slot x.anchor ≡ Some file) where
    abbrev p : Part
    p = part_of d t m buffer n x source

    abbrev S : List ℕ
    S = source.here.bytes

    abbrev g2 : Moved
    g2 = at_place g x.id (g x.id ++ take p.n (drop x.count S))

    there : bytes_of_block t.slot x.anchor ≡ Some S
    there = ap (option_map (λ (b : Split Flex). b.here.bytes)) (the_block x.anchor t.slot source w.source_is)

    -- by the poll's reply
    moved-is : moved_by g t m false (body.RamFetch buffer n) (outcome.Sent p.n (next_ref d)) ≡ g2
    moved-is =
        let plays : not (answers_none t.manner) ≡ true = and_left (not (answers_none t.manner)) _ it.passes in
        let found : open_of (sender.would_answer m.message.from m.message.your_ref n) t.sending ≡ Some x =
        subst (λ c. open_of (λ (y : Sending). c && sender.would_answer m.message.from m.message.your_ref n y) t.sending ≡ Some x) plays it.found in
        ap (λ v. moved_bytes g t v p.n) found ∙
        ap (λ (v : Option (List ℕ)). at_place g x.id (g x.id ++ take p.n (drop x.count (unwrap_or v [])))) there

    old : P (outgoing.Open x)
    old = opened x it.has

    -- the file is the source
    file-is : old.file ≡ S
    file-is = same_value (bytes_of_block t.slot x.anchor) (of old.file old.is) there

    offered-is : o x.id ≡ Some S
    offered-is = old.is ∙ ap Some file-is

    more : g2 x.id ≡ take (x.count + p.n) S
    more = put_same g x.id (g x.id ++ take p.n (drop x.count S)) ∙ ap (λ (y : List ℕ). y ++ take p.n (drop x.count S)) (old.front ∙ ap (take x.count) file-is) ∙
        sym (take_more x.count p.n S)

    now : SendsFront o g2 (sender.after_sent (transmit_of d t m buffer n x) p (next_ref d))
    now = either (SendsFront o g2) p.is_last (outgoing.Done x.id (p.offset + p.n)) (outgoing.Open (record x { count = p.offset + p.n; last = next_ref d }))
        (λ less. record { file = S; is = offered-is; front = (x.count + p.n, more) })
        (λ full. record { file = S; is = offered-is; front = more })

    -- records of other ids, and those of other tasks
    apart : (v : Outgoing) → out_id v ≢ x.id → P v → SendsFront o g2 v
    apart v ne q = same-front o o g g2 v refl (sym (put_other g x.id (g x.id ++ take p.n (drop x.count S)) (out_id v) ne)) q

    abbrev Others : Task → Type 0
    Others u = AllByRecursion (λ (v : Outgoing). out_id v ≢ x.id → SendsFront o g2 v) u.sending

    abbrev Between : ℕ → Task → Type 0
    Between k u = (k ≢ t.handle → AllByRecursion (SendsFront o g2) u.sending) × Others u

    sender-of : (v : Outgoing) (h : ℕ) → AgreesOut (a (out_id v)) h v → (s : ℕ) × From (a (out_id v)) h s
    sender-of (outgoing.Open y) h q = (y.recipient, q)
    sender-of (outgoing.Done i k) h q = q
    sender-of (outgoing.Failed i k) h q = q

    abbrev sender-in : Option Parties → ℕ
    sender-in None = 0
    sender-in (Some both) = both.sender

    -- an id is of one task
    one-task : (k : ℕ) (u : Task) (v : Outgoing) → task_at k d ≡ Some u → Has v u.sending → out_id v ≡ x.id → k ≡ t.handle
    one-task k u v at_ has same =
        let mine = sender-of v u.handle (all-has (OutAgrees a u.handle) u.sending v (agrees k u at_) has) in
        let his = sender-of (outgoing.Open x) t.handle (all-has (OutAgrees a t.handle) t.sending (outgoing.Open x) (agrees t.handle t is) it.has) in
        let handle : u.handle ≡ t.handle = ap sender-in (sym mine.1 ∙ ap a same ∙ his.1) in
        sym (is_equal _ _ (first_is (λ (y : Task). y.handle == k) d.tasks u at_).1) ∙ handle

    each-from : {Q R : Outgoing → Type 0} (vs : List Outgoing) → ((v : Outgoing) → Has v vs → Q v → R v) → AllByRecursion Q vs → AllByRecursion R vs
    each-from [] keeps q = tt
    each-from (v ∷ vs) keeps q = (keeps v (inl refl) q.0, each-from vs (λ y has. keeps y (inr has)) q.1)

    between : Of Between d
    between k u at_ = (
      (λ away. each-from u.sending (λ v has q. apart v (λ e. away (one-task k u v at_ has e)) q) (all k u at_)),
      each-from u.sending (λ v has q ne. apart v ne q) (all k u at_),
    )

    letter-between : (l : Letter) → OnGrant (Of Between) (send_letter l d)
    unfolding send_letter
    letter-between l =
        granted-then _ _ λ y e.
        granted (edit-of Between Between l.from (λ (u : Task). record u { last_sent = Some (l, y.1) }) (λ u. refl) (λ k u away q. q) (λ u q. q) _ between)

    replaced : (v : Outgoing) → SendsFront o g2 v → (vs : List Outgoing) → AllByRecursion (λ (y : Outgoing). out_id y ≢ x.id → SendsFront o g2 y) vs →
        AllByRecursion (SendsFront o g2) (with_id out_id x.id v vs)
    replaced v q [] each = tt
    replaced v q (y ∷ vs) each = elim (eqb_tells (out_id y) x.id) [
      | inl e ↦ rw e.0 (q, replaced v q vs each.1)
      | inr e ↦ rw e.0 (each.0 e.1, replaced v q vs each.1)
    ]

    sends-out : (l : Letter) → send_letter l d ≡ Ok sent → (edit : Slot → Slot) →
        Each (SendsFront o g2) (with_sending t.handle (sender.sent (transmit_of d t m buffer n x) p (next_ref d))
        (with_task r.handle (λ (u : Task). record u { slot = edit u.slot }) sent))
    sends-out l q edit =
        edit-of Between (λ k u. AllByRecursion (SendsFront o g2) u.sending) t.handle
        (λ (u : Task). record u { sending = sender.sent (transmit_of d t m buffer n x) p (next_ref d) u.sending }) (λ u. refl)
        (λ k u away y. y.0 away)
        (λ u y. replaced (sender.after_sent (transmit_of d t m buffer n x) p (next_ref d)) now u.sending y.1)
        (with_task r.handle (λ (u : Task). record u { slot = edit u.slot }) sent)
        (edit-of Between Between r.handle (λ (u : Task). record u { slot = edit u.slot }) (λ u. refl) (λ k u away y. y) (λ u y. y) sent
        (grant-holds (letter-between l) q))

  -- ---- each message

  module _ (of : (x : Sending) → Has (outgoing.Open x) t.sending → (file : List ℕ) → o x.id ≡ Some file → bytes_of_block t.slot x.anchor ≡ Some file) where
    act-moves : {back : Bool} {b : Body} {x : Handled} → Act d t m back b x → Out back b x
    act-moves (skips {back = back} {b = b} none) = in-words d (ignored-none g t m back b) all
    act-moves (fails {back = true} x y it z) =
        turned d x.id (outgoing.Failed x.id x.count) (fail-front o g x (opened x it.has)) all
    act-moves (fails {back = false} {b = b} x y it z) =
        in-words (with_sending t.handle (sender.sending_failed x) d) (ap (moved_by g t m false b) z.1 ∙ moved-none g t m false b z.0)
        (turned d x.id (outgoing.Failed x.id x.count) (fail-front o g x (opened x it.has)) all)
    act-moves (sends {buffer = buffer} {n = n} x source r sent it w) =
        let p : Part = part_of d t m buffer n x source in
        subst (λ (z : Moved). Each (SendsFront o z) (with_sending t.handle (sender.sent (transmit_of d t m buffer n x) p (next_ref d))
        (poured d t m buffer n p source r sent))) (sym (moved-is buffer n x source r sent it w (of x it.has)))
        (sends-out buffer n x source r sent it w (of x it.has) (transmit_letter t.handle (transmit_of d t m buffer n x) p) w.letter
        (λ (s : Slot). written_in buffer (take p.n (drop p.offset source.here.bytes)) (buffer_at buffer n s) s))
    act-moves (saves x source sent it there none l) =
        let q = opened x it.has in
        turned (record sent { scrap = Some _ }) x.id (outgoing.Open (record x { last = next_ref d })) (record { file = q.file; is = q.is; front = q.front })
        (sent-each P _ (wider (scrap_shortage (length source.here.bytes) d) d) l all)
    act-moves (finishes x source it there) =
        let q = opened x it.has in
        turned d x.id (outgoing.Done x.id (length source.here.bytes)) (record { file = q.file; is = q.is; front = (x.count, q.front) }) all
    act-moves (claims k b p sent few free claim alloc l) =
        ins-each P t.handle _ sent (sent-each P _ _ l (slot-each P t.handle (λ s. p.0) d all))
    act-moves (gives_up {back = true} f y it z) = ended-each P t.handle f _ d all
    act-moves (gives_up {back = false} {b = body.RamTransmit buffer n} f y it z) = ended-each P t.handle f _ d all
    act-moves (gives_up f y it z) = absurd (let z : false ≡ true = it.passes in (cc))
    act-moves (takes_last f e it l less) = ended-each P t.handle f _ e (longer-each P d t _ _ l all)
    act-moves (takes_some f e y it l) = ended-each P t.handle f _ e (longer-each P d t _ _ l all)
    act-moves (takes_full f e sent it l full s) = ins-each P t.handle _ sent (sent-each P _ e s (longer-each P d t _ _ l all))
    act-moves (asks f sent it none l) = ended-each P t.handle f _ sent (sent-each P _ d l all)
    act-moves (abandons {back = true} q y it z) = ins-each P t.handle _ d all
    act-moves (abandons {back = false} {b = body.DataLoad file} q y it z) = ins-each P t.handle _ d all
    act-moves (abandons q y it z) = absurd (let z : false ≡ true = it.passes in (cc))
    act-moves (loads_only q file e y it w) = ins-each P t.handle _ (record e { scrap = None }) (longer-each P d t _ _ w.longer_is all)
    act-moves (loads q file e sent it w l) =
        ins-each P t.handle _ sent (sent-each P _ (record e { scrap = None }) l (longer-each P d t _ _ w.longer_is all))

-- ---- a poll

bounce-is : (c : EventCode) → is_bounce c ≡ is_back c
bounce-is User = refl
bounce-is Recorded = refl
bounce-is Acknowledge = refl

module _ {o : Offers} {e : Edits} {R : Gave} {a : Addresses} {g : Moved} (d : Desk) (f : Fits d) (stands : Stands o e R (view d)) (agrees : Agrees a d)
    (all : Each (SendsFront o g) d) where
  -- the records of each task agree with whom their transfers were offered to
  all-agree : (k : ℕ) (u : Task) → task_at k d ≡ Some u → AllByRecursion (OutAgrees a u.handle) u.sending
  all-agree k u at_ = (all-has (TaskAgrees a) d.tasks u agrees.of_tasks (first_is (λ (y : Task). y.handle == k) d.tasks u at_).0).outs

  -- an open record's source is what was offered
  source-of : (t : Task) → task_of t.handle d.tasks ≡ Some t → (x : Sending) → Has (outgoing.Open x) t.sending → (file : List ℕ) → o x.id ≡ Some file →
      bytes_of_block t.slot x.anchor ≡ Some file
  source-of t is x has file offers =
      let seen = subst (λ (vs : List Outgoing). Has (outgoing.Open x) vs) (sym (field_is (λ y. y.sending) [] t.handle d.tasks t is)) has in
      let w = stands.good.inv.outs.source t.handle x seen in
      let mine = stands.same x.id (stands.raws.outs t.handle (outgoing.Open x) seen) in
      let one : w.all ≡ file = same_value (stands.offers x.id) w.offered (mine ∙ offers) in
      sym (block_is t.slot x.anchor) ∙ ap (λ (m : ℕ → Option (List ℕ)). m x.anchor) (sym (field_is (λ y. blocks_of y.slot) (λ k. None) t.handle d.tasks t is)) ∙
      w.there ∙ ap Some one

  abbrev at_post : Post → Desk
  at_post p = with_delivered p d

  received-moves : (t : Task) (p : Post) (m : Parcel) → task_of t.handle d.tasks ≡ Some t →
      Each (SendsFront o (moved_by g t m (is_bounce m.code) (read_body m.message.body) (received (at_post p) t (as_read m)).1))
      (received (at_post p) t (as_read m)).0
  unfolding with_delivered
  received-moves t p m is =
      either (λ (x : Handled). Each (SendsFront o (moved_by g t m (is_bounce m.code) (read_body m.message.body) x.1)) x.0) (is_raw t.manner)
      (at_post p, outcome.Taken) (handled (at_post p) t (as_read m) m.code)
      (λ its. subst (λ (z : Moved). Each (SendsFront o z) (at_post p)) (sym (taken-none g t m (is_bounce m.code) (read_body m.message.body))) all)
      (λ plays.
      let x = handled (at_post p) t (as_read m) m.code in
      subst (λ (b : Bool). Each (SendsFront o (moved_by g t m b (read_body m.message.body) x.1)) x.0) (sym (bounce-is m.code))
      (act-moves a (at_post p) t (as_read m) is all all-agree (source-of t is) (handled-acts (at_post p) t (as_read m) m.code)))

  polled-moves : (t : Task) → task_of t.handle d.tasks ≡ Some t → (v : Option Parcel) →
      let at_ : Desk = at_post (post_poll t.handle d.post).0 in
      Each (SendsFront o (moved_event g t v (poll_taken at_ t v).1)) (poll_taken at_ t v).0
  unfolding poll_taken with_delivered
  polled-moves t is None = all
  polled-moves t is (Some m) = received-moves t (post_poll t.handle d.post).0 m is

  refused-none : (v : Option Task) (r : Refusal) → moved_polled g d v (reply.Refused r) ≡ g
  refused-none None r = refl
  refused-none (Some t) r = go (post_poll t.handle d.post).1
    where
      go : (v : Option Parcel) → moved_event g t v (reply.Refused r) ≡ g
      go None = refl
      go (Some m) = refl

  poll-moves : (name : List ℕ) → let c = command.Poll name in Each (SendsFront o (moved_next g d c (step d c).1)) (step d c).0
  unfolding poll
  poll-moves name =
      let P : Answer → Type 0 = λ x. Each (SendsFront o (moved_polled g d (find (has_name name) d.tasks) x.1)) x.0 in
      bind P (named name d) _ (instead_of d)
      (λ r. subst (λ (z : Moved). Each (SendsFront o z) d) (sym (refused-none (find (has_name name) d.tasks) r)) all) (λ t q. done P _ (instead_of d) (
      let x = poll_taken (with_delivered (post_poll t.handle d.post).0 d) t (post_poll t.handle d.post).1 in
      subst (λ (v : Option Task). Each (SendsFront o (moved_polled g d v x.1)) x.0) (sym (found_name d name t q))
      (polled-moves t (the_task d name t f q) (post_poll t.handle d.post).1)))

-- ---- one command

sent_least : (d : Desk) (c : Command) (ref : ℕ) → (step d c).1 ≡ reply.Sent ref → next_ref d ≤ ref
sent_least d c ref q =
    (subst (λ (r : Reply). GoUp (next_ref d) (next_ref (step d c).0) (flat_map refs_in (r ∷ []))) q (numbers-go-up d (c ∷ [])).refs).0

rise_least : (least next : ℕ) (xs : List ℕ) → GoUp least next xs → least ≤ next
rise_least least next [] up = up
rise_least least next (x ∷ xs) up = let z = up.0 in let y = rise_least (x + 1) next xs up.1 in omega (arith, z, y)

next_least : (d : Desk) (c : Command) → next_ref d ≤ next_ref (step d c).0
next_least d c = rise_least (next_ref d) (next_ref (step d c).0) _ (numbers-go-up d (c ∷ [])).refs

-- old ids offer what they did
module _ (o : Offers) (d : Desk) (i : ℕ) (old : i < next_ref d) where
  away : (ref : ℕ) (x : Option (List ℕ)) → next_ref d ≤ ref → o i ≡ at_place o ref x i
  away ref x le = sym (put_other o ref x i (λ eq. omega (arith, le, old, eq)))

  saved-old : (name : List ℕ) (k : ℕ) (r : Reply) → ((ref : ℕ) → r ≡ reply.Sent ref → next_ref d ≤ ref) → o i ≡ saved_next o d name k r i
  saved-old name k (reply.Sent ref) least = away ref _ (least ref refl)
  saved-old name k r least = refl

  again-old : (ref was : ℕ) (b : Body) → next_ref d ≤ ref → o i ≡ offered_again o ref was b i
  again-old ref was (body.DataSave file) le = away ref (o was) le
  again-old ref was b le = refl

  last-old : (ref : ℕ) (last : _) → next_ref d ≤ ref → o i ≡ offered_last o ref last i
  last-old ref None le = refl
  last-old ref (Some l) le = again-old ref l.1 l.0.body le

  repeated-old : (name : List ℕ) (r : Reply) → ((ref : ℕ) → r ≡ reply.Sent ref → next_ref d ≤ ref) → o i ≡ repeated_next o d name r i
  repeated-old name (reply.Sent ref) least = last-old ref (last_of (find (has_name name) d.tasks)) (least ref refl)
  repeated-old name r least = refl

  offers-old : (c : Command) (r : Reply) → ((ref : ℕ) → r ≡ reply.Sent ref → next_ref d ≤ ref) → o i ≡ offers_next o d c r i
  offers-old (command.Save name k to leaf) r least = saved-old name k r least
  offers-old (command.Repeat name) r least = repeated-old name r least
  offers-old c r least = refl

-- nothing went out under ids to come
module _ (g : Moved) (d : Desk) (born : (i : ℕ) → next_ref d ≤ i → g i ≡ []) (i : ℕ) (le : next_ref d ≤ i) (t : Task)
    (below : (x : Sending) → Has (outgoing.Open x) t.sending → x.id < next_ref d) where
  bytes-born : (v : Option Sending) (n : ℕ) → ((x : Sending) → v ≡ Some x → Has (outgoing.Open x) t.sending) → moved_bytes g t v n i ≡ []
  bytes-born None n has = born i le
  bytes-born (Some x) n has =
      let lt = below x (has x refl) in
      put_other g x.id (g x.id ++ take n (drop x.count (unwrap_or (bytes_of_block t.slot x.anchor) []))) i (λ eq. omega (arith, le, lt, eq)) ∙ born i le

  by-born : (m : Parcel) (back : Bool) (b : Body) (r : Outcome) → moved_by g t m back b r i ≡ []
  by-born m false (body.RamFetch buffer room) (outcome.Sent n ref) =
      bytes-born _ n (λ x q. (open_is (sender.would_answer m.message.from m.message.your_ref room) t.sending x q).0)
  by-born m false (body.RamFetch buffer room) r = born i le
  by-born m back b r = born i le

  event-born : (v : Option Parcel) (r : Reply) → moved_event g t v r i ≡ []
  event-born (Some m) (reply.Event code action mine yours r) = by-born m (is_bounce m.code) (read_body m.message.body) r
  event-born v r = born i le

record Reached (o : Offers) (e : Edits) (R : Gave) (g : Moved) (d : Desk) : Type 0 where
  addresses : Addresses
  stands : Stands o e R (view d)
  kept : IsDesk d
  agrees : Agrees addresses d
  each : Each (SendsFront o g) d
  born : (i : ℕ) → next_ref d ≤ i → g i ≡ []

module _ {o : Offers} {e : Edits} {R : Gave} {g : Moved} (d : Desk) (w : Reached o e R g d) where
  f : Fits d
  f = fits d w.kept

  below-all : (k : ℕ) (u : Task) → task_at k d ≡ Some u → (v : Outgoing) → Has v u.sending → out_id v < next_ref d
  below-all k u at_ v has =
      w.stands.good.inv.order.out_below k v (subst (λ (vs : List Outgoing). Has v vs) (sym (field_is (λ y. y.sending) [] k d.tasks u at_)) has)

  -- the same of offers that agree on old ids
  each-as : (p : Offers) → ((i : ℕ) → i < next_ref d → o i ≡ p i) → Each (SendsFront p g) d
  each-as p same k u at_ = go u.sending (λ v has. below-all k u at_ v has) (w.each k u at_)
    where
      go : (vs : List Outgoing) → ((v : Outgoing) → Has v vs → out_id v < next_ref d) → AllByRecursion (SendsFront o g) vs → AllByRecursion (SendsFront p g) vs
      go [] lt q = tt
      go (v ∷ vs) lt q = (same-front o p g g v (same (out_id v) (lt v (inl refl))) refl q.0, go vs (λ y has. lt y (inr has)) q.1)

  module _ (c : Command) where
    least : (ref : ℕ) → (step d c).1 ≡ reply.Sent ref → next_ref d ≤ ref
    least ref said = sent_least d c ref said

    abbrev o2 : Offers
    o2 = offers_next o d c (step d c).1

    each2 : Each (SendsFront o2 g) d
    each2 = each-as o2 (λ i old. offers-old o d i old c (step d c).1 least)

    so-keeps : OnGrant (Keeps (SendsFront o2 g) (fail-front o2 g) d f each2) (change d c) → Each (SendsFront o2 g) (step d c).0
    so-keeps q = so (SendsFront o2 g) (fail-front o2 g) d f each2 c q

  -- a save, as it is where it is accepted
  module _ (name : List ℕ) (k : ℕ) (to leaf : List ℕ) where
    abbrev saved : Offers
    saved = at_place o (next_ref d) (source_of (find (has_name name) d.tasks) k)

    each-saved : Each (SendsFront saved g) d
    each-saved = each-as saved (λ i old. sym (put_other o (next_ref d) (source_of (find (has_name name) d.tasks) k) i (λ eq. omega (arith, old, eq))))

    save-says : OnGrant (λ (x : Answer). x.1 ≡ reply.Sent (next_ref d)) (save d name k to leaf)
    unfolding save
    save-says =
        granted-then _ _ λ t e. granted-then _ _ λ b q. granted-past _ _ _ λ full. granted-then _ _ λ r h. granted-then _ _ λ sent y.
        granted-past _ _ _ λ plays. granted refl

    save-all : OnGrant (Keeps (SendsFront saved g) (fail-front saved g) d f each-saved) (save d name k to leaf)
    save-all = save-keeps (SendsFront saved g) (fail-front saved g) d f each-saved name k to leaf (λ t b r q there. record {
      file = b.here.bytes;
      is = put_same o (next_ref d) (source_of (find (has_name name) d.tasks) k) ∙ ap (λ v. source_of v k) (found_name d name t q) ∙ there;
      front = w.born (next_ref d) (omega arith);
    })

    save-step : let c = command.Save name k to leaf in Each (SendsFront (offers_next o d c (step d c).1) g) (step d c).0
    unfolding or_else
    save-step = go (save d name k to leaf) save-all save-says
      where
        go : (x : Granted Answer) → OnGrant (Keeps (SendsFront saved g) (fail-front saved g) d f each-saved) x →
            OnGrant (λ (y : Answer). y.1 ≡ reply.Sent (next_ref d)) x →
            let y = or_else x (λ refusal. (d, reply.Refused refusal)) in Each (SendsFront (saved_next o d name k y.1) g) y.0
        go (Ok y) (granted a) (granted s) = subst (λ (r : Reply). Each (SendsFront (saved_next o d name k r) g) y.0) (sym s) a.each
        go (Err r) a s = w.each

  step-each : (c : Command) → Each (SendsFront (offers_next o d c (step d c).1) (moved_next g d c (step d c).1)) (step d c).0
  step-each (command.Task name buffer manner) = so-keeps (command.Task name buffer manner) (start-keeps _ _ d f _ name buffer manner)
  step-each (command.Kill name) = so-keeps (command.Kill name) (kill-keeps _ _ d f _ name)
  step-each (command.Save name k to leaf) = save-step name k to leaf
  step-each (command.Poll name) = poll-moves d f w.stands w.agrees w.each name
  step-each (command.CancelIn name id) = so-keeps (command.CancelIn name id) (cancel_in-keeps _ _ d f _ name id)
  step-each (command.CancelOut name id) = so-keeps (command.CancelOut name id) (cancel_out-keeps _ _ d f _ name id)
  step-each (command.Repeat name) = so-keeps (command.Repeat name) (repeat-keeps _ _ d f _ name)
  step-each (command.Make most) = so-keeps (command.Make most) (make-keeps _ _ d f _ most)
  step-each (command.Raw (raw.Send name recorded h ref act bytes)) =
      so-keeps (command.Raw (raw.Send name recorded h ref act bytes)) (send-keeps _ _ d f _ name recorded h ref act (unwrap_or bytes []))
  step-each (command.Raw (raw.Write name x bytes)) =
      so-keeps (command.Raw (raw.Write name x bytes)) (memory-keeps _ _ d f _ (command.Raw (raw.Write name x bytes)) refl)
  step-each (command.Raw (raw.Transfer name x h y n)) = so-keeps (command.Raw (raw.Transfer name x h y n)) (transfer-keeps _ _ d f _ name x h y n)
  step-each (command.Raw (raw.Ack name)) = so-keeps (command.Raw (raw.Ack name)) (ack-keeps _ _ d f _ name)
  step-each (command.Raw (raw.Spool name k h ref)) = so-keeps (command.Raw (raw.Spool name k h ref)) (spool-keeps _ _ d f _ name k h ref)
  step-each (command.Raw (raw.Scrap name k)) = so-keeps (command.Raw (raw.Scrap name k)) (memory-keeps _ _ d f _ (command.Raw (raw.Scrap name k)) refl)
  step-each c = so-keeps c (memory-keeps _ _ d f _ c tt)

  polled-born : (v : Option Task) (name : List ℕ) (r : Reply) → find (has_name name) d.tasks ≡ v → (i : ℕ) → next_ref d ≤ i → moved_polled g d v r i ≡ []
  polled-born None name r q i le = w.born i le
  polled-born (Some t) name r q i le =
      let is = found_task (has_name name) d.tasks t f.handles q in
      event-born g d w.born i le t (λ x has. below-all t.handle t is (outgoing.Open x) has) (post_poll t.handle d.post).1 r

  step-born : (c : Command) (r : Reply) (i : ℕ) → next_ref d ≤ i → moved_next g d c r i ≡ []
  step-born (command.Poll name) r i le = polled-born (find (has_name name) d.tasks) name r refl i le
  step-born c r i le = w.born i le

reached-after : (cs : List Command) → all_in_range cs ≡ true → (d : Desk) {o : Offers} {e : Edits} {R : Gave} {g : Moved} → Reached o e R g d →
    Reached (offers_from o d cs) (edits_from e d cs) (gave_from R d cs) (moved_from g d cs) (after d cs)
reached-after [] q d w = w
reached-after (c ∷ cs) q d w =
    let in_c : in_range c ≡ true = and_left (in_range c) _ q in
    reached-after cs (and_right (in_range c) _ q) (step d c).0 (record {
      addresses = addresses_next w.addresses d c (step d c).1;
      stands = keeps c in_c d w.stands (fits d w.kept);
      kept = step-keeps d c in_c w.kept;
      agrees = step-agrees w.addresses d w.agrees c;
      each = step-each d w c;
      born = λ i le. step-born d w c (step d c).1 i (let z = next_least d c in omega (arith, z, le));
    })

pub always-sends-offered : AlwaysCounts SendsOffered
always-sends-offered pool handle ref files cs from ranged h t v at_ has =
    let d0 = start_with pool files handle ref in
    let w = reached-after cs ranged d0 (record {
      addresses = λ i. None;
      stands = start_stands handle ref (omega (arith, from.first_ref));
      kept = start-is pool handle ref files from;
      agrees = record { born = λ i low. refl; of_tasks = tt; mail = tt };
      each = λ k u q. absurd (none_some None refl q);
      born = λ i le. refl;
    }) in
    all-has (SendsFront (offered d0 cs) (went_out d0 cs)) t.sending v (w.each h t at_) (has_of t.sending v has)
