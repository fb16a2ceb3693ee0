-- Each command keeps what holds of transfers and of the files that were loaded, and what a sender may rely on follows.
use Rattle.rh_laws.proofs.Common.{◌≡◌, ℕ, ◌≤◌, ◌<◌, Bool, true, false, not, List, [], ◌∷◌, ◌++◌, length, map, Option, Some, None, refl, sym, ap, ◌∙◌}
use Rattle.rh_laws.proofs.Common.{subst, inl, inr, arith, ◌==◌, if◌then◌else◌, nat_eq, filter, find, Ok, IfSome, AllByRecursion, option_map, eqb_tells}
use Rattle.rh_laws.proofs.Common.{Command, Manner, Body, EventCode, User, Recorded, Acknowledge, Reply, Incoming, Outgoing, Sending, NothingSent}
use Rattle.rh_laws.proofs.Common.{NotOpen, Granted, or_else, FileList, IsDesk, Parcel, action_of, Post, post_join, post_poll, all_in_range, in_range}
use Rattle.rh_laws.proofs.Common.{in_id, is_open, out_id, Desk, Task, has_name, named, next_ref, task_at, with_delivered, Answer, start_task, kill}
use Rattle.rh_laws.proofs.Common.{make, delivered, handled, after, start_with, save, repeat, poll, poll_taken, cancel_in, cancel_out, change, step, OnGrant}
use Rattle.rh_laws.proofs.Common.{chosen, granted, granted-past, granted-then, granted-with, or_else-keeps, after-is, start-is, step-keeps, Edits, held}
use Rattle.rh_laws.proofs.Common.{Offers, Has, Ascend, and_left, and_right, contains_of, first_is, has_of, is_equal, none_some, open_is, same_value}
use Rattle.rh_laws.proofs.Common.{found_name, fits, Fits, is_found, the_task, keeps, field_is, seen_parcel, view, Changed, IsOnMemory, granted-on}
use Rattle.rh_laws.proofs.Common.{in_slot, open_of, perform_send, send_with, any-grant, either, found_task, granted-both, live_of, unwrap_or, without_buffer}
use Rattle.rh_laws.proofs.Common.{◌>>=◌, Handled, as_returned, Letter, Message, Scrap, Taking, send_letter}
use Rattle.rh_defs.specs.AnyMessage.{as_read, read_body}
use Rattle.rh_defs.specs.Commands.{after_letter, with_released}
use Rattle.rh_defs.specs.OutgoingEvents.{scrap_shortage, wider}
use Rattle.rh_defs.specs.Places.{bytes_held, written_held}
use Rattle.rh_defs.specs.Post.{put_down}
use Rattle.rh_defs.specs.RawCommands.{ack, after_answer, raw_letter, send, spool, spool_letter, transfer}
use Rattle.rh_defs.specs.RawTasks.{is_raw, is_raw_task}
use Rattle.rh_defs.specs.declared.message.FileData.{FileData}
use Rattle.rh_defs.specs.declared.raw_command.RawCommand.TheVariants as raw
use Rattle.rh_safety.specs.Held.{edits_next}
use Rattle.rh_safety.specs.Offered.{offers_next}
use Rattle.rh_safety.specs.RawIds.{Gave, gave_from, gave_next, gave_sent, has_raw, is_raw_id}
use Rattle.rh_safety.proofs.Common.{latest, queued, seen_last, seen_letter}
use Rattle.rh_safety.proofs.Keeps.{Stands, strong}
use Rattle.rh_safety.proofs.Masks.{masked_message, mask_knows}
use Rattle.rh_safety.proofs.Played.{no_raw_id}
use Rattle.rh_safety.proofs.Standing.{plays}
use Rattle.rh_defs.specs.declared.command.Command.TheVariants as command
use Rattle.rh_defs.specs.declared.message.Action.TheVariants as action
use Rattle.rh_defs.specs.declared.message.Body.TheVariants as body
use Rattle.rh_defs.specs.declared.reply.Outcome.TheVariants as outcome
use Rattle.rh_defs.specs.declared.reply.Reply.TheVariants as reply
use Rattle.rh_defs.specs.declared.transfer.Incoming.TheVariants as incoming
use Rattle.rh_defs.specs.declared.transfer.Outgoing.TheVariants as outgoing
use Rattle.rh_defs.specs.declared.transfer_action.SendAction.TheVariants as send_action
use Rattle.rh_defs.specs.Laws.{IsStart}
use Rattle.rh_defs.specs.Sender as sender
use Rattle.rh_defs.specs.Receiver as receiver
use Rattle.rh_safety.specs.Counts.{is_done}
use Rattle.rh_safety.specs.Held.{document_of, held_of, is_edited}
use Rattle.rh_safety.specs.Offered.{offered}
use Rattle.rh_safety.proofs.Basics.{one_of_id}
use Rattle.rh_safety.proofs.HeldCounts.{always_counts_offered}
use Rattle.rh_safety.proofs.SeenLaws.{always_safe, stands_after, start_stands}
use Rattle.rh_laws.specs.Delivered.{AllDeliver, AlwaysDelivers, HasAll, IsTold}
use Rattle.rh_laws.proofs.Addresses.{CodeAgrees, all-has, all-more, all-with}
use Rattle.rh_laws.proofs.Queues.{IsMine, death-left, poll-taken}
use Rattle.rh_laws.proofs.Deliveries.{Agrees, Comes, Grows, HandleAgrees, InAgrees, LastAgrees, Loaded, Marks, OutAgrees, ParcelAgrees, Says, back-agrees}
use Rattle.rh_laws.proofs.Deliveries.{delivered-agrees, grows-both, grows-same, ins-agree, marked, marked-agrees, marked-grows, marked-here, outs-agree}
use Rattle.rh_laws.proofs.Deliveries.{Means, given, given-agrees, given-grows, slot-agrees, still-agrees, task-agrees}
use Rattle.rh_laws.proofs.DeliveryPolls.{Keeps as Handles, IsPast, ParcelAbove, back-above, mine-keeps}
use Rattle.rh_laws.proofs.GivenRefs.{gave-joined, gave-stays}

-- ---- tasks by handle

-- one more task, of which all that is asked holds under each handle
added-at : (P : ℕ → Task → Type 0) (new : Task) → ((j : ℕ) → P j new) → (ts : List Task) (j : ℕ) →
    IfSome (find (λ (t : Task). t.handle == j) ts) (P j) → IfSome (find (λ (t : Task). t.handle == j) (ts ++ new ∷ [])) (P j)
added-at P new fresh [] j is = chosen (λ o. IfSome o (P j)) (new.handle == j) (Some new) None (fresh j) tt
added-at P new fresh (t ∷ ts) j is = go (t.handle == j) is (added-at P new fresh ts j)
  where
    go : (b : Bool) → IfSome (if b then Some t else find (λ (t : Task). t.handle == j) ts) (P j) →
        (IfSome (find (λ (t : Task). t.handle == j) ts) (P j) → IfSome (find (λ (t : Task). t.handle == j) (ts ++ new ∷ [])) (P j)) →
        IfSome (if b then Some t else find (λ (t : Task). t.handle == j) (ts ++ new ∷ [])) (P j)
    go true is rest = is
    go false is rest = rest is

-- the tasks but that of a handle
module _ (P : ℕ → Task → Type 0) (h : ℕ) where
  abbrev is_left : Task → Bool
  is_left t = not (t.handle == h)

  none-left : (ts : List Task) → find (λ (t : Task). t.handle == h) (filter is_left ts) ≡ None
  none-left [] = refl
  none-left (t ∷ ts) = elim (eqb_tells t.handle h) [
    | inl w ↦ rw w.0 (none-left ts)
    | inr w ↦ rw (w.0, w.0) (none-left ts)
  ]

  some-left : (j : ℕ) → (j ≡ h → ⊥) → (ts : List Task) → IfSome (find (λ (t : Task). t.handle == j) ts) (P j) →
      IfSome (find (λ (t : Task). t.handle == j) (filter is_left ts)) (P j)
  some-left j other [] is = tt
  some-left j other (t ∷ ts) is = elim (eqb_tells t.handle h) [
    | inl w ↦ rw w.0 (elim (eqb_tells t.handle j) [
      | inl v ↦ absurd (other (sym v.1 ∙ w.1))
      | inr v ↦ some-left j other ts (behind v.0)
    ])
    | inr w ↦ rw w.0 (elim (eqb_tells t.handle j) [
      | inl v ↦ rw v.0 (subst (λ b. IfSome (if b then Some t else find (λ (t : Task). t.handle == j) ts) (P j)) v.0 is)
      | inr v ↦ rw v.0 (some-left j other ts (behind v.0))
    ])
  ]
    where
      behind : (t.handle == j) ≡ false → IfSome (find (λ (t : Task). t.handle == j) ts) (P j)
      behind e = subst (λ b. IfSome (if b then Some t else find (λ (t : Task). t.handle == j) ts) (P j)) e is

  left-at : (ts : List Task) (j : ℕ) → IfSome (find (λ (t : Task). t.handle == j) ts) (P j) →
      IfSome (find (λ (t : Task). t.handle == j) (filter is_left ts)) (P j)
  left-at ts j is = elim (eqb_tells j h) [
    | inl w ↦ subst (λ o. IfSome o (P j)) (sym (subst (λ k. find (λ (t : Task). t.handle == k) (filter is_left ts) ≡ None)
        (sym w.1) (none-left ts))) tt
    | inr w ↦ some-left j w.1 ts is
  ]

-- the task of a handle
pub own-of : {a : Marks} (d : Desk) → Agrees a d → (h : ℕ) (t : Task) → task_at h d ≡ Some t → HandleAgrees a (InAgrees a) h t
own-of {a} d g h t is = subst (λ (o : Option Task). IfSome o (HandleAgrees a (InAgrees a) h)) is (g.of_tasks h)

-- after an answer all agree with what is then known; R says which refs tasks with code of their own gave by then
pub record Keeps (a : Marks) (R : Gave) (x : Answer) : Type 0 where
  pub marks : Marks
  more : Grows a marks
  pub raw : marks.raw ≡ R
  pub desk : Agrees marks x.0

module _ (a : Marks) (d : Desk) (f : Fits d) (g : Agrees a d) where
  -- where no task with code of its own sends
  abbrev Still : Answer → Type 0
  Still x = Keeps a a.raw x

  agreed : {x : Answer} → Agrees a x.0 → Still x
  agreed is = record { marks = a; more = grows-same a; raw = refl; desk = is }

  same : {x : Answer} → Agrees a x.0 → OnGrant Still (Ok x)
  same is = granted (agreed is)

  own : (name : List ℕ) (t : Task) → named name d ≡ Ok t → HandleAgrees a (InAgrees a) t.handle t
  own name t q = own-of d g t.handle t (the_task d name t f q)

  start_task-keeps : (name : List ℕ) (buffer : ℕ) (manner : Manner) → OnGrant Still (start_task d name buffer manner)
  unfolding start_task post_join
  start_task-keeps name buffer manner =
      granted-past _ _ _ λ x. granted-past _ _ _ λ y. granted-past _ _ _ λ z. granted-then _ _ λ s e.
      same (record {
        born = g.born;
        unloaded = g.unloaded;
        of_tasks = λ j. added-at (HandleAgrees a (InAgrees a)) _ (λ k. record { sent = tt; outs = tt; ins = tt }) d.tasks j (g.of_tasks j);
        mail = g.mail;
      })

  kill-keeps : (name : List ℕ) → OnGrant Still (kill d name)
  unfolding kill with_delivered
  kill-keeps name =
      granted-then _ _ λ t e.
      let left = death-left (ParcelAgrees a) (back-agrees a) t.handle d.post in
      same (record {
        born = λ i low. g.born i (subst (λ n. n ≤ i) left.next low);
        unloaded = λ r i low. g.unloaded r i (subst (λ n. n ≤ i) left.next low);
        of_tasks = λ j. left-at (HandleAgrees a (InAgrees a)) t.handle d.tasks j (g.of_tasks j);
        mail = left.mail g.mail;
      })

  -- the records of the task that was found, one of them written anew
  cancel_in-keeps : (name : List ℕ) (id : Option ℕ) → OnGrant Still (cancel_in d name id)
  unfolding cancel_in receiver.cancel_taking
  cancel_in-keeps name id =
      granted-then _ _ λ t e. granted-with {Q = AllByRecursion (InAgrees a t.handle)} _
      (granted-then _ _ λ w f2. granted (all-with (InAgrees a t.handle) in_id (in_id w) (receiver.cancelled w) t.taking
      (cancelled-agrees t.handle w (all-has (InAgrees a t.handle) t.taking w (own name t e).ins
      (first_is (receiver.is_wanted id) t.taking w (is_found _ NotOpen w f2)).0)) (own name t e).ins)) λ records all.
      same (ins-agree t.handle (λ old. records) (λ ws old. all) (with_released t.handle (receiver.released_by id t.taking) d)
      (released-agrees t.handle (receiver.released_by id t.taking)))
    where
      released-agrees : (h : ℕ) (o : Option Taking) → Agrees a (with_released h o d)
      released-agrees h None = g
      released-agrees h (Some f) = task-agrees h (λ (t : Task). record t { slot = without_buffer f.buffer t.slot }) (λ t. refl) (λ t is. record {
        sent = is.sent;
        outs = is.outs;
        ins = is.ins;
      }) d g

      cancelled-agrees : (h : ℕ) (w : Incoming) → InAgrees a h w → InAgrees a h (receiver.cancelled w)
      cancelled-agrees h (incoming.Fetching f) is =
          chosen (InAgrees a h) f.raw (incoming.Failed f.id f.anchor f.count) (incoming.Draining f) is is
      cancelled-agrees h (incoming.Draining f) is = is
      cancelled-agrees h (incoming.Asking q) is = is.1
      cancelled-agrees h (incoming.Done i k n) is = is
      cancelled-agrees h (incoming.Failed i k n) is = is

  cancel_out-keeps : (name : List ℕ) (id : Option ℕ) → OnGrant Still (cancel_out d name id)
  unfolding cancel_out sender.cancel_sending
  cancel_out-keeps name id =
      granted-then _ _ λ t e. granted-with {Q = AllByRecursion (OutAgrees a)} _
      (granted-then _ _ λ x f2. granted (all-with (OutAgrees a) out_id x.id (outgoing.Failed x.id x.count) t.sending tt
      (own name t e).outs)) λ records all.
      same (outs-agree t.handle (λ old. records) (λ vs old. all) d g)

  make-keeps : (most : ℕ) → OnGrant Still (make d most)
  unfolding make
  make-keeps most = granted-past _ _ _ λ x. granted-past _ _ _ λ y. same g

  changed-agrees : {c : Command} (x : Answer) → Changed c d x → Still x
  changed-agrees _ (in_slot name t s is e quiet) = agreed (slot-agrees t.handle s d g)
  changed-agrees _ _ = agreed g

  memory-keeps : (c : Command) → IsOnMemory c → OnGrant Still (change d c)
  memory-keeps c is = granted-on d c is changed-agrees

  -- ---- commands that send

  -- where the next ref belongs to the transfer from then on
  abbrev next_of : Option ℕ → Marks
  next_of v = marked a (next_ref d) v

  next-more : (v : Option ℕ) → Grows a (next_of v)
  next-more v = marked-grows a (next_ref d) v (g.born (next_ref d) (omega arith))

  next-is : (v : Option ℕ) → (next_of v).of_ref (next_ref d) ≡ v
  next-is v = marked-here a (next_ref d) v

  save-keeps : (name : List ℕ) (k : ℕ) (to leaf : List ℕ) → OnGrant Still (save d name k to leaf)
  unfolding save
  save-keeps name k to leaf =
      let v : Option ℕ = Some (next_ref d) in
      granted-then _ _ λ t e. granted-then _ _ λ b f2. granted-past _ _ _ λ full. granted-then _ _ λ r i.
      granted-with _ (marked-agrees a v _ d (λ plays. tt) g) λ sent all. granted-past _ _ _ λ plays.
      granted (record {
        marks = next_of v;
        more = next-more v;
        raw = refl;
        desk = outs-agree t.handle (sender.sending_offered (next_ref d) r.handle k)
            (λ vs old. all-more (OutAgrees (next_of v)) is_open _ vs (next-is v) old) sent all;
      })

  -- the transfer of a message, by what it means
  belongs : (from my your : ℕ) (b : Body) → Means a from my your b → Option ℕ
  belongs from my your (body.DataSave file) is = None
  belongs from my your (body.DataSaveAck file) is = Some your
  belongs from my your (body.DataLoad file) is = Some is.0
  belongs from my your _ is = None

  -- a message once more means the same under the next ref
  means-again : (from my your : ℕ) (b : Body) (is : Means a from my your b) →
      Means (next_of (belongs from my your b is)) from (next_ref d) your b
  unfolding belongs
  means-again from my your (body.DataSave file) is = tt
  means-again from my your (body.DataSaveAck file) is = next-is (Some your)
  means-again from my your (body.DataLoad file) is =
      (is.0, next-is (Some is.0), λ his. (next-more (Some is.0)).refs your is.0 (is.2 his))
  means-again from my your (body.DataLoadAck file) is = (is.0, (λ his. (next-more None).refs your is.0 (is.1 his)), is.2)
  means-again from my your (body.RamFetch buffer n) is = tt
  means-again from my your (body.RamTransmit buffer n) is = tt
  means-again from my your (body.Other o) is = tt

  -- ---- tasks with code of their own

  -- one of them sent a message with the next ref
  abbrev Given : Answer → Type 0
  Given x = Keeps a (gave_sent a.raw x.1) x

  -- the scrap file kept or given up after a message
  answered : {b : Marks} (sent : Desk) → Agrees b sent → Agrees b (after_answer sent)
  answered sent all = still-agrees sent.post sent refl refl all

  has-given : (e : Desk) → Agrees (given a (next_ref d)) e → Given (e, reply.Sent (next_ref d))
  has-given e all = record { marks = given a (next_ref d); more = given-grows a (next_ref d); raw = refl; desk = all }

  send-keeps : (name : List ℕ) (recorded : Bool) (h ref act : ℕ) (bytes : List ℕ) → OnGrant Given (send d name recorded h ref act bytes)
  unfolding send
  send-keeps name recorded h ref act bytes =
      granted-then _ _ λ t e. granted-with _ (given-agrees a (raw_letter t.handle recorded h ref act bytes) d g) λ sent all.
      granted-past _ _ _ λ its. granted-past _ _ _ λ was. granted (has-given (after_answer sent) (answered sent all))

  spool-keeps : (name : List ℕ) (k h ref : ℕ) → OnGrant Given (spool d name k h ref)
  unfolding spool
  spool-keeps name k h ref =
      granted-then _ _ λ t e. granted-then _ _ λ b f2. granted-past _ _ _ λ none. granted-both _ (any-grant _) λ x u. granted-past _ _ _ λ fits.
      granted-with _ (given-agrees a (spool_letter t.handle h ref (length b.here.bytes)) (wider (scrap_shortage (length b.here.bytes) d) d)
      (wide b.here.bytes)) λ sent all.
      granted-past _ _ _ λ its. granted-past _ _ _ λ was.
      granted (has-given _ (scrapped sent (Some (record { load = next_ref d; bytes = b.here.bytes })) all))
    where
      wide : (bytes : List ℕ) → Agrees a (wider (scrap_shortage (length bytes) d) d)
      wide bytes = record { born = g.born; unloaded = g.unloaded; of_tasks = g.of_tasks; mail = g.mail }

      scrapped : {b : Marks} (sent : Desk) (file : Option Scrap) → Agrees b sent → Agrees b (record sent { scrap = file })
      scrapped sent file all = record { born = all.born; unloaded = all.unloaded; of_tasks = all.of_tasks; mail = all.mail }

  -- what is held is put down
  ack-keeps : (name : List ℕ) → OnGrant Still (ack d name)
  unfolding ack
  ack-keeps name =
      granted-then _ _ λ t e. granted-past _ _ _ λ its. same (still-agrees (put_down t.handle d.post) d refl refl g)

  -- bytes of another task
  transfer-keeps : (name : List ℕ) (x h y n : ℕ) → OnGrant Still (transfer d name x h y n)
  unfolding transfer
  transfer-keeps name x h y n =
      granted-then _ _ λ t e. granted-past _ _ _ λ open_. granted-then _ _ λ r f2. granted-past _ _ _ λ its.
      same (task-agrees r.handle (λ (r : Task). record r { slot = written_held y (bytes_held x n t.slot) r.slot }) (λ r. refl) (λ r is. record {
        sent = is.sent;
        outs = is.outs;
        ins = is.ins;
      }) d g)

  -- ---- polls

  module _ {o : Offers} {e : Edits} (ok : Stands o e a.raw (view d)) where
    seen-taking : (h : ℕ) (t : Task) → task_at h d ≡ Some t → (view d).taking h ≡ t.taking
    seen-taking h t is = field_is (λ y. y.taking) [] h d.tasks t is

    seen-has : (h : ℕ) (t : Task) → task_at h d ≡ Some t → (w : Incoming) → Has w t.taking → Has w ((view d).taking h)
    seen-has h t is w has = subst (λ (ws : List Incoming). Has w ws) (sym (seen-taking h t is)) has

    -- the unread messages for a task are above its records
    all-above : (h id : ℕ) (ps : List Parcel) →
        ((p : Parcel) → Has (masked_message a.raw (seen_parcel p)) (map (masked_message a.raw) (map seen_parcel ps)) →
        (p.code ≡ Acknowledge → ⊥) → p.to ≡ h → id < p.message.my_ref) →
        AllByRecursion (ParcelAbove h id) ps
    all-above h id [] up = tt
    all-above h id (p ∷ ps) up = (by_code p.code refl, all-above h id ps (λ q has. up q (inr has)))
      where
        by_code : (c : EventCode) → p.code ≡ c → CodeAgrees c (p.to ≡ h → id < p.message.my_ref)
        by_code User is = up p (inl refl) (λ no. let z : User ≡ Acknowledge = sym is ∙ no in (cc))
        by_code Recorded is = up p (inl refl) (λ no. let z : Recorded ≡ Acknowledge = sym is ∙ no in (cc))
        by_code Acknowledge is = tt

    past : (t : Task) → task_at t.handle d ≡ Some t → IsPast a (with_delivered (post_poll t.handle d.post).0 d) t
    unfolding with_delivered
    past t is = record {
      below = λ w has. let left = (poll-taken (ParcelAgrees a) (back-agrees a) t.handle d.post).left in
          subst (λ n. in_id w < n) (sym left.next) (ok.good.inv.order.in_below t.handle w (seen-has t.handle t is w has));
      above = λ w has.
          (poll-taken (ParcelAbove t.handle (in_id w)) (back-above t.handle (in_id w)) t.handle d.post).left.mail
          (all-above t.handle (in_id w) d.post.queued (λ p there unread to.
          ok.good.inv.order.above t.handle w (masked_message a.raw (seen_parcel p)) (seen-has t.handle t is w has) there unread to));
      acks = λ q has. ok.raws.acks t.handle q (seen-has t.handle t is (incoming.Asking q) has);
    }

    taken-keeps : (t : Task) → HandleAgrees a (InAgrees a) t.handle t → (y : Desk) → Agrees a y → IsPast a y t → (v : Option Parcel) →
        IfSome v (IsMine (ParcelAgrees a) (back-agrees a) t.handle) → Still (poll_taken y t v)
    unfolding poll_taken
    taken-keeps t mine y all up None is = agreed all
    taken-keeps t mine y all up (Some m) is =
        let w = either (Handles a) (is_raw t.manner) (y, outcome.Taken) (handled y t (as_read m) m.code)
        (λ its. record { marks = a; more = grows-same a; same = refl; desk = all })
        (λ plays. mine-keeps a t mine y all up (as_read m) is.own is.agrees) in
        record { marks = w.marks; more = w.more; raw = w.same; desk = w.desk }

    poll-keeps : (name : List ℕ) → OnGrant Still (poll d name)
    unfolding poll
    poll-keeps name =
        granted-then _ _ λ t q.
        let w = poll-taken (ParcelAgrees a) (back-agrees a) t.handle d.post in
        let polled : Post × Option Parcel = post_poll t.handle d.post in
        granted (taken-keeps t (own name t q) (with_delivered polled.0 d) (delivered-agrees polled.0 d w.left g)
        (past t (the_task d name t f q)) polled.1 (w.mine g.mail))

    -- a message once more
    abbrev Again : List ℕ → Answer → Type 0
    Again name x = Keeps a (gave_next a.raw d (command.Repeat name) x.1) x

    repeat-keeps : (name : List ℕ) → OnGrant (Again name) (repeat d name)
    unfolding repeat
    repeat-keeps name =
        granted-then _ _ λ t q. granted-then _ _ λ last f2.
        let kept = is_found t.last_sent NothingSent last f2 in
        let old : LastAgrees a t.handle (Some last) = subst (LastAgrees a t.handle) kept (own name t q).sent in
        let b : Body = read_body last.0.body in
        let l : Letter = record last.0 { from = t.handle } in
        let is = the_task d name t f q in
        let there : (view d).last t.handle ≡ Some (seen_last last) = field_is (λ x. option_map seen_last x.last_sent) _
        t.handle d.tasks t is ∙ ap (option_map seen_last) kept in
        let seen = mask_knows a.raw (view d) (seen_letter l last.1).letter (latest t.handle (seen_last last) there refl) in
        let manner_is : (view d).raw t.handle ≡ is_raw t.manner = field_is (λ x. is_raw x.manner) false t.handle d.tasks t is in
        again t last (found_name d name t q) (is_raw t.manner) refl
        (λ played. let his : a.raw last.1 ≡ false = ok.raws.letters _ seen ∙ plays t.handle (live_of d t.handle t is) (manner_is ∙ played) (strong ok) in
        old his)
      where
        Told : Bool → Bool → Desk → Type 0
        Told b c sent =
            Keeps a (if b then gave_sent a.raw (reply.Sent (next_ref d)) else a.raw) (if c then after_answer sent else sent, reply.Sent (next_ref d))

        by_manner : (t : Task) (sent : Desk) → find (has_name name) d.tasks ≡ Some t → (b : Bool) → is_raw t.manner ≡ b → Told b b sent →
            Again name (after_letter t.manner sent, reply.Sent (next_ref d))
        by_manner t sent found b its done =
            subst (λ (o : Option Task). Told (is_raw_task o) (is_raw t.manner) sent) (sym found) (subst (λ (c : Bool). Told c c sent) (sym its) done)

        again : (t : Task) (last : Letter × ℕ) → find (has_name name) d.tasks ≡ Some t → (b : Bool) → is_raw t.manner ≡ b →
            (b ≡ false → Means a t.handle last.1 last.0.your_ref (read_body last.0.body)) →
            OnGrant (Again name) (send_letter (record last.0 { from = t.handle }) d >>= λ sent.
            Ok (after_letter t.manner sent, reply.Sent (next_ref d)))
        again t last found true its old =
            granted-with _ (given-agrees a (record last.0 { from = t.handle }) d g) λ sent all.
            granted (by_manner t sent found true its (has-given (after_answer sent) (answered sent all)))
        again t last found false played old =
            let v : Option ℕ = belongs t.handle last.1 last.0.your_ref (read_body last.0.body) (old refl) in
            granted-with _ (marked-agrees a v (record last.0 { from = t.handle }) d
            (λ plays. means-again t.handle last.1 last.0.your_ref (read_body last.0.body) (old refl)) g) λ sent all.
            granted (by_manner t sent found false played (record { marks = next_of v; more = next-more v; raw = refl; desk = all }))

    kept : {r : Granted Answer} → OnGrant Still r → Still (or_else r (λ refusal. (d, reply.Refused refusal)))
    kept all = or_else-keeps Still _ all (λ refusal. agreed g)

    gives : {r : Granted Answer} → OnGrant Given r → Given (or_else r (λ refusal. (d, reply.Refused refusal)))
    gives all = or_else-keeps Given _ all (λ refusal. agreed g)

    pub step-agrees : (c : Command) → Keeps a (gave_next a.raw d c (step d c).1) (step d c)
    step-agrees (command.Task name buffer manner) = kept (start_task-keeps name buffer manner)
    step-agrees (command.Kill name) = kept (kill-keeps name)
    step-agrees (command.Save name k to leaf) = kept (save-keeps name k to leaf)
    step-agrees (command.Poll name) = kept (poll-keeps name)
    step-agrees (command.CancelIn name id) = kept (cancel_in-keeps name id)
    step-agrees (command.CancelOut name id) = kept (cancel_out-keeps name id)
    step-agrees (command.Repeat name) = or_else-keeps (Again name) _ (repeat-keeps name) (λ refusal.
        chosen (λ (S : Gave). Keeps a S (d, reply.Refused refusal)) (is_raw_task (find (has_name name) d.tasks)) a.raw a.raw (agreed g) (agreed g))
    step-agrees (command.Make most) = kept (make-keeps most)
    step-agrees (command.Raw (raw.Send name recorded h ref act bytes)) = gives (send-keeps name recorded h ref act (unwrap_or bytes []))
    step-agrees (command.Raw (raw.Write name x bytes)) = kept (memory-keeps (command.Raw (raw.Write name x bytes)) refl)
    step-agrees (command.Raw (raw.Transfer name x h y n)) = kept (transfer-keeps name x h y n)
    step-agrees (command.Raw (raw.Ack name)) = kept (ack-keeps name)
    step-agrees (command.Raw (raw.Spool name k h ref)) = gives (spool-keeps name k h ref)
    step-agrees (command.Raw (raw.Scrap name k)) = kept (memory-keeps (command.Raw (raw.Scrap name k)) refl)
    step-agrees c = kept (memory-keeps c tt)

    -- ---- a sender that is told

    -- what came was sent as its sender sends
    abbrev SentSo : Parcel → Type 0
    SentSo p = CodeAgrees p.code (a.raw p.message.my_ref ≡ ok.coded p.message.from)

    back-so : (p : Parcel) → SentSo (as_returned p)
    back-so p = tt

    all-so : (ps : List Parcel) →
        ((y : Message) → Has y (map (masked_message a.raw) (map seen_parcel ps)) → a.raw y.letter.me ≡ ok.coded y.letter.from) →
        AllByRecursion SentSo ps
    all-so [] so = tt
    all-so (p ∷ ps) so = (by_code p.code (so (masked_message a.raw (seen_parcel p)) (inl refl)), all-so ps (λ y has. so y (inr has)))
      where
        by_code : (c : EventCode) {P : Type 0} → P → CodeAgrees c P
        by_code User is = is
        by_code Recorded is = is
        by_code Acknowledge is = tt

    mail-so : AllByRecursion SentSo d.post.queued
    mail-so = all-so d.post.queued (λ y has. ok.raws.letters y.letter (queued y has refl))

    -- the desk plays the recipient, or none has code of its own
    abbrev IsPlayed : ℕ → Type 0
    IsPlayed r = (ref : ℕ) → a.raw ref ≡ ok.coded r → a.raw ref ≡ false

    module _ (t : Task) (is : task_at t.handle d ≡ Some t) (x : Sending) (has : Has (outgoing.Open x) t.sending) (played : IsPlayed x.recipient)
        (y : Desk) (m : Parcel) (ref : ℕ) where
      abbrev told_by : Reply
      told_by = reply.Event User action.DataLoadAck ref x.last outcome.Done

      seen-out : Has (outgoing.Open x) ((view d).sending t.handle)
      seen-out = subst (λ (vs : List Outgoing). Has (outgoing.Open x) vs) (sym (field_is (λ y. y.sending) [] t.handle d.tasks t is)) has

      -- the record that the DataLoadAck is for
      told-record : (file : FileData) → Says a m.message.from m.message.my_ref m.message.your_ref (body.DataLoadAck file)
          → a.raw m.message.my_ref ≡ ok.coded m.message.from →
          m.message.your_ref ≡ x.last → (v : Option Sending) → open_of (sender.is_loaded m.message.from m.message.your_ref) t.sending ≡ v →
          (perform_send y t (option_map send_action.Finish v)).1 ≡ outcome.Done → Loaded a x.recipient x.id
      unfolding perform_send send_with
      told-record file says so answers None q other = absurd cc
      told-record file says so answers (Some z) q done =
          let w = open_is (sender.is_loaded m.message.from m.message.your_ref) t.sending z q in
          let outs = (own-of d g t.handle t is).outs in
          let from : m.message.from ≡ z.recipient = is_equal _ _ (and_left (nat_eq m.message.from z.recipient) _ w.1) in
          let last : m.message.your_ref ≡ z.last = is_equal _ _ (and_right (nat_eq m.message.from z.recipient) _ w.1) in
          let of_x : a.of_ref x.last ≡ Some x.id = all-has (OutAgrees a) t.sending (outgoing.Open x) outs has in
          let of_z : a.of_ref z.last ≡ Some z.id = all-has (OutAgrees a) t.sending (outgoing.Open z) outs w.0 in
          let ids : x.id ≡ z.id = same_value (a.of_ref x.last) of_x (ap a.of_ref (sym answers ∙ last) ∙ of_z) in
          let one : outgoing.Open x ≡ outgoing.Open z = one_of_id out_id t.sending (outgoing.Open x) (outgoing.Open z)
          (subst (λ (vs : List Outgoing). Ascend out_id vs) (field_is (λ y. y.sending) [] t.handle d.tasks t is) (ok.good.inv.order.outs t.handle))
          has w.0 ids in
          let same_record : x ≡ z = cc in
          let to : x.recipient ≡ z.recipient = ap (λ (u : Sending). u.recipient) same_record in
          let his : a.raw m.message.my_ref ≡ false = played m.message.my_ref (so ∙ ap ok.coded (from ∙ sym to)) in
          let loads = says his in
          let plays : a.raw m.message.your_ref ≡ false = ap a.raw answers ∙ ok.raws.lasts t.handle x seen-out in
          let mine : x.id ≡ loads.0 = same_value (a.of_ref x.last) of_x (ap a.of_ref (sym answers) ∙ loads.1 plays) in
          subst (λ k. Loaded a k x.id) (from ∙ sym to) (subst (λ k. Loaded a m.message.from k) (sym mine) loads.2)

      told-body : (b : Body) → Says a m.message.from m.message.my_ref m.message.your_ref b → a.raw m.message.my_ref ≡ ok.coded m.message.from →
          reply.Event User (action_of b) m.message.my_ref m.message.your_ref (delivered y t m b).1 ≡ told_by → Loaded a x.recipient x.id
      unfolding delivered
      told-body (body.DataSave file) says so q = absurd cc
      told-body (body.DataSaveAck file) says so q = absurd cc
      told-body (body.DataLoad file) says so q = absurd cc
      told-body (body.DataLoadAck file) says so q =
          let v : Option Sending = open_of (sender.is_loaded m.message.from m.message.your_ref) t.sending in
          let answers : m.message.your_ref ≡ x.last = cc in
          let done : (perform_send y t (option_map send_action.Finish v)).1 ≡ outcome.Done = cc in
          told-record file says so answers v refl done
      told-body (body.RamFetch buffer n) says so q = absurd cc
      told-body (body.RamTransmit buffer n) says so q = absurd cc
      told-body (body.Other o) says so q = absurd cc

      told-code : (c : EventCode) → CodeAgrees c (Comes a m.to m.message.from m.message.my_ref m.message.your_ref m.message.body) →
          CodeAgrees c (a.raw m.message.my_ref ≡ ok.coded m.message.from) →
          reply.Event c (action_of m.message.body) m.message.my_ref m.message.your_ref (handled y t m c).1 ≡ told_by →
          Loaded a x.recipient x.id
      unfolding handled
      told-code User is so q = told-body m.message.body is.says so q
      told-code Recorded is so q = absurd cc
      told-code Acknowledge is so q = absurd cc

    told-taken : (t : Task) → task_at t.handle d ≡ Some t → (x : Sending) → Has (outgoing.Open x) t.sending → IsPlayed x.recipient → (y : Desk)
        (v : Option Parcel) → IfSome v (IsMine (ParcelAgrees a) (back-agrees a) t.handle) → IfSome v (IsMine SentSo back-so t.handle) → (ref : ℕ) →
        (poll_taken y t v).1 ≡ reply.Event User action.DataLoadAck ref x.last outcome.Done → Loaded a x.recipient x.id
    unfolding poll_taken
    told-taken t is x has played y None mine so ref q = absurd cc
    told-taken t is x has played y (Some m) mine so ref q =
        either (λ (u : Handled). reply.Event m.code (action_of (read_body m.message.body)) m.message.my_ref m.message.your_ref u.1 ≡
        reply.Event User action.DataLoadAck ref x.last outcome.Done → Loaded a x.recipient x.id) (is_raw t.manner) (y, outcome.Taken)
        (handled y t (as_read m) m.code) (λ its never. absurd cc)
        (λ plays told. told-code t is x has played y (as_read m) ref m.code mine.agrees so.agrees told) q

    -- where the poll tells a record's task that it is done, its recipient loaded the file
    record Tells (x : Sending) (y : Answer) : Type 0 where
      loaded : (ref : ℕ) → y.1 ≡ reply.Event User action.DataLoadAck ref x.last outcome.Done → Loaded a x.recipient x.id

    told-poll : (name : List ℕ) (x : Sending) (t : Task) → find (has_name name) d.tasks ≡ Some t → Has (outgoing.Open x) t.sending →
        IsPlayed x.recipient → OnGrant (Tells x) (poll d name)
    unfolding poll
    told-poll name x s here has played =
        granted-then _ _ λ t q.
        let one : s ≡ t = same_value (find (has_name name) d.tasks) here (found_name d name t q) in
        let w = poll-taken (ParcelAgrees a) (back-agrees a) t.handle d.post in
        let v = poll-taken SentSo back-so t.handle d.post in
        let polled : Post × Option Parcel = post_poll t.handle d.post in
        granted (record {
          loaded = told-taken t (the_task d name t f q) x (subst (λ (u : Task). Has (outgoing.Open x) u.sending) one has)
              played (with_delivered polled.0 d) polled.1 (w.mine g.mail) (v.mine mail-so);
        })

    told-loaded : (name : List ℕ) (x : Sending) → IsTold d name x → IsPlayed x.recipient → Loaded a x.recipient x.id
    told-loaded name x told played =
        (or_else-keeps (Tells x) (λ refusal. (d, reply.Refused refusal))
        (told-poll name x told.sender told.is (has_of told.sender.sending (outgoing.Open x) told.open_) played)
        (λ refusal. record { loaded = λ ref never. absurd cc })).loaded told.ref told.answer

-- ---- runs

-- after commands all agree with what is then known
record Reaches (a : Marks) (R : Gave) (d : Desk) : Type 0 where
  marks : Marks
  more : Grows a marks
  raw : marks.raw ≡ R
  desk : Agrees marks d

after-agrees : (cs : List Command) → all_in_range cs ≡ true → (d : Desk) {o : Offers} {e : Edits} (a : Marks) →
    Stands o e a.raw (view d) → IsDesk d → Agrees a d → Reaches a (gave_from a.raw d cs) (after d cs)
after-agrees [] p d a ok is g = record { marks = a; more = grows-same a; raw = refl; desk = g }
after-agrees (c ∷ cs) p d {o} {e} a ok is g =
    let in_c : in_range c ≡ true = and_left (in_range c) _ p in
    let x : Answer = step d c in
    let w = step-agrees a d (fits d is) g ok c in
    let next : Stands (offers_next o d c x.1) (edits_next e d c x.1) w.marks.raw (view x.0) =
    subst (λ (S : Gave). Stands (offers_next o d c x.1) (edits_next e d c x.1) S (view x.0)) (sym w.raw) (keeps c in_c d ok (fits d is)) in
    let v = after-agrees cs (and_right (in_range c) _ p) x.0 w.marks next (step-keeps d c in_c is) w.desk in
    record {
      marks = v.marks;
      more = grows-both w.more v.more;
      raw = v.raw ∙ ap (λ (S : Gave). gave_from S x.0 cs) w.raw;
      desk = v.desk;
    }

range-left : (cs ds : List Command) → all_in_range (cs ++ ds) ≡ true → all_in_range cs ≡ true
range-left [] ds p = refl
range-left (c ∷ cs) ds p =
    let here : in_range c ≡ true = and_left (in_range c) _ p in
    let rest : all_in_range cs ≡ true = range-left cs ds (and_right (in_range c) _ p) in rw (here, rest) refl

range-right : (cs ds : List Command) → all_in_range (cs ++ ds) ≡ true → all_in_range ds ≡ true
range-right [] ds p = p
range-right (c ∷ cs) ds p = range-right cs ds (and_right (in_range c) _ p)

after-joined : (cs ds : List Command) (d : Desk) → after d (cs ++ ds) ≡ after (after d cs) ds
after-joined [] ds d = refl
after-joined (c ∷ cs) ds d = after-joined cs ds (step d c).0

-- ---- the law

-- a record of a loaded transfer says Done
pub loaded-done : (a : Marks) (h id : ℕ) (w : Incoming) → InAgrees a h w → in_id w ≡ id → Loaded a h id → is_done w ≡ true
loaded-done a h id (incoming.Fetching f) is q has = absurd (is (subst (λ i. Loaded a h i) (sym q) has))
loaded-done a h id (incoming.Draining f) is q has = absurd (is (subst (λ i. Loaded a h i) (sym q) has))
loaded-done a h id (incoming.Asking r) is q has = absurd (is.1 (subst (λ i. Loaded a h i) (sym q) has))
loaded-done a h id (incoming.Done i k n) is q has = refl
loaded-done a h id (incoming.Failed i k n) is q has = absurd (is (subst (λ i. Loaded a h i) (sym q) has))

module _ (pool handle ref : ℕ) (files : FileList) (cs later : List Command) (from : IsStart pool handle ref) (name : List ℕ)
    (x : Sending) (ranged : all_in_range (cs ++ command.Poll name ∷ later) ≡ true)
    (told : IsTold (after (start_with pool files handle ref) cs) name x) where
  abbrev d0 : Desk
  d0 = start_with pool files handle ref

  abbrev d : Desk
  d = after d0 cs

  abbrev all : List Command
  all = cs ++ command.Poll name ∷ later

  nothing : Marks
  nothing = record { of_ref = λ i. None; loaded = []; raw = λ i. false }

  positive : 0 < ref
  positive = omega (arith, from.first_ref)

  first : Reaches nothing (is_raw_id d0 cs) d
  unfolding nothing
  first =
      after-agrees cs (range-left cs _ ranged) d0 nothing (start_stands handle ref positive) (start-is pool handle ref files from)
      (record { born = λ i low. refl; unloaded = λ r i low has. has; of_tasks = λ h. tt; mail = tt })

  is-desk : IsDesk d
  is-desk = after-is d0 cs (range-left cs _ ranged) (start-is pool handle ref files from)

  before : Stands (offered d0 cs) (is_edited d0 cs) (is_raw_id d0 cs) (view d)
  before = stands_after pool handle ref files cs from (range-left cs _ ranged)

  stands : Stands (offered d0 cs) (is_edited d0 cs) first.marks.raw (view d)
  stands = subst (λ (S : Gave). Stands (offered d0 cs) (is_edited d0 cs) S (view d)) (sym first.raw) before

  last : Reaches first.marks (gave_from first.marks.raw d (command.Poll name ∷ later)) (after d0 all)
  last = subst (Reaches first.marks (gave_from first.marks.raw d (command.Poll name ∷ later)))
      (sym (after-joined cs (command.Poll name ∷ later) d0))
      (after-agrees (command.Poll name ∷ later) (range-right cs _ ranged) d first.marks stands is-desk first.desk)

  -- the record's id isn't theirs, then and at the end
  seen-open : Has (outgoing.Open x) ((view d).sending told.sender.handle)
  seen-open =
      let at = found_task (has_name name) d.tasks told.sender (fits d is-desk).handles told.is in
      subst (λ (vs : List Outgoing). Has (outgoing.Open x) vs) (sym (field_is (λ y. y.sending) [] told.sender.handle d.tasks told.sender at))
      (has_of told.sender.sending (outgoing.Open x) told.open_)

  its-id : is_raw_id d0 all x.id ≡ false
  its-id =
      let below = before.good.inv.order.out_below told.sender.handle (outgoing.Open x) seen-open in
      ap (λ (S : Gave). S x.id) (gave-joined (λ i. false) d0 cs (command.Poll name ∷ later))
      ∙ gave-stays (is_raw_id d0 cs) d (command.Poll name ∷ later) x.id below
      ∙ before.raws.outs told.sender.handle (outgoing.Open x) seen-open

  module _ (played : (ref : ℕ) → first.marks.raw ref ≡ stands.coded x.recipient → first.marks.raw ref ≡ false) where
    loaded : Loaded last.marks x.recipient x.id
    loaded = last.more.loads x.recipient x.id (told-loaded first.marks d (fits d is-desk) first.desk stands name x told played)

    says-done : (t : Task) (w : Incoming) → task_at x.recipient (after d0 all) ≡ Some t → Has w t.taking → in_id w ≡ x.id →
        is_done w ≡ true
    says-done t w at has q =
        loaded-done last.marks x.recipient x.id w
        (all-has (InAgrees last.marks x.recipient) t.taking w (own-of (after d0 all) last.desk x.recipient t at).ins has) q loaded

    -- what is held of a record that says Done
    held-whole : (got : List ℕ) → held d0 all x.id x.recipient ≡ Some got → offered d0 all x.id ≡ Some got
    held-whole got q = of_task (task_at x.recipient (after d0 all)) refl q
      where
        by_record : (t : Task) → task_at x.recipient (after d0 all) ≡ Some t → (w : Incoming) → Has w t.taking → in_id w ≡ x.id →
            is_done w ≡ true → offered d0 all x.id ≡ Some got
        by_record t at (incoming.Fetching f) has mine never = absurd cc
        by_record t at (incoming.Draining f) has mine never = absurd cc
        by_record t at (incoming.Asking r) has mine never = absurd cc
        by_record t at (incoming.Failed i k n) has mine never = absurd cc
        by_record t at (incoming.Done i k n) has mine says =
            (always_safe pool handle ref files all from ranged x.id x.recipient its-id).whole got k n t q at
            (contains_of t.taking _ (subst (λ j. Has (incoming.Done j k n) t.taking) mine has))

        of_record : (t : Task) → task_at x.recipient (after d0 all) ≡ Some t → (o : Option Incoming) →
            find (λ w. in_id w == x.id) t.taking ≡ o → document_of t (is_edited d0 all x.recipient x.id) o ≡ Some got → offered d0 all x.id ≡ Some got
        of_record t at None e never = absurd (none_some None refl never)
        of_record t at (Some w) e there =
            let found = first_is (λ (y : Incoming). in_id y == x.id) t.taking w e in
            let same : in_id w ≡ x.id = is_equal _ _ found.1 in
            by_record t at w found.0 same (says-done t w at found.0 same)

        of_task : (o : Option Task) → task_at x.recipient (after d0 all) ≡ o → held_of o x.id (is_edited d0 all x.recipient x.id) ≡ Some got →
            offered d0 all x.id ≡ Some got
        of_task None e never = absurd (none_some None refl never)
        of_task (Some t) e there = of_record t e (find (λ w. in_id w == x.id) t.taking) refl there

    has-all : HasAll d0 all x.id x.recipient
    has-all = record {
      done = λ t w at has same. says-done t w at (has_of t.taking w has) same;
      counts = λ t w at has same.
          let c = always_counts_offered pool handle ref files all from ranged x.recipient t w at has
          (ap (is_raw_id d0 all) same ∙ its-id) in
          let whole = c.all (says-done t w at (has_of t.taking w has) same) in
          ap (λ i. option_map length (offered d0 all i)) (sym same) ∙ ap (option_map length) c.is ∙ ap Some (sym whole);
      whole = held-whole;
    }

  has-played : (r : Task) → task_at x.recipient d ≡ Some r → is_raw r.manner ≡ false → HasAll d0 all x.id x.recipient
  has-played r at mine =
      let his = plays x.recipient (live_of d x.recipient r at)
      (field_is (λ (y : Task). is_raw y.manner) false x.recipient d.tasks r at ∙ mine) (strong stands) in
      has-all (λ ref0 q. q ∙ his)

  has-any : has_raw cs ≡ false → HasAll d0 all x.id x.recipient
  has-any none = has-all (λ ref0 q. ap (λ (S : Gave). S ref0) first.raw ∙ no_raw_id pool handle ref files cs none ref0)

pub always-delivers : AlwaysDelivers
always-delivers pool handle ref files cs later from name x r at played ranged told =
    has-played pool handle ref files cs later from name x ranged told r at played

pub all-deliver : AllDeliver
all-deliver pool handle ref files cs later from none name x ranged told =
    has-any pool handle ref files cs later from name x ranged told none
