-- Each command keeps what agrees with what was offered, and records agree after every list of commands.
use Rattle.rh_laws.proofs.Common.{◌≡◌, ℕ, ◌+◌, ◌≤◌, Bool, not, List, [], ◌∷◌, Option, Some, None, refl, sym, ap, ◌∙◌, subst, arith, ◌==◌, find, Ok, IfSome}
use Rattle.rh_laws.proofs.Common.{Command, Manner, Body, Incoming, Outgoing, NoTask, NothingSent, NotOpen, Granted, or_else, Parcel, Post, post_join}
use Rattle.rh_laws.proofs.Common.{post_poll, in_id, is_open, out_id, Desk, Task, has_name, named, next_ref, task_at, with_delivered, with_sending, Answer}
use Rattle.rh_laws.proofs.Common.{start_task, kill, make, after, start_with, save, repeat, poll, poll_taken, cancel_in, cancel_out, change, step, OnGrant}
use Rattle.rh_laws.proofs.Common.{granted, granted-past, granted-then, granted-with, or_else-keeps, append-all, held, at_place, Has, first_is, has_of}
use Rattle.rh_laws.proofs.Common.{is_equal, none_some, open_is, found_name, is_found, Changed, IsOnMemory, granted-on}
use Rattle.rh_laws.proofs.Common.{in_slot, any-grant, chosen, either, granted-both, handled, length, unwrap_or, without_buffer, Handled, Scrap, Taking}
use Rattle.rh_defs.specs.declared.message.FileData.{FileData}
use Rattle.rh_defs.specs.declared.raw_command.RawCommand.TheVariants as raw
use Rattle.rh_defs.specs.declared.reply.Outcome.TheVariants as outcome
use Rattle.rh_defs.specs.AnyMessage.{as_read, body_of, read_body}
use Rattle.rh_defs.specs.Commands.{after_letter, with_released}
use Rattle.rh_defs.specs.OutgoingEvents.{scrap_shortage, wider}
use Rattle.rh_defs.specs.Places.{bytes_held, written_held}
use Rattle.rh_defs.specs.Post.{put_down}
use Rattle.rh_defs.specs.RawCommands.{ack, after_answer, raw_letter, send, spool, spool_letter, transfer}
use Rattle.rh_defs.specs.RawTasks.{is_raw}
use Rattle.rh_defs.specs.declared.command.Command.TheVariants as command
use Rattle.rh_defs.specs.declared.message.Body.TheVariants as body
use Rattle.rh_defs.specs.declared.reply.Reply.TheVariants as reply
use Rattle.rh_defs.specs.declared.transfer.Incoming.TheVariants as incoming
use Rattle.rh_defs.specs.declared.transfer.Outgoing.TheVariants as outgoing
use Rattle.rh_defs.specs.Sender as sender
use Rattle.rh_defs.specs.Receiver as receiver
use Rattle.rh_defs.proofs.Lists.{filter-all, find-all}
use Rattle.rh_safety.specs.Held.{document_of, held_of, is_edited}
use Rattle.rh_safety.specs.Offered.{last_of}
use Rattle.rh_laws.specs.Addressed.{Addresses, AgreesIn, AlwaysAddressed, From, IsAddressed, Parties, addressed, addressed_last}
use Rattle.rh_laws.specs.Addressed.{addressed_as, addresses_from, addresses_next, parties_of, parties_to}
use Rattle.rh_laws.proofs.Addresses.{Agrees, BodyAgrees, Extends, InAgrees, InsAgree, LastAgrees, OutAgrees, OutsAgree, TaskAgrees, all-has, all-more}
use Rattle.rh_laws.proofs.Addresses.{all-with, delivered-agrees, ins-agree, letter-agrees, new-born, new-extends, new-here, outs-agree, slot-agrees}
use Rattle.rh_laws.proofs.Addresses.{ParcelAgrees, back-agrees, plain-agrees, still-agrees, task-agrees}
use Rattle.rh_laws.proofs.AddressPolls.{mine-agrees}
use Rattle.rh_laws.proofs.Queues.{IsMine, death-left, poll-taken}

-- ---- a task that was found

module _ {a : Addresses} (d : Desk) (g : Agrees a d) where
  -- what the first task that passes a test has
  pub found-agrees : (test : Task → Bool) (t : Task) → find test d.tasks ≡ Some t → TaskAgrees a t
  found-agrees test t q = subst (λ (o : Option Task). IfSome o (TaskAgrees a)) q (find-all (TaskAgrees a) test d.tasks g.of_tasks)

  named-agrees : (name : List ℕ) (t : Task) → named name d ≡ Ok t → TaskAgrees a t
  named-agrees name t q = found-agrees (has_name name) t (found_name d name t q)

-- ---- commands that offer nothing

module _ (a : Addresses) (d : Desk) (g : Agrees a d) where
  -- after an answer all agree
  record Keeps (x : Answer) : Type 0 where
    desk : Agrees a x.0

  same : {x : Answer} → Agrees a x.0 → OnGrant Keeps (Ok x)
  same is = granted (record { desk = is })

  start_task-keeps : (name : List ℕ) (buffer : ℕ) (manner : Manner) → OnGrant Keeps (start_task d name buffer manner)
  unfolding start_task post_join
  start_task-keeps name buffer manner =
      granted-past _ _ _ λ x. granted-past _ _ _ λ y. granted-past _ _ _ λ z. granted-then _ _ λ s e.
      same (record {
        born = g.born;
        of_tasks = append-all (TaskAgrees a) d.tasks _ g.of_tasks (record { sent = tt; outs = tt; ins = tt });
        mail = g.mail;
      })

  kill-keeps : (name : List ℕ) → OnGrant Keeps (kill d name)
  unfolding kill with_delivered
  kill-keeps name =
      granted-then _ _ λ t e.
      let left = death-left (ParcelAgrees a) (back-agrees a) t.handle d.post in
      same (record {
        born = λ i low. g.born i (subst (λ n. n ≤ i) left.next low);
        of_tasks = filter-all (TaskAgrees a) (λ (other : Task). not (other.handle == t.handle)) d.tasks g.of_tasks;
        mail = left.mail g.mail;
      })

  changed-agrees : {c : Command} (x : Answer) → Changed c d x → Keeps x
  changed-agrees _ (in_slot name t s same_name e is) = record { desk = slot-agrees t.handle s d g }
  changed-agrees _ _ = record { desk = g }

  memory-keeps : (c : Command) → IsOnMemory c → OnGrant Keeps (change d c)
  memory-keeps c is = granted-on d c is changed-agrees

  -- the records of the task that was found, one of them written anew
  cancel_in-keeps : (name : List ℕ) (id : Option ℕ) → OnGrant Keeps (cancel_in d name id)
  unfolding cancel_in receiver.cancel_taking
  cancel_in-keeps name id =
      granted-then _ _ λ t e. granted-with {Q = InsAgree a t.handle} _
      (granted-then _ _ λ w f. granted (all-with (InAgrees a t.handle) in_id (in_id w) (receiver.cancelled w) t.taking
      (cancelled-agrees t.handle w (all-has (InAgrees a t.handle) t.taking w (named-agrees d g name t e).ins
      (first_is (receiver.is_wanted id) t.taking w (is_found _ NotOpen w f)).0)) (named-agrees d g name t e).ins)) λ records all.
      same (ins-agree t.handle (λ old. records) (λ ws old. all) (with_released t.handle (receiver.released_by id t.taking) d)
      (released-agrees t.handle (receiver.released_by id t.taking)))
    where
      released-agrees : (h : ℕ) (o : Option Taking) → Agrees a (with_released h o d)
      released-agrees h None = g
      released-agrees h (Some f) = task-agrees h (λ (t : Task). record t { slot = without_buffer f.buffer t.slot }) (λ t same is. is) d g

      cancelled-agrees : (h : ℕ) (w : Incoming) → InAgrees a h w → InAgrees a h (receiver.cancelled w)
      cancelled-agrees h (incoming.Fetching f) is =
          chosen (InAgrees a h) f.raw (incoming.Failed f.id f.anchor f.count) (incoming.Draining f) (f.sender, is) is
      cancelled-agrees h (incoming.Draining f) is = is
      cancelled-agrees h (incoming.Asking q) is = (q.sender, is)
      cancelled-agrees h (incoming.Done i k n) is = is
      cancelled-agrees h (incoming.Failed i k n) is = is

  cancel_out-keeps : (name : List ℕ) (id : Option ℕ) → OnGrant Keeps (cancel_out d name id)
  unfolding cancel_out sender.cancel_sending
  cancel_out-keeps name id =
      granted-then _ _ λ t e. granted-with {Q = OutsAgree a t.handle} _
      (granted-then _ _ λ x f. granted (all-with (OutAgrees a t.handle) out_id x.id (outgoing.Failed x.id x.count) t.sending (
        x.recipient,
        all-has (OutAgrees a t.handle) t.sending (outgoing.Open x) (named-agrees d g name t e).outs
            (open_is _ t.sending x (is_found _ NotOpen x f)).0,
      ) (named-agrees d g name t e).outs)) λ records all.
      same (outs-agree t.handle (λ old. records) (λ vs old. all) d g)

  make-keeps : (most : ℕ) → OnGrant Keeps (make d most)
  unfolding make
  make-keeps most = granted-past _ _ _ λ x. granted-past _ _ _ λ y. same g

  -- the message that was taken, where there is one
  taken-agrees : (t : Task) → TaskAgrees a t → (e : Desk) → Agrees a e → (o : Option Parcel) → IfSome o (IsMine (ParcelAgrees a) (back-agrees a) t.handle) →
      Agrees a (poll_taken e t o).0
  unfolding poll_taken
  taken-agrees t own e all None mine = all
  taken-agrees t own e all (Some m) mine =
      either (λ (x : Handled). Agrees a x.0) (is_raw t.manner) (e, outcome.Taken) (handled e t (as_read m) m.code) (λ its. all)
      (λ plays. mine-agrees a t own e all (as_read m) mine.own mine.agrees)

  -- what is held is put down
  ack-keeps : (name : List ℕ) → OnGrant Keeps (ack d name)
  unfolding ack
  ack-keeps name =
      granted-then _ _ λ t e. granted-past _ _ _ λ its. same (still-agrees (put_down t.handle d.post) d refl refl g)

  -- bytes of another task
  transfer-keeps : (name : List ℕ) (x h y n : ℕ) → OnGrant Keeps (transfer d name x h y n)
  unfolding transfer
  transfer-keeps name x h y n =
      granted-then _ _ λ t e. granted-past _ _ _ λ open_. granted-then _ _ λ r f. granted-past _ _ _ λ its.
      same (task-agrees r.handle (λ (r : Task). record r { slot = written_held y (bytes_held x n t.slot) r.slot }) (λ r same is. is) d g)

  -- a DataLoad, and the scrap file that it is of
  spool-keeps : (name : List ℕ) (k h ref : ℕ) → OnGrant Keeps (spool d name k h ref)
  unfolding spool
  spool-keeps name k h ref =
      granted-then _ _ λ t e. granted-then _ _ λ b f. granted-past _ _ _ λ none. granted-both _ (any-grant _) λ x u. granted-past _ _ _ λ fits.
      granted-with _ (plain-agrees (spool_letter t.handle h ref (length b.here.bytes)) (wider (scrap_shortage (length b.here.bytes) d) d) tt g) λ sent all.
      granted-past _ _ _ λ its. granted-past _ _ _ λ was. same (scrapped sent (Some (record { load = next_ref d; bytes = b.here.bytes })) all)
    where
      scrapped : (sent : Desk) (file : Option Scrap) → Agrees a sent → Agrees a (record sent { scrap = file })
      scrapped sent file all = record { born = all.born; of_tasks = all.of_tasks; mail = all.mail }

  poll-keeps : (name : List ℕ) → OnGrant Keeps (poll d name)
  unfolding poll
  poll-keeps name =
      granted-then _ _ λ t e.
      let w = poll-taken (ParcelAgrees a) (back-agrees a) t.handle d.post in
      let polled : Post × Option Parcel = post_poll t.handle d.post in
      same (taken-agrees t (named-agrees d g name t e) (with_delivered polled.0 d) (delivered-agrees polled.0 d w.left g) polled.1
      (w.mine g.mail))

-- ---- commands that offer

module _ (a : Addresses) (d : Desk) (g : Agrees a d) where
  -- after the answer to a command all agree with what is then offered
  record Follows (c : Command) (x : Answer) : Type 0 where
    desk : Agrees (addresses_next a d c x.1) x.0

  module _ (v : Option Parties) where
    more : Extends a (at_place a (next_ref d) v)
    more = new-extends a (next_ref d) v (g.born (next_ref d) (omega arith))

    later : (i : ℕ) → next_ref d + 1 ≤ i → at_place a (next_ref d) v i ≡ None
    later = new-born a (next_ref d) v g.born

  save-follows : (name : List ℕ) (k : ℕ) (to leaf : List ℕ) → OnGrant (Follows (command.Save name k to leaf)) (save d name k to leaf)
  unfolding save
  save-follows name k to leaf =
      granted-then _ _ λ t e. granted-then _ _ λ b f. granted-past _ _ _ λ full. granted-then _ _ λ r i.
      let v : Option Parties = Some (record { sender = t.handle; receiver = r.handle }) in
      let new : Addresses = at_place a (next_ref d) v in
      let here : new (next_ref d) ≡ v = new-here a (next_ref d) v in
      let is : parties_of (find (has_name name) d.tasks) (find (has_name to) d.tasks) ≡ v =
      ap (λ o. parties_of o (find (has_name to) d.tasks)) (found_name d name t e) ∙ ap (parties_of (Some t)) (is_found _ NoTask r i) in
      granted-with _ (letter-agrees a new (more v) _ d (later v) here g) λ sent all. granted-past _ _ _ λ plays.
      let edit : List Outgoing → List Outgoing = sender.sending_offered (next_ref d) r.handle k in
      let opened : Outgoing = outgoing.Open (sender.new_sending (next_ref d) r.handle k) in
      granted (record {
        desk = subst (λ w. Agrees (at_place a (next_ref d) w) (with_sending t.handle edit sent)) (sym is)
            (outs-agree t.handle edit (λ vs old. all-more (OutAgrees new t.handle) is_open opened vs here old) sent all);
      })

  -- a message once more, by what it says: what is then addressed, and that the new message agrees with it
  again-agrees : (h r : ℕ) (v : Option Parties) (b : Body) → ((f : FileData) → b ≡ body.DataSave f → From v h r) →
      Extends a (addressed_as a (next_ref d) v b) × ((i : ℕ) → next_ref d + 1 ≤ i → addressed_as a (next_ref d) v b i ≡ None)
      × BodyAgrees (addressed_as a (next_ref d) v b) h r (next_ref d) b
  again-agrees h r v (body.DataSave file) is = (more v, later v, new-here a (next_ref d) v ∙ is file refl)
  again-agrees h r v _ is = (λ i p q. q, λ i low. g.born i (omega (arith, low)), tt)

  -- a DataSave that agrees is of these tasks
  save-agrees : (h r ref : ℕ) (b : Body) → BodyAgrees a h r ref b → (f : FileData) → b ≡ body.DataSave f → From (a ref) h r
  save-agrees h r ref (body.DataSave file) is f e = is
  save-agrees h r ref (body.DataSaveAck file) is f e = absurd cc
  save-agrees h r ref (body.DataLoad file) is f e = absurd cc
  save-agrees h r ref (body.DataLoadAck file) is f e = absurd cc
  save-agrees h r ref (body.RamFetch buffer n) is f e = absurd cc
  save-agrees h r ref (body.RamTransmit buffer n) is f e = absurd cc
  save-agrees h r ref (body.Other o) is f e = absurd cc

  -- the scrap file kept or given up after a message
  answered : {b : Addresses} (sent : Desk) → Agrees b sent → Agrees b (after_answer sent)
  answered sent all = still-agrees sent.post sent refl refl all

  send-follows : (name : List ℕ) (recorded : Bool) (h ref act : ℕ) (bytes : Option (List ℕ)) →
      let c = command.Raw (raw.Send name recorded h ref act bytes) in
      OnGrant (Follows c) (send d name recorded h ref act (unwrap_or bytes []))
  unfolding send
  send-follows name recorded h ref act bytes =
      let b : Body = body_of act (unwrap_or bytes []) in
      granted-then _ _ λ t e.
      let v : Option Parties = Some (record { sender = t.handle; receiver = h }) in
      let is : parties_to (find (has_name name) d.tasks) h ≡ v = ap (λ o. parties_to o h) (found_name d name t e) in
      let w = again-agrees t.handle h v (read_body b) (λ f q. refl) in
      granted-with _ (letter-agrees a (addressed_as a (next_ref d) v (read_body b)) w.0 (raw_letter t.handle recorded h ref act (unwrap_or bytes [])) d
      w.1 w.2 g) λ sent all. granted-past _ _ _ λ its. granted-past _ _ _ λ was.
      granted (record {
        desk = subst (λ u. Agrees (addressed_as a (next_ref d) u (read_body b)) (after_answer sent)) (sym is) (answered sent all);
      })

  repeat-follows : (name : List ℕ) → OnGrant (Follows (command.Repeat name)) (repeat d name)
  unfolding repeat
  repeat-follows name =
      granted-then _ _ λ t e. granted-then _ _ λ last f.
      let sent_last : t.last_sent ≡ Some last = is_found t.last_sent NothingSent last f in
      let is : last_of (find (has_name name) d.tasks) ≡ Some last = ap last_of (found_name d name t e) ∙ sent_last in
      let old : LastAgrees a t.handle (Some last) = subst (LastAgrees a t.handle) sent_last (named-agrees d g name t e).sent in
      let b : Body = read_body last.0.body in
      let w = again-agrees t.handle last.0.to (a last.1) b (save-agrees t.handle last.0.to last.1 b old) in
      let new : Addresses = addressed_as a (next_ref d) (a last.1) b in
      granted-with _ (letter-agrees a new w.0 (record last.0 { from = t.handle }) d w.1 w.2 g) λ sent all.
      granted (record {
        desk = subst (λ v. Agrees (addressed_last a (next_ref d) v) (after_letter t.manner sent)) (sym is)
            (chosen (Agrees new) (is_raw t.manner) (after_answer sent) sent (answered sent all) all);
      })

-- ---- all commands

module _ (a : Addresses) (d : Desk) (g : Agrees a d) where
  -- a command that offers nothing, or is refused
  kept : {r : Granted Answer} → OnGrant (Keeps a d g) r → Agrees a (or_else r (λ refusal. (d, reply.Refused refusal))).0
  kept all = (or_else-keeps (Keeps a d g) _ all (λ refusal. record { desk = g })).desk

  pub step-agrees : (c : Command) → Agrees (addresses_next a d c (step d c).1) (step d c).0
  step-agrees (command.Task name buffer manner) = kept (start_task-keeps a d g name buffer manner)
  step-agrees (command.Kill name) = kept (kill-keeps a d g name)
  step-agrees (command.Save name k to leaf) =
      (or_else-keeps (Follows a d g (command.Save name k to leaf)) _ (save-follows a d g name k to leaf) (λ refusal. record { desk = g })).desk
  step-agrees (command.Poll name) = kept (poll-keeps a d g name)
  step-agrees (command.CancelIn name id) = kept (cancel_in-keeps a d g name id)
  step-agrees (command.CancelOut name id) = kept (cancel_out-keeps a d g name id)
  step-agrees (command.Repeat name) =
      (or_else-keeps (Follows a d g (command.Repeat name)) _ (repeat-follows a d g name) (λ refusal. record { desk = g })).desk
  step-agrees (command.Make most) = kept (make-keeps a d g most)
  step-agrees (command.Raw (raw.Send name recorded h ref act bytes)) =
      let c = command.Raw (raw.Send name recorded h ref act bytes) in
      (or_else-keeps (Follows a d g c) _ (send-follows a d g name recorded h ref act bytes) (λ refusal. record { desk = g })).desk
  step-agrees (command.Raw (raw.Write name x bytes)) = kept (memory-keeps a d g (command.Raw (raw.Write name x bytes)) refl)
  step-agrees (command.Raw (raw.Transfer name x h y n)) = kept (transfer-keeps a d g name x h y n)
  step-agrees (command.Raw (raw.Ack name)) = kept (ack-keeps a d g name)
  step-agrees (command.Raw (raw.Spool name k h ref)) = kept (spool-keeps a d g name k h ref)
  step-agrees (command.Raw (raw.Scrap name k)) = kept (memory-keeps a d g (command.Raw (raw.Scrap name k)) refl)
  step-agrees c = kept (memory-keeps a d g c tt)

after-agrees : (a : Addresses) (d : Desk) (cs : List Command) → Agrees a d → Agrees (addresses_from a d cs) (after d cs)
after-agrees a d [] g = g
after-agrees a d (c ∷ cs) g = after-agrees (addresses_next a d c (step d c).1) (step d c).0 cs (step-agrees a d g c)

-- ---- the law

-- a record that agrees was offered by some task
pub some-sender : (v : Option Parties) (h : ℕ) (w : Incoming) → AgreesIn v h w → (s : ℕ) × From v s h
some-sender v h (incoming.Fetching f) is = (f.sender, is)
some-sender v h (incoming.Draining f) is = (f.sender, is)
some-sender v h (incoming.Asking q) is = (q.sender, is)
some-sender v h (incoming.Done i k n) is = is
some-sender v h (incoming.Failed i k n) is = is

module _ (d : Desk) (cs : List Command) (g : Agrees (addressed d cs) (after d cs)) where
  -- what the task of a handle has
  own : (h : ℕ) (t : Task) → task_at h (after d cs) ≡ Some t → t.handle ≡ h
  own h t at = is_equal _ _ (first_is (λ (y : Task). y.handle == h) (after d cs).tasks t at).1

  taken : (h : ℕ) (t : Task) (w : Incoming) → task_at h (after d cs) ≡ Some t → Has w t.taking → InAgrees (addressed d cs) h w
  taken h t w at has =
      subst (λ j. InAgrees (addressed d cs) j w) (own h t at)
      (all-has (InAgrees (addressed d cs) t.handle) t.taking w (found-agrees (after d cs) g (λ (y : Task). y.handle == h) t at).ins has)

  given : (h : ℕ) (t : Task) (v : Outgoing) → task_at h (after d cs) ≡ Some t → Has v t.sending → OutAgrees (addressed d cs) h v
  given h t v at has =
      subst (λ j. OutAgrees (addressed d cs) j v) (own h t at)
      (all-has (OutAgrees (addressed d cs) t.handle) t.sending v (found-agrees (after d cs) g (λ (y : Task). y.handle == h) t at).outs has)

  holder : (id h : ℕ) (got : List ℕ) → held d cs id h ≡ Some got → (s : ℕ) × From (addressed d cs id) s h
  holder id h got q = of_task (task_at h (after d cs)) refl q
    where
      of_record : (t : Task) → task_at h (after d cs) ≡ Some t → (o : Option Incoming) → find (λ w. in_id w == id) t.taking ≡ o →
          document_of t (is_edited d cs h id) o ≡ Some got → (s : ℕ) × From (addressed d cs id) s h
      of_record t at None e q = absurd (none_some None refl q)
      of_record t at (Some w) e q =
          let found = first_is (λ (y : Incoming). in_id y == id) t.taking w e in
          subst (λ i. (s : ℕ) × From (addressed d cs i) s h) (is_equal _ _ found.1)
          (some-sender (addressed d cs (in_id w)) h w (taken h t w at found.0))

      of_task : (o : Option Task) → task_at h (after d cs) ≡ o → held_of o id (is_edited d cs h id) ≡ Some got →
          (s : ℕ) × From (addressed d cs id) s h
      of_task None e q = absurd (none_some None refl q)
      of_task (Some t) e q = of_record t e (find (λ w. in_id w == id) t.taking) refl q

  is-addressed : IsAddressed d cs
  is-addressed = record {
    holds = holder;
    takes = λ h t w at has. taken h t w at (has_of t.taking w has);
    sends = λ h t v at has. given h t v at (has_of t.sending v has);
  }

pub always-addressed : AlwaysAddressed
always-addressed pool handle ref files cs =
    let d : Desk = start_with pool files handle ref in
    is-addressed d cs (after-agrees (λ i. None) d cs (record { born = λ i low. refl; of_tasks = tt; mail = tt }))
