-- What tasks with code of their own send, answer and spool changes no slot and no record, and their polls change no task.
use Rattle.rh_laws.proofs.Common.{◌≡◌, ℕ, Bool, true, false, List, [], ◌∷◌, length, Option, Some, None, refl, sym, ap, ◌∙◌, find, option_map}
use Rattle.rh_laws.proofs.Common.{if◌then◌else◌, ◌==◌, Command, Letter, Desk, Task, edit_task, has_name, named, send_letter, task_at}
use Rattle.rh_laws.proofs.Common.{with_delivered}
use Rattle.rh_laws.proofs.Common.{unwrap_or, inl, inr, eqb_tells, Answer, Parcel, post_poll, poll, poll_taken, step, OnGrant, granted, granted-then}
use Rattle.rh_laws.proofs.Common.{found_name, task_of, handled, with_task}
use Rattle.rh_defs.proofs.Chains.{grant-holds}
use Rattle.rh_defs.specs.AnyMessage.{as_read}
use Rattle.rh_defs.specs.declared.command.Command.TheVariants as command
use Rattle.rh_defs.specs.declared.raw_command.RawCommand.TheVariants as raw
use Rattle.rh_defs.specs.declared.reply.Outcome.TheVariants as outcome
use Rattle.rh_defs.specs.OutgoingEvents.{scrap_shortage, wider}
use Rattle.rh_defs.specs.RawCommands.{ack, raw_letter, send, spool, spool_letter}
use Rattle.rh_defs.specs.RawTasks.{is_raw}
use Rattle.rh_safety.proofs.SeenFrames.{bind, done, instead_of, test}
use Rattle.rh_laws.specs.Frame.{SendsAlone, is_of_messages}

-- a field that a letter leaves
abbrev Field : Type 0 → Type 0
Field A = Task → A

edit-field : {A : Type 0} (g : Task → A) (h k : ℕ) (f : Task → Task) → ((u : Task) → (f u).handle ≡ u.handle) → ((u : Task) → g (f u) ≡ g u) →
    (ts : List Task) → option_map g (task_of k (edit_task h f ts)) ≡ option_map g (task_of k ts)
edit-field g h k f kh kg [] = refl
edit-field g h k f kh kg (t ∷ ts) = elim (eqb_tells t.handle h) [
  | inl a ↦ elim (eqb_tells t.handle k) [
    | inl b ↦ let c : ((f t).handle == k) ≡ true = rw kh b.0 in rw (a.0, b.0, c) (ap Some (kg t))
    | inr b ↦ let c : ((f t).handle == k) ≡ false = rw kh b.0 in rw (a.0, b.0, c) refl
  ]
  | inr a ↦ elim (eqb_tells t.handle k) [
    | inl b ↦ rw (a.0, b.0) refl
    | inr b ↦ rw (a.0, b.0) (edit-field g h k f kh kg ts)
  ]
]

module _ {A : Type 0} (g : Task → A) (kg : (u : Task) (l : Letter) (ref : ℕ) → g (record u { last_sent = Some (l, ref) }) ≡ g u) (d : Desk) (k : ℕ) where
  -- the field of the task with the handle is as it was
  abbrev Same : Desk → Type 0
  Same e = option_map g (task_at k e) ≡ option_map g (task_at k d)

  letter-same : (l : Letter) (e : Desk) → e.tasks ≡ d.tasks → OnGrant Same (send_letter l e)
  unfolding send_letter with_task
  letter-same l e tasks =
      granted-then _ _ λ sent q.
      granted (edit-field g l.from k (λ (u : Task). record u { last_sent = Some (l, sent.1) }) (λ u. refl) (λ u. kg u l sent.1) e.tasks ∙
      ap (λ (ts : List Task). option_map g (task_of k ts)) tasks)

  abbrev Says : Answer → Type 0
  Says a = Same a.0

  send-same : (name : List ℕ) (recorded : Bool) (h ref a : ℕ) (bytes : Option (List ℕ)) →
      Says (step d (command.Raw (raw.Send name recorded h ref a bytes)))
  unfolding send with_delivered
  send-same name recorded h ref a bytes = bind Says _ _ (instead_of d) (λ r. refl) (λ t q. bind Says _ _ (instead_of d) (λ r. refl) (λ sent w.
      test Says _ _ (instead_of d) (λ r. refl) (λ u v. test Says _ _ (instead_of d) (λ r. refl) (λ m n. done Says _ (instead_of d)
      (grant-holds (letter-same (raw_letter t.handle recorded h ref a (unwrap_or bytes [])) d refl) w)))))

  ack-same : (name : List ℕ) → Says (step d (command.Raw (raw.Ack name)))
  unfolding ack with_delivered
  ack-same name = bind Says _ _ (instead_of d) (λ r. refl) (λ t q. test Says _ _ (instead_of d) (λ r. refl) (λ m n. done Says _ (instead_of d) refl))

  spool-same : (name : List ℕ) (a h ref : ℕ) → Says (step d (command.Raw (raw.Spool name a h ref)))
  unfolding spool
  spool-same name a h ref = bind Says _ _ (instead_of d) (λ r. refl) (λ t q. bind Says _ _ (instead_of d) (λ r. refl) (λ b e.
      test Says _ _ (instead_of d) (λ r. refl) (λ u1 v1. test Says _ _ (instead_of d) (λ r. refl) (λ u2 v2.
      test Says _ _ (instead_of d) (λ r. refl) (λ u3 v3. bind Says _ _ (instead_of d) (λ r. refl) (λ sent w.
      test Says _ _ (instead_of d) (λ r. refl) (λ u4 v4. test Says _ _ (instead_of d) (λ r. refl) (λ m n. done Says _ (instead_of d)
      (grant-holds (letter-same (spool_letter t.handle h ref (length b.here.bytes)) (wider (scrap_shortage (length b.here.bytes) d) d) refl) w)))))))))

  command-same : (c : Command) → is_of_messages c ≡ true → Says (step d c)
  command-same (command.Raw (raw.Send name recorded h ref a bytes)) q = send-same name recorded h ref a bytes
  command-same (command.Raw (raw.Ack name)) q = ack-same name
  command-same (command.Raw (raw.Spool name a h ref)) q = spool-same name a h ref
  command-same c q = absurd (let z : false ≡ true = q in (cc))

-- a poll of such a task
abbrev LeavesTasks : Desk → Answer → Type 0
LeavesTasks d a = a.0.tasks ≡ d.tasks

raw-polled : (d : Desk) (t : Task) (o : Option Parcel) → is_raw t.manner ≡ true →
    LeavesTasks d (poll_taken (with_delivered (post_poll t.handle d.post).0 d) t o)
unfolding poll_taken with_delivered
raw-polled d t None its = refl
raw-polled d t (Some m) its =
    let at_ : Desk = with_delivered (post_poll t.handle d.post).0 d in
    ap (λ b. (if b then (at_, outcome.Taken) else handled at_ t (as_read m) m.code).0.tasks) its

pub poll-leaves : (d : Desk) (name : List ℕ) (t : Task) → find (has_name name) d.tasks ≡ Some t → is_raw t.manner ≡ true →
    LeavesTasks d (step d (command.Poll name))
unfolding poll
poll-leaves d name t found its =
    bind (LeavesTasks d) (named name d) _ (instead_of d) (λ r. refl) (λ u q. done (LeavesTasks d) _ (instead_of d) (
    let one : Some u ≡ Some t = sym (found_name d name u q) ∙ found in
    let same : u ≡ t = cc in
    raw-polled d u (post_poll u.handle d.post).1 (ap (λ (z : Task). is_raw z.manner) same ∙ its)))

pub sends-alone : (d : Desk) → SendsAlone d
sends-alone d = record {
  slots = λ c h q. command-same (λ (u : Task). u.slot) (λ u l ref. refl) d h c q;
  outs = λ c h q. command-same (λ (u : Task). u.sending) (λ u l ref. refl) d h c q;
  ins = λ c h q. command-same (λ (u : Task). u.taking) (λ u l ref. refl) d h c q;
  polls = poll-leaves d;
}
