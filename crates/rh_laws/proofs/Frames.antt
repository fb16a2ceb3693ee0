-- Edits of one task leave the others, and so does each command that isn't of them and no poll.
use Rattle.rh_laws.proofs.Common.{◌≡◌, ◌≢◌, ℕ, true, false, not, List, [], ◌∷◌, ◌++◌, Option, Some, None, refl, ap, ◌∙◌, inl, inr, arith, nat_eq, ◌==◌}
use Rattle.rh_laws.proofs.Common.{if◌then◌else◌, filter, find, Ok, option_map, eqb_tells, Command, Manner, Letter, Outgoing, Incoming, Slot, Desk}
use Rattle.rh_laws.proofs.Common.{Task, edit_task, has_name, named, send_letter, task_at, with_delivered, with_sending, with_slot, with_taking, with_task}
use Rattle.rh_laws.proofs.Common.{Answer, start_task, kill, make, save, repeat, poll, cancel_in, cancel_out, change, step, OnGrant, granted}
use Rattle.rh_laws.proofs.Common.{granted-past, granted-then, granted-with, or_else-keeps, none_some, found_name, task_of, Changed, IsOnMemory, granted-on}
use Rattle.rh_laws.proofs.Common.{in_areas, in_made, in_module, in_nothing, in_slot}
use Rattle.rh_defs.specs.declared.command.Command.TheVariants as command
use Rattle.rh_defs.proofs.Changes.{slot_name}
use Rattle.rh_laws.specs.Frame.{actor, handle_of, moves_to, poller, LeavesOthers, MovesFit, MovesInto}
use Rattle.rh_laws.proofs.Common.{Bool, any-grant, chosen, first_is, found_or, granted-both, held_by, is_equal, is_found, length, sym, unwrap_or}
use Rattle.rh_laws.proofs.Common.{without_buffer}
use Rattle.rh_laws.proofs.Common.{Refusal, Taking, NoTask, BadRange, ◌⊎◌, ◌||◌, ◌&&◌, subst}
use Rattle.rh_defs.specs.declared.refusal.Refusal.TheVariants.{WrongManner}
use Rattle.rh_defs.specs.declared.raw_command.RawCommand.{RawCommand}
use Rattle.rh_defs.specs.declared.raw_command.RawCommand.TheVariants as raw
use Rattle.rh_defs.specs.declared.reply.Reply.TheVariants as reply
use Rattle.rh_defs.specs.Commands.{with_released}
use Rattle.rh_defs.specs.OutgoingEvents.{scrap_shortage, wider}
use Rattle.rh_defs.specs.Places.{bytes_held, overlap, written_held}
use Rattle.rh_defs.specs.RawCommands.{ack, after_answer, is_bad_move, is_shut, send, spool, transfer}
use Rattle.rh_defs.specs.RawTasks.{is_open_to, is_raw}
use Rattle.rh_defs.specs.Receiver as receiver
use Rattle.rh_defs.specs.Slot.{holds}
use Rattle.rh_safety.proofs.SeenBlocks.{not_refused}
use Rattle.rh_safety.proofs.SeenFrames.{bind, done, instead_of, test}

-- ---- lists of tasks

-- an edit of one task leaves the others
pub edit-other : (h k : ℕ) (f : Task → Task) → ((y : Task) → (f y).handle ≡ y.handle) → (ts : List Task) → h ≢ k →
    task_of k (edit_task h f ts) ≡ task_of k ts
edit-other h k f kh [] ne = refl
edit-other h k f kh (t ∷ ts) ne = elim (eqb_tells t.handle h) [
  | inl a ↦
      let off : nat_eq t.handle k ≡ false = grind (arith, eqb_tells t.handle k) in
      let new : nat_eq (f t).handle k ≡ false = rw kh off in
      rw (a.0, off, new) refl
  | inr a ↦ elim (eqb_tells t.handle k) [
    | inl b ↦ rw (a.0, b.0) refl
    | inr b ↦ rw (a.0, b.0) (edit-other h k f kh ts ne)
  ]
]

-- the task that is edited
pub edit-own : (h : ℕ) (f : Task → Task) → ((y : Task) → (f y).handle ≡ y.handle) → (ts : List Task) (t : Task) →
    task_of h ts ≡ Some t → task_of h (edit_task h f ts) ≡ Some (f t)
edit-own h f kh [] t q = absurd cc
edit-own h f kh (x ∷ ts) t q = elim (eqb_tells x.handle h) [
  | inl a ↦
      let same : x ≡ t = let z = rw a.0 at q in cc in
      let new : nat_eq (f x).handle h ≡ true = rw kh a.0 in
      rw (a.0, new) (ap (λ (y : Task). Some (f y)) same)
  | inr a ↦ rw (a.0, a.0) (edit-own h f kh ts t (rw a.0 at q))
]

-- one more task leaves those of other handles
pub more-other : (k : ℕ) (new : Task) (ts : List Task) → new.handle ≢ k → task_of k (ts ++ new ∷ []) ≡ task_of k ts
more-other k new [] ne =
    let off : nat_eq new.handle k ≡ false = grind (arith, eqb_tells new.handle k) in rw off refl
more-other k new (t ∷ ts) ne =
    elim (t.handle == k) as (λ b. (if b then Some t else task_of k (ts ++ new ∷ [])) ≡ (if b then Some t else task_of k ts))
    [ true ↦ refl | false ↦ more-other k new ts ne ]

-- without the tasks of a handle the others are there
pub less-other : (h k : ℕ) (ts : List Task) → h ≢ k → task_of k (filter (λ (t : Task). not (t.handle == h)) ts) ≡ task_of k ts
less-other h k [] ne = refl
less-other h k (t ∷ ts) ne = elim (eqb_tells t.handle h) [
  | inl a ↦
      let off : nat_eq t.handle k ≡ false = grind (arith, eqb_tells t.handle k) in
      rw (a.0, off) (less-other h k ts ne)
  | inr a ↦ elim (eqb_tells t.handle k) [
    | inl b ↦ rw (a.0, b.0) refl
    | inr b ↦ rw (a.0, b.0) (less-other h k ts ne)
  ]
]

-- ---- desks

-- the task of the handle is as it was
pub record Leaves (k : ℕ) (d e : Desk) : Type 0 where
  pub same : task_at k e ≡ task_at k d

pub both-leave : {k : ℕ} {d e f : Desk} → Leaves k d e → Leaves k e f → Leaves k d f
both-leave a b = record { same = b.same ∙ a.same }

module _ (h k : ℕ) (ne : h ≢ k) where
  pub task-leaves : (f : Task → Task) → ((y : Task) → (f y).handle ≡ y.handle) → (d : Desk) → Leaves k d (with_task h f d)
  unfolding with_task
  task-leaves f kh d = record { same = edit-other h k f kh d.tasks ne }

  pub slot-leaves : (s : Slot) (d : Desk) → Leaves k d (with_slot h s d)
  slot-leaves s d = task-leaves (λ (t : Task). record t { slot = s }) (λ y. refl) d

  pub outs-leave : (edit : List Outgoing → List Outgoing) (d : Desk) → Leaves k d (with_sending h edit d)
  outs-leave edit d = task-leaves (λ (t : Task). record t { sending = edit t.sending }) (λ y. refl) d

  pub ins-leave : (edit : List Incoming → List Incoming) (d : Desk) → Leaves k d (with_taking h edit d)
  ins-leave edit d = task-leaves (λ (t : Task). record t { taking = edit t.taking }) (λ y. refl) d

pub letter-leaves : (k : ℕ) (l : Letter) (d : Desk) → l.from ≢ k → OnGrant (Leaves k d) (send_letter l d)
unfolding send_letter with_task
letter-leaves k l d ne =
    granted-then _ _ λ sent e.
    granted (record { same = edit-other l.from k (λ (t : Task). record t { last_sent = Some (l, sent.1) }) (λ y. refl) d.tasks ne })

-- the scrap file kept or given up after a message
pub answer-leaves : (k : ℕ) (d : Desk) → Leaves k d (after_answer d)
unfolding with_delivered
answer-leaves k d = record { same = refl }

-- ---- commands

-- a task of the name has another handle, where the name is of none with that one
pub other-task : (k : ℕ) (name : List ℕ) (d : Desk) (t : Task) → handle_of name d ≢ Some k → named name d ≡ Ok t → t.handle ≢ k
other-task k name d t not_own is same =
    not_own (ap (option_map (λ (y : Task). y.handle)) (found_name d name t is) ∙ ap Some same)

module _ (k : ℕ) (d : Desk) where
  -- what a command leaves
  pub record Kept (a : Answer) : Type 0 where
    pub desk : Leaves k d a.0

  still : {a : Answer} → Leaves k d a.0 → OnGrant Kept (Ok a)
  still leaves = granted (record { desk = leaves })

  all-stand : Leaves k d d
  all-stand = record { same = refl }

  start_task-kept : (name : List ℕ) (buffer : ℕ) (manner : Manner) → d.next_handle ≢ k → OnGrant Kept (start_task d name buffer manner)
  unfolding start_task
  start_task-kept name buffer manner ne =
      granted-past _ _ _ λ a. granted-past _ _ _ λ b. granted-past _ _ _ λ c. granted-then _ _ λ s e.
      still (record { same = more-other k _ d.tasks ne })

  make-kept : (most : ℕ) → OnGrant Kept (make d most)
  unfolding make
  make-kept most = granted-past _ _ _ λ a. granted-past _ _ _ λ b. still (record { same = refl })

  changed-kept : {c : Command} → ((name : List ℕ) → slot_name c ≡ Some name → handle_of name d ≢ Some k) → (a : Answer) →
      Changed c d a → Kept a
  changed-kept others _ (in_slot name t s is e quiet) = record { desk = slot-leaves t.handle k (other-task k name d t (others name is) e) s d }
  changed-kept others _ (in_module h quiet) = record { desk = record { same = refl } }
  changed-kept others _ (in_areas areas quiet) = record { desk = record { same = refl } }
  changed-kept others _ (in_made areas quiet) = record { desk = record { same = refl } }
  changed-kept others _ (in_nothing quiet) = record { desk = all-stand }

  -- the task whose slot is changed is the command's own
  actor-is : (c : Command) → IsOnMemory c → (name : List ℕ) → slot_name c ≡ Some name → actor c d ≡ handle_of name d
  actor-is (command.Task name buffer manner) is own e = absurd is
  actor-is c is own e = cc

  memory-kept : (c : Command) → IsOnMemory c → actor c d ≢ Some k → OnGrant Kept (change d c)
  memory-kept c is ne = granted-on d c is (changed-kept λ name own same. ne (actor-is c is name own ∙ same))

  -- no task polls
  poll-kept : (name : List ℕ) → find (has_name name) d.tasks ≡ None → OnGrant Kept (poll d name)
  unfolding poll
  poll-kept name none = granted-then _ _ λ t e. absurd (none_some (find (has_name name) d.tasks) none (found_name d name t e))

  -- commands of a task with a name
  module _ (name : List ℕ) (not_own : handle_of name d ≢ Some k) where
    other : (t : Task) → named name d ≡ Ok t → t.handle ≢ k
    other t e = other-task k name d t not_own e

    kill-kept : OnGrant Kept (kill d name)
    unfolding kill with_delivered
    kill-kept = granted-then _ _ λ t e. still (record { same = less-other t.handle k d.tasks (other t e) })

    save-kept : (a : ℕ) (to leaf : List ℕ) → OnGrant Kept (save d name a to leaf)
    unfolding save
    save-kept a to leaf =
        granted-then _ _ λ t e. granted-then _ _ λ b f. granted-past _ _ _ λ full. granted-then _ _ λ r g.
        granted-with _ (letter-leaves k _ d (other t e)) λ sent one. granted-past _ _ _ λ plays.
        still (both-leave one (outs-leave t.handle k (other t e) _ sent))

    repeat-kept : OnGrant Kept (repeat d name)
    unfolding repeat
    repeat-kept =
        granted-then _ _ λ t e. granted-then _ _ λ last f. granted-with _ (letter-leaves k _ d (other t e)) λ sent one.
        still (chosen (Leaves k d) (is_raw t.manner) (after_answer sent) sent (both-leave one (answer-leaves k sent)) one)

    cancel_in-kept : (id : Option ℕ) → OnGrant Kept (cancel_in d name id)
    unfolding cancel_in
    cancel_in-kept id = granted-then _ _ λ t e. granted-then _ _ λ records f.
        still (both-leave (released-kept t.handle (other t e) (receiver.released_by id t.taking))
        (ins-leave t.handle k (other t e) (λ old. records) _))
      where
        released-kept : (h : ℕ) → h ≢ k → (o : Option Taking) → Leaves k d (with_released h o d)
        released-kept h ne None = all-stand
        released-kept h ne (Some f) = task-leaves h k ne (λ (t : Task). record t { slot = without_buffer f.buffer t.slot }) (λ y. refl) d

    cancel_out-kept : (id : Option ℕ) → OnGrant Kept (cancel_out d name id)
    unfolding cancel_out
    cancel_out-kept id = granted-then _ _ λ t e. granted-then _ _ λ records f.
        still (outs-leave t.handle k (other t e) (λ old. records) d)

    send-kept : (recorded : Bool) (h ref a : ℕ) (bytes : List ℕ) → OnGrant Kept (send d name recorded h ref a bytes)
    unfolding send
    send-kept recorded h ref a bytes =
        granted-then _ _ λ t e. granted-with _ (letter-leaves k _ d (other t e)) λ sent one. granted-past _ _ _ λ its. granted-past _ _ _ λ was.
        still (both-leave one (answer-leaves k sent))

    ack-kept : OnGrant Kept (ack d name)
    unfolding ack with_delivered
    ack-kept = granted-then _ _ λ t e. granted-past _ _ _ λ its. still (record { same = refl })

    spool-kept : (a h ref : ℕ) → OnGrant Kept (spool d name a h ref)
    unfolding spool
    spool-kept a h ref =
        granted-then _ _ λ t e. granted-then _ _ λ b f. granted-past _ _ _ λ none. granted-both _ (any-grant _) λ x u. granted-past _ _ _ λ fits.
        granted-with _ (letter-leaves k _ (wider (scrap_shortage (length b.here.bytes) d) d) (other t e)) λ sent one.
        granted-past _ _ _ λ its. granted-past _ _ _ λ was. still (record { same = one.same })

  -- bytes that go to another task
  transfer-kept : (name : List ℕ) (x h y n : ℕ) → h ≢ k → OnGrant Kept (transfer d name x h y n)
  unfolding transfer
  transfer-kept name x h y n ne =
      granted-then _ _ λ t e. granted-past _ _ _ λ open_. granted-then _ _ λ r f. granted-past _ _ _ λ its.
      let own : r.handle ≡ h = is_equal _ _ (first_is (λ (y : Task). y.handle == h) d.tasks r (is_found (task_at h d) NoTask r f)).1 in
      still (task-leaves r.handle k (λ same. ne (sym own ∙ same)) (λ (r : Task). record r { slot = written_held y (bytes_held x n t.slot) r.slot })
      (λ y. refl) d)

  raw-kept : (c : RawCommand) → actor (command.Raw c) d ≢ Some k → moves_to (command.Raw c) ≢ Some k → OnGrant Kept (change d (command.Raw c))
  raw-kept (raw.Send name recorded h ref a bytes) ne away = send-kept name ne recorded h ref a (unwrap_or bytes [])
  raw-kept (raw.Write name x bytes) ne away = memory-kept (command.Raw (raw.Write name x bytes)) refl ne
  raw-kept (raw.Transfer name x h y n) ne away = transfer-kept name x h y n (λ same. away (ap Some same))
  raw-kept (raw.Ack name) ne away = ack-kept name ne
  raw-kept (raw.Spool name a h ref) ne away = spool-kept name ne a h ref
  raw-kept (raw.Scrap name a) ne away = memory-kept (command.Raw (raw.Scrap name a)) refl ne

  -- ---- all of them

  change-kept : (c : Command) → poller c d ≡ None → actor c d ≢ Some k → moves_to c ≢ Some k → OnGrant Kept (change d c)
  change-kept (command.Task name buffer manner) p ne away = start_task-kept name buffer manner (λ same. ne (ap Some same))
  change-kept (command.Kill name) p ne away = kill-kept name ne
  change-kept (command.Save name a to leaf) p ne away = save-kept name ne a to leaf
  change-kept (command.Poll name) p ne away = poll-kept name p
  change-kept (command.CancelIn name id) p ne away = cancel_in-kept name ne id
  change-kept (command.CancelOut name id) p ne away = cancel_out-kept name ne id
  change-kept (command.Repeat name) p ne away = repeat-kept name ne
  change-kept (command.Make most) p ne away = make-kept most
  change-kept (command.Raw c) p ne away = raw-kept c ne away
  change-kept c p ne away = memory-kept c tt ne

  step-kept : (c : Command) → poller c d ≡ None → actor c d ≢ Some k → moves_to c ≢ Some k → Kept (step d c)
  step-kept c p ne away = or_else-keeps Kept _ (change-kept c p ne away) (λ refusal. record { desk = all-stand })

pub leaves-others : LeavesOthers
leaves-others d c h p ne away = (step-kept h d c p ne away).desk.same

-- ---- bytes that are moved to a task

either_of : (a b : Bool) → (a || b) ≡ false → (a ≡ false) × (b ≡ false)
either_of true b e = absurd (let z : Bool.true ≡ false = e in (cc))
either_of false b e = (refl, e)

not_off : (b : Bool) → not b ≡ false → b ≡ true
not_off true e = refl
not_off false e = absurd (let z : Bool.true ≡ false = e in (cc))

pub moves-fit : MovesFit
unfolding transfer with_task
moves-fit d name x h y n r at_ =
    bind P _ _ (instead_of d) same (λ t q. test P _ _ (instead_of d) same (λ u v. bind P _ _ (instead_of d) same (λ s e.
    test P _ _ (instead_of d) same (λ m k. done P _ (instead_of d) (moved t q (not_refused _ BadRange u v) s e (not_refused _ WrongManner m k))))))
  where
    P : Answer → Type 0
    P a = (task_at h a.0 ≡ Some r) ⊎ MovesInto d name x y n r (task_at h a.0)

    same : (refusal : Refusal) → P (instead_of d refusal)
    same refusal = inl at_

    moved : (t : Task) → named name d ≡ Ok t → is_bad_move d t x h y n ≡ false → (s : Task) → found_or (task_at h d) NoTask ≡ Ok s →
        not (is_raw t.manner) ≡ false →
        P (with_task s.handle (λ (r : Task). record r { slot = written_held y (bytes_held x n t.slot) r.slot }) d, reply.Done)
    moved t q good s e its =
        let one : Some s ≡ Some r = sym (is_found (task_at h d) NoTask s e) ∙ at_ in
        let is_r : s ≡ r = cc in
        let own : s.handle ≡ h = is_equal _ _ (first_is (λ (y : Task). y.handle == h) d.tasks s (is_found (task_at h d) NoTask s e)).1 in
        let parts = either_of (not (holds x n t.slot) || (t.handle == h && overlap x n y n)) _ good in
        let shut : is_shut t.handle (held_by t.handle d.post.seats) y n (Some r) ≡ false =
        ap (is_shut t.handle (held_by t.handle d.post.seats) y n) (sym at_) ∙ parts.1 in
        inr (record {
          sender = t;
          is = found_name d name t q;
          codes = not_off (is_raw t.manner) its;
          has = not_off (holds x n t.slot) (either_of (not (holds x n t.slot)) _ parts.0).0;
          opened = not_off (is_open_to t.handle (held_by t.handle d.post.seats) r y n) shut;
          moved = subst (λ j. task_at h (with_task j (λ (r : Task). record r { slot = written_held y (bytes_held x n t.slot) r.slot }) d)
              ≡ Some (record r { slot = written_held y (bytes_held x n t.slot) r.slot })) (sym own)
              (edit-own h (λ (r : Task). record r { slot = written_held y (bytes_held x n t.slot) r.slot }) (λ y. refl) d.tasks r at_);
        })
