-- No two live tasks have one name.
use Rattle.rh_safety.proofs.Common.{◌≡◌, ◌≢◌, ℕ, Bool, true, false, not, ◌||◌, List, [], ◌∷◌, ◌++◌, Option, Some, refl, sym, ap, ◌∙◌, subst, inl, inr}
use Rattle.rh_safety.proofs.Common.{if◌then◌else◌, ◌==◌, filter, list_any, bytes_eq, Refusal, Command, Manner, post_poll, Desk, Task, has_name, named}
use Rattle.rh_safety.proofs.Common.{task_at, with_delivered, Answer, start_task, kill, make, save, repeat, poll, cancel_in, cancel_out, step, Always}
use Rattle.rh_safety.proofs.Common.{or_else-keeps, start_with, after, Has, first_is, is_equal, bind, test, done, instead_of}
use Rattle.std.proofs.lemmas.Slice.Eq.{bytes_eq-Decides}
use Rattle.rh_defs.specs.declared.refusal.Refusal.TheVariants.{NameInUse}
use Rattle.rh_defs.specs.declared.command.Command.TheVariants as command
use Rattle.rh_safety.specs.Names.{HaveOwnNames}
use Rattle.rh_safety.proofs.SeenBlocks.{not_refused}
use Rattle.rh_defs.specs.declared.raw_command.RawCommand.{RawCommand}
use Rattle.rh_defs.specs.declared.raw_command.RawCommand.TheVariants as raw
use Rattle.rh_defs.specs.Commands.{with_released}
use Rattle.rh_defs.specs.IncomingEvents.{without_buffer}
use Rattle.rh_defs.specs.Places.{bytes_held, written_held}
use Rattle.rh_defs.specs.RawCommands.{ack, after_answer, send, spool, transfer}
use Rattle.rh_defs.specs.RawTasks.{is_raw}
use Rattle.rh_safety.proofs.Common.{None, Taking, either, with_task}
use Rattle.rh_safety.proofs.SeenKeys.{Key, keys_edit, keys_of, SameKeys, slot_keys, outs_keys, ins_keys, sent_keys}
use Rattle.rh_safety.proofs.Alternations.{taken_keys, delivered_keys}
use Rattle.rh_defs.proofs.Changes.{Changed, IsOnMemory, in_slot}
use Rattle.rh_defs.proofs.Steps.{granted-on}

-- ---- keys of different names

-- no key has the name
abbrev Lacks : List ℕ → List Key → Type 0
Lacks name [] = Unit {0}
Lacks name (k ∷ keys) = (k.1 ≢ name) × Lacks name keys

-- no two keys have one name
abbrev Differ : List Key → Type 0
Differ [] = Unit {0}
Differ (k ∷ keys) = Lacks k.1 keys × Differ keys

lacks_it : (name : List ℕ) (keys : List Key) (k : Key) → Lacks name keys → Has k keys → k.1 ≢ name
lacks_it name [] k all has = absurd has
lacks_it name (y ∷ keys) k all (inl same) = subst (λ (z : Key). z.1 ≢ name) same all.0
lacks_it name (y ∷ keys) k all (inr has) = lacks_it name keys k all.1 has

-- keys with one name are one
one_key : (keys : List Key) (a b : Key) → Differ keys → Has a keys → Has b keys → a.1 ≡ b.1 → a.0 ≡ b.0
one_key [] a b all in_a in_b same = absurd in_a
one_key (k ∷ keys) a b all (inl p) (inl q) same = ap (λ (z : Key). z.0) (sym p ∙ q)
one_key (k ∷ keys) a b all (inl p) (inr q) same =
    absurd (lacks_it k.1 keys b all.0 q (sym same ∙ ap (λ (z : Key). z.1) (sym p)))
one_key (k ∷ keys) a b all (inr p) (inl q) same =
    absurd (lacks_it k.1 keys a all.0 p (same ∙ ap (λ (z : Key). z.1) (sym q)))
one_key (k ∷ keys) a b all (inr p) (inr q) same = one_key keys a b all.1 p q same

-- ---- one more task, and one fewer

lacks_more : (name : List ℕ) (k : Key) (ts : List Task) (t : Task) → Lacks name (keys_of ts) → t.name ≢ name →
    Lacks name (keys_of (ts ++ t ∷ []))
lacks_more name k [] t all ne = (ne, tt)
lacks_more name k (y ∷ ts) t all ne = (all.0, lacks_more name k ts t all.1 ne)

-- a task with a name that none has
differ_more : (ts : List Task) (t : Task) → Differ (keys_of ts) → Lacks t.name (keys_of ts) → Differ (keys_of (ts ++ t ∷ []))
differ_more [] t all none = (tt, tt)
differ_more (y ∷ ts) t all none = (
  lacks_more y.name (t.handle, t.name, t.manner) ts t all.0 (λ e. none.0 (sym e)),
  differ_more ts t all.1 none.1,
)

-- a name that isn't in use
lacks_new : (name : List ℕ) (ts : List Task) → list_any (has_name name) ts ≡ false → Lacks name (keys_of ts)
lacks_new name [] none = tt
lacks_new name (t ∷ ts) none = go (bytes_eq t.name name) refl none (lacks_new name ts)
  where
    go : (b : Bool) → bytes_eq t.name name ≡ b → (b || list_any (has_name name) ts) ≡ false →
        (list_any (has_name name) ts ≡ false → Lacks name (keys_of ts)) → Lacks name (keys_of (t ∷ ts))
    go true e q rest = absurd cc
    go false e q rest = (
      (λ same. let yes : bytes_eq t.name name ≡ true = (bytes_eq-Decides t.name name).1 same in let no : Bool.true ≡ false =
          sym yes ∙ e in cc),
      rest q,
    )

lacks_less : (name : List ℕ) (stays : Task → Bool) (ts : List Task) → Lacks name (keys_of ts) →
    Lacks name (keys_of (filter stays ts))
lacks_less name stays [] all = tt
lacks_less name stays (t ∷ ts) all = elim (stays t) as (λ b. Lacks name (keys_of (if b then t ∷ filter stays ts else filter
    stays ts))) [ true ↦ (all.0, lacks_less name stays ts all.1) | false ↦ lacks_less name stays ts all.1 ]

differ_less : (stays : Task → Bool) (ts : List Task) → Differ (keys_of ts) → Differ (keys_of (filter stays ts))
differ_less stays [] all = tt
differ_less stays (t ∷ ts) all = elim (stays t) as (λ b. Differ (keys_of (if b then t ∷ filter stays ts else filter stays
    ts))) [
      | true ↦ (lacks_less t.name stays ts all.0, differ_less stays ts all.1)
      | false ↦ differ_less stays ts all.1
    ]

-- ---- commands

abbrev AreApart : Desk → Type 0
AreApart d = Differ (keys_of d.tasks)

-- whether a command starts or ends a task
abbrev pub starts_or_ends : Command → Bool
starts_or_ends (command.Task name buffer manner) = true
starts_or_ends (command.Kill name) = true
starts_or_ends c = false

module _ (d : Desk) where
  -- the tasks keep their names
  abbrev Stays : Answer → Type 0
  Stays a = SameKeys d a.0

  no : (r : Refusal) → Stays (instead_of d r)
  no r = refl

  changed_stays : {c : Command} (a : Answer) → Changed c d a → Stays a
  changed_stays _ (in_slot name t s same e is) = slot_keys t.handle (λ _. s) d
  changed_stays _ _ = refl

  memory_stays : (c : Command) → IsOnMemory c → Stays (step d c)
  memory_stays c is = or_else-keeps Stays _ (granted-on d c is changed_stays) no

  save_stays : (name : List ℕ) (k : ℕ) (to leaf : List ℕ) → Stays (step d (command.Save name k to leaf))
  unfolding save
  save_stays name k to leaf = bind Stays _ _ (instead_of d) no (λ t q. bind Stays _ _ (instead_of d) no (λ b e.
      test Stays _ _ (instead_of d) no (λ u v. bind Stays _ _ (instead_of d) no (λ r f. bind Stays _ _ (instead_of d) no
      (λ sent w. test Stays _ _ (instead_of d) no (λ m n. done Stays _ (instead_of d)
      (outs_keys t.handle _ sent ∙ sent_keys d sent _ w)))))))

  -- the scrap file kept or given up after a message
  answer_keys : (sent : Desk) → SameKeys sent (after_answer sent)
  unfolding with_delivered
  answer_keys sent = refl

  repeat_stays : (name : List ℕ) → Stays (step d (command.Repeat name))
  unfolding repeat
  repeat_stays name = bind Stays _ _ (instead_of d) no (λ t q. bind Stays _ _ (instead_of d) no (λ last e.
      bind Stays _ _ (instead_of d) no (λ sent w. done Stays _ (instead_of d) (either (λ (y : Desk). SameKeys d y) (is_raw t.manner)
      (after_answer sent) sent (λ raw. answer_keys sent ∙ sent_keys d sent _ w) (λ plays. sent_keys d sent _ w)))))

  poll_stays : (name : List ℕ) → Stays (step d (command.Poll name))
  unfolding poll
  poll_stays name = bind Stays (named name d) _ (instead_of d) no (λ t q. done Stays _ (instead_of d)
      (let p = post_poll t.handle d.post in taken_keys (with_delivered p.0 d) t p.1 ∙ delivered_keys p.0 d))

  -- a buffer released, where there is one
  released_keys : (h : ℕ) (o : Option Taking) → SameKeys d (with_released h o d)
  unfolding with_task
  released_keys h None = refl
  released_keys h (Some f) = keys_edit h (λ t. record t { slot = without_buffer f.buffer t.slot }) (λ t. refl) (λ t. refl) (λ t. refl) d.tasks

  cancel_in_stays : (name : List ℕ) (id : Option ℕ) → Stays (step d (command.CancelIn name id))
  unfolding cancel_in
  cancel_in_stays name id = bind Stays _ _ (instead_of d) no (λ t q. bind Stays _ _ (instead_of d) no (λ records w.
      done Stays _ (instead_of d) (ins_keys t.handle (λ _. records) _ ∙ released_keys t.handle _)))

  cancel_out_stays : (name : List ℕ) (id : Option ℕ) → Stays (step d (command.CancelOut name id))
  unfolding cancel_out
  cancel_out_stays name id = bind Stays _ _ (instead_of d) no (λ t q. bind Stays _ _ (instead_of d) no (λ records w.
      done Stays _ (instead_of d) (outs_keys t.handle (λ _. records) d)))

  make_stays : (most : ℕ) → Stays (step d (command.Make most))
  unfolding make
  make_stays most = test Stays _ _ (instead_of d) no (λ u v. test Stays _ _ (instead_of d) no (λ x y. done Stays _
      (instead_of d) refl))

  -- ---- tasks with code of their own

  send_stays : (name : List ℕ) (recorded : Bool) (h ref a : ℕ) (bytes : Option (List ℕ)) → Stays (step d (command.Raw (raw.Send name recorded h ref a bytes)))
  unfolding send
  send_stays name recorded h ref a bytes = bind Stays _ _ (instead_of d) no (λ t q. bind Stays _ _ (instead_of d) no (λ sent w.
      test Stays _ _ (instead_of d) no (λ u v. test Stays _ _ (instead_of d) no (λ m n. done Stays _ (instead_of d)
      (answer_keys sent ∙ sent_keys d sent _ w)))))

  spool_stays : (name : List ℕ) (k h ref : ℕ) → Stays (step d (command.Raw (raw.Spool name k h ref)))
  unfolding spool
  spool_stays name k h ref = bind Stays _ _ (instead_of d) no (λ t q. bind Stays _ _ (instead_of d) no (λ b e.
      test Stays _ _ (instead_of d) no (λ u1 v1. test Stays _ _ (instead_of d) no (λ u2 v2. test Stays _ _ (instead_of d) no (λ u3 v3.
      bind Stays _ _ (instead_of d) no (λ sent w. test Stays _ _ (instead_of d) no (λ u4 v4. test Stays _ _ (instead_of d) no (λ m n.
      done Stays _ (instead_of d) (sent_keys _ sent _ w)))))))))

  ack_stays : (name : List ℕ) → Stays (step d (command.Raw (raw.Ack name)))
  unfolding ack
  ack_stays name = bind Stays _ _ (instead_of d) no (λ t q. test Stays _ _ (instead_of d) no (λ m n. done Stays _ (instead_of d)
      (delivered_keys _ d)))

  transfer_stays : (name : List ℕ) (x h y n : ℕ) → Stays (step d (command.Raw (raw.Transfer name x h y n)))
  unfolding transfer with_task
  transfer_stays name x h y n = bind Stays _ _ (instead_of d) no (λ t q. test Stays _ _ (instead_of d) no (λ u v.
      bind Stays _ _ (instead_of d) no (λ r e. test Stays _ _ (instead_of d) no (λ m k. done Stays _ (instead_of d)
      (keys_edit r.handle (λ r. record r { slot = written_held y (bytes_held x n t.slot) r.slot }) (λ r. refl) (λ r. refl) (λ r. refl) d.tasks)))))

  raw_stays : (c : RawCommand) → Stays (step d (command.Raw c))
  raw_stays (raw.Send name recorded h ref a bytes) = send_stays name recorded h ref a bytes
  raw_stays (raw.Write name x bytes) = memory_stays (command.Raw (raw.Write name x bytes)) refl
  raw_stays (raw.Transfer name x h y n) = transfer_stays name x h y n
  raw_stays (raw.Ack name) = ack_stays name
  raw_stays (raw.Spool name k h ref) = spool_stays name k h ref
  raw_stays (raw.Scrap name k) = memory_stays (command.Raw (raw.Scrap name k)) refl

  -- every command that starts and ends no task
  pub stays : (c : Command) → starts_or_ends c ≡ false → Stays (step d c)
  stays (command.Task name buffer manner) q = absurd (let z : Bool.true ≡ false = q in (cc))
  stays (command.Kill name) q = absurd (let z : Bool.true ≡ false = q in (cc))
  stays (command.Save name k to leaf) q = save_stays name k to leaf
  stays (command.Poll name) q = poll_stays name
  stays (command.CancelIn name id) q = cancel_in_stays name id
  stays (command.CancelOut name id) q = cancel_out_stays name id
  stays (command.Repeat name) q = repeat_stays name
  stays (command.Make most) q = make_stays most
  stays (command.Raw c) q = raw_stays c
  stays c q = memory_stays c tt

  -- ---- tasks come and go

  abbrev Apart : Answer → Type 0
  Apart a = AreApart a.0

  task_apart : (name : List ℕ) (buffer : ℕ) (manner : Manner) → AreApart d → Apart (step d (command.Task name buffer manner))
  unfolding start_task
  task_apart name buffer manner all = test Apart _ _ (instead_of d) (λ r. all) (λ u new. test Apart _ _ (instead_of d)
      (λ r. all) (λ v few. test Apart _ _ (instead_of d) (λ r. all) (λ w more. bind Apart _ _ (instead_of d) (λ r. all)
      (λ s begun. done Apart _ (instead_of d) (differ_more d.tasks _ all
      (lacks_new name d.tasks (not_refused (list_any (has_name name) d.tasks) NameInUse u new)))))))

  kill_apart : (name : List ℕ) → AreApart d → Apart (step d (command.Kill name))
  unfolding kill with_delivered
  kill_apart name all = bind Apart _ _ (instead_of d) (λ r. all) (λ t q. done Apart _ (instead_of d)
      (differ_less (λ (u : Task). not (u.handle == t.handle)) d.tasks all))

  same_apart : (c : Command) → Stays (step d c) → AreApart d → Apart (step d c)
  same_apart c same all = subst Differ (sym same) all

  step_apart : (c : Command) → AreApart d → Apart (step d c)
  step_apart (command.Task name buffer manner) all = task_apart name buffer manner all
  step_apart (command.Kill name) all = kill_apart name all
  step_apart c all = same_apart c (stays c refl) all

-- ---- every run

after_apart : (d : Desk) (cs : List Command) → AreApart d → AreApart (after d cs)
after_apart d [] all = all
after_apart d (c ∷ cs) all = after_apart (step d c).0 cs (step_apart d c all)

key_of : (d : Desk) (h : ℕ) (t : Task) → task_at h d ≡ Some t → Has (t.handle, t.name, t.manner) (keys_of d.tasks)
key_of d h t at = has_key d.tasks (first_is (λ (y : Task). y.handle == h) d.tasks t at).0
  where
    has_key : (ts : List Task) → Has t ts → Has (t.handle, t.name, t.manner) (keys_of ts)
    has_key [] has = absurd has
    has_key (y ∷ ts) (inl same) = inl (ap (λ (z : Task). (z.handle, z.name, z.manner)) same)
    has_key (y ∷ ts) (inr has) = inr (has_key ts has)

handle_of : (d : Desk) (h : ℕ) (t : Task) → task_at h d ≡ Some t → t.handle ≡ h
handle_of d h t at = is_equal _ _ (first_is (λ (y : Task). y.handle == h) d.tasks t at).1

own_names : (d : Desk) → AreApart d → HaveOwnNames d
own_names d all h k t u at_h at_k same = sym (handle_of d h t at_h) ∙ one_key (keys_of d.tasks) (t.handle, t.name, t.manner)
    (u.handle, u.name, u.manner) all (key_of d h t at_h) (key_of d k u at_k) same ∙ handle_of d k u at_k

pub always_own_names : Always HaveOwnNames
always_own_names pool handle ref files cs from ranged =
    let d = start_with pool files handle ref in own_names (after d cs) (after_apart d cs tt)
