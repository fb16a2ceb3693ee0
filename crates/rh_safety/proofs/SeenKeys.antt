-- The handles, names and manners of tasks, which commands on a task leave.
use Rattle.rh_safety.proofs.Common.{◌≡◌, ℕ, Bool, true, false, List, [], ◌∷◌, Option, Some, None, refl, ap, ◌∙◌, subst, if◌then◌else◌, ◌==◌, find, map, Ok}
use Rattle.rh_safety.proofs.Common.{Manner, option_map, bytes_eq, Outgoing, Incoming, Slot, Desk, Task, has_name, with_task, with_sending, with_taking}
use Rattle.rh_safety.proofs.Common.{with_post, send_letter, Parcel, handled, EventCode, OnGrant, granted, granted-then, either}
use Rattle.rh_defs.specs.declared.message.Letter.{Letter}
use Rattle.rh_defs.specs.Desk.{edit_task}
use Rattle.rh_defs.specs.RawTasks.{is_raw}
use Rattle.rh_safety.proofs.Common.{field, of, task_of}
use Rattle.rh_safety.proofs.OwnEdits.{OwnEdits, handled-own}
use Rattle.rh_safety.proofs.SeenSends.{letter_sent}

-- a task's handle, name and manner, and those of tasks
abbrev pub Key : Type 0
Key = ℕ × List ℕ × Manner

abbrev pub keys_of : List Task → List Key
keys_of tasks = map (λ (t : Task). (t.handle, t.name, t.manner)) tasks

-- the handle of a name
abbrev pub named_in : List ℕ → List Key → Option ℕ
named_in name [] = None
named_in name (k ∷ keys) = if bytes_eq k.1 name then Some k.0 else named_in name keys

pub handle_named : (name : List ℕ) (tasks : List Task) →
    option_map (λ (t : Task). t.handle) (find (has_name name) tasks) ≡ named_in name (keys_of tasks)
handle_named name [] = refl
handle_named name (t ∷ tasks) = go (bytes_eq t.name name) (handle_named name tasks)
  where
    go : (b : Bool) → option_map (λ (y : Task). y.handle) (find (has_name name) tasks) ≡ named_in name (keys_of tasks) →
        option_map (λ (y : Task). y.handle) (if b then Some t else find (has_name name) tasks) ≡ (if b then Some
        t.handle else named_in name (keys_of tasks))
    go true q = refl
    go false q = q

-- whether the task of a handle has code of its own
abbrev pub raw_in : ℕ → List Key → Bool
raw_in h [] = false
raw_in h (k ∷ keys) = if k.0 == h then is_raw k.2 else raw_in h keys

pub raw_is : (h : ℕ) (tasks : List Task) → field (λ (t : Task). is_raw t.manner) false tasks h ≡ raw_in h (keys_of tasks)
raw_is h [] = refl
raw_is h (t ∷ tasks) = go (t.handle == h) (raw_is h tasks)
  where
    go : (b : Bool) → field (λ (t : Task). is_raw t.manner) false tasks h ≡ raw_in h (keys_of tasks) →
        of (λ (t : Task). is_raw t.manner) false (if b then Some t else task_of h tasks) ≡ (if b then is_raw t.manner else raw_in h (keys_of tasks))
    go true q = refl
    go false q = q

pub keys_edit : (h : ℕ) (f : Task → Task) → ((y : Task) → (f y).handle ≡ y.handle) →
    ((y : Task) → (f y).name ≡ y.name) → ((y : Task) → (f y).manner ≡ y.manner) → (ts : List Task) →
    keys_of (edit_task h f ts) ≡ keys_of ts
keys_edit h f kh kn km [] = refl
keys_edit h f kh kn km (t ∷ ts) =
    either (λ (z : List Task). keys_of z ≡ keys_of (t ∷ ts)) (t.handle == h) (f t ∷ ts) (t ∷ edit_task h f ts)
    (λ e i. (kh t i, kn t i, km t i) ∷ keys_of ts) (λ e. ap (λ (z : List Key). (t.handle, t.name, t.manner) ∷ z) (keys_edit h f
    kh kn km ts))

-- the same keys
abbrev pub SameKeys : Desk → Desk → Type 0
SameKeys d e = keys_of e.tasks ≡ keys_of d.tasks

pub task_keys : (h : ℕ) (f : Task → Task) (d : Desk) → ((y : Task) → (f y).handle ≡ y.handle) →
    ((y : Task) → (f y).name ≡ y.name) → ((y : Task) → (f y).manner ≡ y.manner) → SameKeys d (with_task h f d)
unfolding with_task
task_keys h f d kh kn km = keys_edit h f kh kn km d.tasks

pub sent_keys : (d e : Desk) (l : Letter) → send_letter l d ≡ Ok e → SameKeys d e
sent_keys d e l q =
    let w = letter_sent l d e q in
    subst (λ (y : Desk). SameKeys d y) w.same (task_keys l.from (λ t. record t {
      last_sent = Some (l, d.post.next_ref);
    }) (with_post w.after d) (λ y. refl) (λ y. refl) (λ y. refl))

pub slot_keys : (h : ℕ) (g : Slot → Slot) (d : Desk) → SameKeys d (with_task h (λ t. record t { slot = g t.slot }) d)
slot_keys h g d = task_keys h (λ t. record t { slot = g t.slot }) d (λ y. refl) (λ y. refl) (λ y. refl)

pub outs_keys : (h : ℕ) (g : List Outgoing → List Outgoing) (d : Desk) → SameKeys d (with_sending h g d)
outs_keys h g d = task_keys h (λ t. record t { sending = g t.sending }) d (λ y. refl) (λ y. refl) (λ y. refl)

pub ins_keys : (h : ℕ) (g : List Incoming → List Incoming) (d : Desk) → SameKeys d (with_taking h g d)
ins_keys h g d = task_keys h (λ t. record t { taking = g t.taking }) d (λ y. refl) (λ y. refl) (λ y. refl)

letter_keys : (l : Letter) (d : Desk) → OnGrant (SameKeys d) (send_letter l d)
unfolding send_letter
letter_keys l d = granted-then _ _ λ sent e. granted (task_keys l.from _ (with_post sent.0 d) (λ y. refl) (λ y. refl) (λ y. refl))

-- a message that is handled leaves them too
pub handled_keys : (d : Desk) (t : Task) (m : Parcel) (c : EventCode) → SameKeys d (handled d t m c).0
handled_keys d t m c = handled-own SameKeys t own d m slot_keys c
  where
    own : OwnEdits t.handle SameKeys
    own = record {
      same = λ e. refl;
      after = λ p q. q ∙ p;
      slot = slot_keys t.handle;
      outs = outs_keys t.handle;
      ins = ins_keys t.handle;
      letter = λ l e from. letter_keys l e;
      scrap = λ file e. refl;
      areas = λ areas e. refl;
    }
