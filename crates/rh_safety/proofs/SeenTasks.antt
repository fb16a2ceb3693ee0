-- Edits of a task as edits of what is seen of the desk.
use Rattle.std.proofs.Common.{◌≡◌, ◌≢◌, ℕ, Bool, true, false, List, [], ◌∷◌, Option, Some, None, refl, subst, sym, ap, ◌∙◌, inl, inr, arith}
use Rattle.std.specs.Prelude.{if◌then◌else◌, nat_eq, ◌==◌, find}
use Rattle.std.specs.Option.{option_map}
use Rattle.std.proofs.lemmas.Bool.Decides.{eqb_tells}
use Rattle.std.proofs.lemmas.Bool.{eq-eqb}
use Rattle.rh_defs.specs.Slot.{Slot, new_slot}
use Rattle.rh_defs.specs.declared.command.Manner.TheVariants as manner
use Rattle.rh_defs.specs.declared.transfer.Outgoing.{Outgoing}
use Rattle.rh_defs.specs.declared.transfer.Incoming.{Incoming}
use Rattle.rh_defs.specs.Desk.{Desk, Task, edit_task, with_task}
use Rattle.rh_defs.specs.IncomingEvents.{is_deaf}
use Rattle.rh_defs.specs.RawTasks.{is_raw}
use Rattle.rh_defs.specs.Transfer.{answers_none}
use Rattle.rh_safety.proofs.View.{view, seen_last, blocks_of, buffers_of, of, task_of, field}
use Rattle.rh_safety.proofs.Ends.{put, Out, In, Message}
use Rattle.rh_safety.proofs.Sight as sight
use Rattle.rh_safety.proofs.Basics.{put_all, none_some}

-- two maps with the same values
abbrev pub Same : {A : Type 0} → (ℕ → A) → (ℕ → A) → Type 0
Same f g = (k : ℕ) → f k ≡ g k

-- an edit of one task that leaves a field leaves it in all tasks
pub change_other : {A : Type 0} (g : Task → A) (d : A) (h : ℕ) (f : Task → Task) →
    ((t : Task) → (f t).handle ≡ t.handle) → ((t : Task) → g (f t) ≡ g t) → (ts : List Task) (k : ℕ) →
    field g d (edit_task h f ts) k ≡ field g d ts k
change_other g d h f kh kg [] k = refl
change_other g d h f kh kg (t ∷ ts) k =
    elim (eqb_tells t.handle h) [
      | inl a ↦ elim (eqb_tells t.handle k) [
        | inl b ↦ let c : nat_eq (f t).handle k ≡ true = rw kh b.0 in rw (a.0, b.0, c) (kg t)
        | inr b ↦ let c : nat_eq (f t).handle k ≡ false = rw kh b.0 in rw (a.0, b.0, c) refl
      ]
      | inr a ↦ elim (eqb_tells t.handle k) [
        | inl b ↦ rw (a.0, b.0) refl
        | inr b ↦ rw (a.0, b.0) (change_other g d h f kh kg ts k)
      ]
    ]

-- an edit of one task writes a field at its handle
pub change_here : {A : Type 0} (g : Task → A) (d : A) (h : ℕ) (f : Task → Task) →
    ((t : Task) → (f t).handle ≡ t.handle) → (ts : List Task) (t : Task) → task_of h ts ≡ Some t → (k : ℕ) →
    field g d (edit_task h f ts) k ≡ put (field g d ts) h (g (f t)) k
change_here g d h f kh [] t q k = absurd (none_some None refl q)
change_here g d h f kh (x ∷ ts) t q k =
    elim (eqb_tells x.handle h) [
      | inl a ↦
          let same : x ≡ t = let z = rw a.0 at q in cc in
          elim (eqb_tells k h) [
            | inl b ↦ let c : nat_eq (f x).handle k ≡ true = rw kh (grind (arith, eqb_tells x.handle k)) in
                rw (a.0, b.0, c) (ap (λ (y : Task). g (f y)) same)
            | inr b ↦ let c : nat_eq (f x).handle k ≡ false = rw kh (grind (arith, eqb_tells x.handle k)) in
                let e : nat_eq x.handle k ≡ false = grind (arith, eqb_tells x.handle k) in rw (a.0, b.0, c, e) refl
          ]
      | inr a ↦ elim (eqb_tells x.handle k) [
        | inl b ↦ let c : nat_eq k h ≡ false = grind (arith, eqb_tells k h) in rw (a.0, b.0, c) refl
        | inr b ↦ rw (a.0, b.0) (change_here g d h f kh ts t (rw a.0 at q) k)
      ]
    ]

-- a map written with what it has
pub unput : {A : Type 0} (f : ℕ → A) (h : ℕ) (v : A) → f h ≡ v → (k : ℕ) → f k ≡ put f h v k
unput f h v q k = put_all (λ j z. f j ≡ z) f h v q (λ j ne. refl) k

-- desks that have the same values
pub same_desk : (d : sight.Desk) (lv : ℕ → Bool) (bf : ℕ → ℕ) (df fl rw_ : ℕ → Bool) (bl hp : ℕ → ℕ → Option (List ℕ))
    (sd : ℕ → List Out) (tk : ℕ → List In) (la : ℕ → Option Message) →
    Same lv d.live → Same bf d.buf → Same df d.deaf → Same fl d.file → Same rw_ d.raw → Same bl d.block → Same hp d.heap →
    Same sd d.sending → Same tk d.taking → Same la d.last →
    ◌≡◌ {A = sight.Desk} (record d {
      live = lv;
      buf = bf;
      deaf = df;
      file = fl;
      raw = rw_;
      block = bl;
      heap = hp;
      sending = sd;
      taking = tk;
      last = la;
    }) d
same_desk d lv bf df fl rw_ bl hp sd tk la e1 e2 e3 e4 e10 e5 e6 e7 e8 e9 =
    λ i. record d {
      live = λ h. e1 h i;
      buf = λ h. e2 h i;
      deaf = λ h. e3 h i;
      file = λ h. e4 h i;
      raw = λ h. e10 h i;
      block = λ h. e5 h i;
      heap = λ h. e6 h i;
      sending = λ h. e7 h i;
      taking = λ h. e8 h i;
      last = λ h. e9 h i;
    }

-- ---- the task of a live handle

pub no_task : Task
no_task = record {
  handle = 0;
  name = [];
  buffer = 1;
  manner = manner.Plain;
  slot = new_slot;
  sending = [];
  taking = [];
  last_sent = None;
}

-- the task of a handle
abbrev pub task_or : Desk → ℕ → Task
task_or d h = field (λ t. t) no_task d.tasks h

pub task_is : (d : Desk) (h : ℕ) → (view d).live h ≡ true → task_of h d.tasks ≡ Some (task_or d h)
task_is d h = go (task_of h d.tasks)
  where
    go : (v : Option Task) → of (λ t. true) false v ≡ true → v ≡ Some (of (λ t. t) no_task v)
    go None q = absurd (let z : Bool.false ≡ true = q in (cc))
    go (Some t) q = refl

-- a field of a task that is there
pub field_is : {A : Type 0} (g : Task → A) (v : A) (h : ℕ) (ts : List Task) (t : Task) → task_of h ts ≡ Some t →
    field g v ts h ≡ g t
field_is g v h ts t is = ap (of g v) is

pub live_of : (d : Desk) (h : ℕ) (t : Task) → task_of h d.tasks ≡ Some t → (view d).live h ≡ true
live_of d h t is = field_is (λ y. true) false h d.tasks t is

-- the slot of a handle
abbrev pub slot_at : Desk → ℕ → Slot
slot_at d h = field (λ t. t.slot) new_slot d.tasks h

pub slot_is : (d : Desk) (h : ℕ) (t : Task) → task_of h d.tasks ≡ Some t → slot_at d h ≡ t.slot
slot_is d h t is = field_is (λ y. y.slot) new_slot h d.tasks t is

-- ---- edits of one field

-- an edit that leaves a task's handle, buffer and manner
pub record IsEdit (f : Task → Task) : Type 0 where
  pub handle : (y : Task) → (f y).handle ≡ y.handle
  pub buffer : (y : Task) → (f y).buffer ≡ y.buffer
  pub deaf : (y : Task) → is_deaf (f y).manner ≡ is_deaf y.manner
  pub file : (y : Task) → answers_none (f y).manner ≡ answers_none y.manner
  pub raw : (y : Task) → is_raw (f y).manner ≡ is_raw y.manner

-- where the slot alone is another
pub slot_view : (d : Desk) (h : ℕ) (g : Slot → Slot) (s : Slot) → (view d).live h ≡ true → slot_at d h ≡ s →
    view (with_task h (λ y. record y { slot = g y.slot }) d) ≡ record (view d) {
      block = put (view d).block h
          (blocks_of (g s));
      heap = put (view d).heap h (buffers_of (g s));
    }
unfolding with_task
slot_view d h g s live at_ =
    let f : Task → Task = λ y. record y { slot = g y.slot } in
    let t = task_or d h in
    let is = task_is d h live in
    let same : t.slot ≡ s = sym (field_is (λ y. y.slot) new_slot h d.tasks t is) ∙ at_ in
    subst (λ (z : Slot). view (record d { tasks = edit_task h f d.tasks }) ≡ record (view d) {
      block = put (view d).block h (blocks_of (g z));
      heap = put (view d).heap h (buffers_of (g z));
    }) same
    (same_desk (record (view d) {
      block = put (view d).block h (blocks_of (g t.slot));
      heap = put (view d).heap h
          (buffers_of (g t.slot));
    }) _ _ _ _ _ _ _ _ _ _
    (change_other (λ y. true) false h f (λ y. refl) (λ y. refl) d.tasks) (change_other (λ y. y.buffer) 1 h f (λ y.
    refl) (λ y. refl) d.tasks)
    (change_other (λ y. is_deaf y.manner) false h f (λ y. refl) (λ y. refl) d.tasks) (change_other (λ y. answers_none
    y.manner) false h f (λ y. refl) (λ y. refl) d.tasks)
    (change_other (λ y. is_raw y.manner) false h f (λ y. refl) (λ y. refl) d.tasks)
    (change_here (λ y. blocks_of y.slot) (λ a. None) h f (λ y. refl) d.tasks t is) (change_here (λ y.
    buffers_of y.slot) (λ a. None) h f (λ y. refl) d.tasks t is)
    (change_other (λ y. y.sending) [] h f (λ y. refl) (λ y. refl) d.tasks) (change_other (λ y. y.taking) [] h f (λ y.
    refl) (λ y. refl) d.tasks)
    (change_other (λ y. option_map seen_last y.last_sent) None h f (λ y. refl) (λ y. refl) d.tasks))

-- what is seen of a slot
pub blocks_seen : (d : Desk) (h : ℕ) (s : Slot) → (view d).live h ≡ true → slot_at d h ≡ s →
    (view d).block h ≡ blocks_of s
blocks_seen d h s live at_ = let is = task_is d h live in field_is (λ y. blocks_of y.slot) (λ a. None) h d.tasks
    (task_or d h) is ∙ ap blocks_of (sym (field_is (λ y. y.slot) new_slot h d.tasks (task_or d h) is) ∙ at_)

pub buffers_seen : (d : Desk) (h : ℕ) (s : Slot) → (view d).live h ≡ true → slot_at d h ≡ s →
    (view d).heap h ≡ buffers_of s
buffers_seen d h s live at_ = let is = task_is d h live in field_is (λ y. buffers_of y.slot) (λ a. None) h d.tasks
    (task_or d h) is ∙ ap buffers_of (sym (field_is (λ y. y.slot) new_slot h d.tasks (task_or d h) is) ∙ at_)

-- the outgoing records alone
pub outs_view : (d : Desk) (h : ℕ) (g : List Outgoing → List Outgoing) → (view d).live h ≡ true →
    view (with_task h (λ y. record y { sending = g y.sending }) d) ≡ record (view d) {
      sending = put (view d).sending
          h (g ((view d).sending h));
    }
unfolding with_task
outs_view d h g live =
    let f : Task → Task = λ y. record y { sending = g y.sending } in
    let t = task_or d h in
    let is = task_is d h live in
    ◌∙◌ {c = record (view d) { sending = put (view d).sending h (g ((view d).sending h)) }}
    (same_desk (record (view d) { sending = put (view d).sending h (g t.sending) }) _ _ _ _ _ _ _ _ _ _
    (change_other (λ y. true) false h f (λ y. refl) (λ y. refl) d.tasks) (change_other (λ y. y.buffer) 1 h f (λ y.
    refl) (λ y. refl) d.tasks)
    (change_other (λ y. is_deaf y.manner) false h f (λ y. refl) (λ y. refl) d.tasks) (change_other (λ y. answers_none
    y.manner) false h f (λ y. refl) (λ y. refl) d.tasks)
    (change_other (λ y. is_raw y.manner) false h f (λ y. refl) (λ y. refl) d.tasks)
    (change_other (λ y. blocks_of y.slot) (λ a. None) h f (λ y. refl) (λ y. refl) d.tasks) (change_other (λ y.
    buffers_of y.slot) (λ a. None) h f (λ y. refl) (λ y. refl) d.tasks)
    (change_here (λ y. y.sending) [] h f (λ y. refl) d.tasks t is) (change_other (λ y. y.taking) [] h f (λ y. refl)
    (λ y. refl) d.tasks)
    (change_other (λ y. option_map seen_last y.last_sent) None h f (λ y. refl) (λ y. refl) d.tasks))
    (ap (λ (z : List Outgoing). record (view d) { sending = put (view d).sending h (g z) })
    (sym (field_is (λ y. y.sending) [] h d.tasks t is)))

-- the incoming records alone
pub ins_view : (d : Desk) (h : ℕ) (g : List Incoming → List Incoming) → (view d).live h ≡ true →
    view (with_task h (λ y. record y { taking = g y.taking }) d) ≡ record (view d) {
      taking = put (view d).taking h
          (g ((view d).taking h));
    }
unfolding with_task
ins_view d h g live =
    let f : Task → Task = λ y. record y { taking = g y.taking } in
    let t = task_or d h in
    let is = task_is d h live in
    ◌∙◌ {c = record (view d) { taking = put (view d).taking h (g ((view d).taking h)) }}
    (same_desk (record (view d) { taking = put (view d).taking h (g t.taking) }) _ _ _ _ _ _ _ _ _ _
    (change_other (λ y. true) false h f (λ y. refl) (λ y. refl) d.tasks) (change_other (λ y. y.buffer) 1 h f (λ y.
    refl) (λ y. refl) d.tasks)
    (change_other (λ y. is_deaf y.manner) false h f (λ y. refl) (λ y. refl) d.tasks) (change_other (λ y. answers_none
    y.manner) false h f (λ y. refl) (λ y. refl) d.tasks)
    (change_other (λ y. is_raw y.manner) false h f (λ y. refl) (λ y. refl) d.tasks)
    (change_other (λ y. blocks_of y.slot) (λ a. None) h f (λ y. refl) (λ y. refl) d.tasks) (change_other (λ y.
    buffers_of y.slot) (λ a. None) h f (λ y. refl) (λ y. refl) d.tasks)
    (change_other (λ y. y.sending) [] h f (λ y. refl) (λ y. refl) d.tasks) (change_here (λ y. y.taking) [] h f (λ y.
    refl) d.tasks t is)
    (change_other (λ y. option_map seen_last y.last_sent) None h f (λ y. refl) (λ y. refl) d.tasks))
    (ap (λ (z : List Incoming). record (view d) { taking = put (view d).taking h (g z) })
    (sym (field_is (λ y. y.taking) [] h d.tasks t is)))

-- one block of the slot is another
pub block_view : (d : Desk) (h k : ℕ) (g : Slot → Slot) (v : Option (List ℕ)) (s : Slot) → (view d).live h ≡ true →
    slot_at d h ≡ s →
    Same (blocks_of (g s)) (put (blocks_of s) k v) → Same (buffers_of (g s)) (buffers_of s) →
    view (with_task h (λ y. record y { slot = g y.slot }) d) ≡ sight.with_block (view d) h k v
block_view d h k g v s live at_ eb eh =
    slot_view d h g s live at_ ∙
    (λ i. record (view d) {
      block = λ j. ap (λ (m : ℕ → Option (List ℕ)). put (view d).block h m j) ((λ l a. eb a l) ∙
          ap (λ (m : ℕ → Option (List ℕ)). put m k v) (sym (blocks_seen d h s live at_))) i;
      heap = λ j. sym (unput (view d).heap h (buffers_of (g s)) (buffers_seen d h s live at_ ∙ (λ l a. sym (eh a) l))
          j) i;
    })

-- one block of the C heap is another
pub buffer_view : (d : Desk) (h k : ℕ) (g : Slot → Slot) (v : Option (List ℕ)) (s : Slot) → (view d).live h ≡ true →
    slot_at d h ≡ s →
    Same (blocks_of (g s)) (blocks_of s) → Same (buffers_of (g s)) (put (buffers_of s) k v) →
    view (with_task h (λ y. record y { slot = g y.slot }) d) ≡ sight.with_heap (view d) h k v
buffer_view d h k g v s live at_ eb eh =
    slot_view d h g s live at_ ∙
    (λ i. record (view d) {
      heap = λ j. ap (λ (m : ℕ → Option (List ℕ)). put (view d).heap h m j) ((λ l a. eh a l) ∙
          ap (λ (m : ℕ → Option (List ℕ)). put m k v) (sym (buffers_seen d h s live at_))) i;
      block = λ j. sym (unput (view d).block h (blocks_of (g s)) (blocks_seen d h s live at_ ∙ (λ l a. sym (eb a) l))
          j) i;
    })

-- the C heap alone is another
pub heap_view : (d : Desk) (h : ℕ) (g : Slot → Slot) (m : ℕ → Option (List ℕ)) (s : Slot) → (view d).live h ≡ true →
    slot_at d h ≡ s →
    Same (blocks_of (g s)) (blocks_of s) → Same (buffers_of (g s)) m →
    view (with_task h (λ y. record y { slot = g y.slot }) d) ≡ record (view d) { heap = put (view d).heap h m }
heap_view d h g m s live at_ eb eh =
    slot_view d h g s live at_ ∙
    (λ i. record (view d) {
      heap = put (view d).heap h (λ a. eh a i);
      block = λ j. sym (unput (view d).block h (blocks_of (g s)) (blocks_seen d h s live at_ ∙ (λ l a. sym (eb a) l))
          j) i;
    })

-- one block more, and one of the C heap
pub both_view : (d : Desk) (h k a : ℕ) (g : Slot → Slot) (v w : Option (List ℕ)) (s : Slot) → (view d).live h ≡ true →
    slot_at d h ≡ s →
    Same (blocks_of (g s)) (put (blocks_of s) k v) → Same (buffers_of (g s)) (put (buffers_of s) a w) →
    view (with_task h (λ y. record y { slot = g y.slot }) d) ≡ record (view d) {
      heap = put (view d).heap h
          (put ((view d).heap h) a w);
      block = put (view d).block h (put ((view d).block h) k v);
    }
both_view d h k a g v w s live at_ eb eh =
    slot_view d h g s live at_ ∙
    (λ i. record (view d) {
      block = λ j. ap (λ (m : ℕ → Option (List ℕ)). put (view d).block h m j) ((λ l a. eb a l) ∙
          ap (λ (m : ℕ → Option (List ℕ)). put m k v) (sym (blocks_seen d h s live at_))) i;
      heap = λ j. ap (λ (m : ℕ → Option (List ℕ)). put (view d).heap h m j) ((λ l b. eh b l) ∙
          ap (λ (m : ℕ → Option (List ℕ)). put m a w) (sym (buffers_seen d h s live at_))) i;
    })

-- a slot with the same blocks
pub still_view : (d : Desk) (h : ℕ) (g : Slot → Slot) (s : Slot) → (view d).live h ≡ true → slot_at d h ≡ s →
    Same (blocks_of (g s)) (blocks_of s) → Same (buffers_of (g s)) (buffers_of s) →
    view (with_task h (λ y. record y { slot = g y.slot }) d) ≡ view d
still_view d h g s live at_ eb eh =
    slot_view d h g s live at_ ∙
    (λ i. record (view d) {
      block = λ j. sym (unput (view d).block h (blocks_of (g s)) (blocks_seen d h s live at_ ∙ (λ l a. sym (eb a) l))
          j) i;
      heap = λ j. sym (unput (view d).heap h (buffers_of (g s)) (buffers_seen d h s live at_ ∙ (λ l a. sym (eh a) l))
          j) i;
    })

-- ---- handles are distinct

abbrev pub NotIn : ℕ → List Task → Type 0
NotIn h [] = Unit {0}
NotIn h (t ∷ ts) = (t.handle ≢ h) × NotIn h ts

abbrev pub Distinct : List Task → Type 0
Distinct [] = Unit {0}
Distinct (t ∷ ts) = NotIn t.handle ts × Distinct ts

not_in_found : (p : Task → Bool) (h : ℕ) (ts : List Task) (t : Task) → NotIn h ts → find p ts ≡ Some t → t.handle ≢ h
not_in_found p h [] t n q = absurd (none_some None refl q)
not_in_found p h (x ∷ ts) t n q = go (p x) refl q (not_in_found p h ts t n.1)
  where
    go : (b : Bool) → p x ≡ b → (if b then Some x else find p ts) ≡ Some t → (find p ts ≡ Some t → t.handle ≢ h) →
        t.handle ≢ h
    go true e s next = let z : x ≡ t = cc in λ w. n.0 (ap (λ (y : Task). y.handle) z ∙ w)
    go false e s next = next s

-- a task that was found is that of its handle
pub found_task : (p : Task → Bool) (ts : List Task) (t : Task) → Distinct ts → find p ts ≡ Some t →
    task_of t.handle ts ≡ Some t
found_task p [] t n q = absurd (none_some None refl q)
found_task p (x ∷ ts) t n q = go (p x) refl q (λ s. found_task p ts t n.1 s)
  where
    go : (b : Bool) → p x ≡ b → (if b then Some x else find p ts) ≡ Some t →
        (find p ts ≡ Some t → task_of t.handle ts ≡ Some t) →
        (if x.handle == t.handle then Some x else task_of t.handle ts) ≡ Some t
    go true e s next = let z : x ≡ t = cc in let c : nat_eq x.handle t.handle ≡ true = eq-eqb _ _ (ap (λ (y : Task).
        y.handle) z) in rw c s
    go false e s next =
        let ne = not_in_found p x.handle ts t n.0 s in
        let c : nat_eq x.handle t.handle ≡ false = grind (arith, eqb_tells x.handle t.handle) in rw c (next s)
