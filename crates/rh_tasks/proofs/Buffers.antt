-- A world in which the slot of the task at a place has changed.
use Rattle.rh_tasks.proofs.Common.{◌≡◌, ℕ, ◌<◌, refl, ap, sym, subst, ◌∙◌, arith, List, length, Ok, Err, slice_get, get_or, set, length-map, Memory, OnlyArea}
use Rattle.rh_tasks.proofs.Common.{FileList, Refusal, Granted, ◌>>=◌, no_answer, left_of, result_or, heap_block_at, first_bytes, Desk, Task}
use Rattle.rh_tasks.proofs.Common.{free_pages, with_task, with_slot, IsDesk, appended, OnGrant, IsRoomed, IsSlotIn, slot_in, LeavesSlotIn, Seat, MadeArea}
use Rattle.rh_tasks.proofs.Common.{Shown}
use Rattle.rh_tasks.proofs.Common.{Kept, HasSlot, task_of, desk_of, shown_of, IsWorld, slot_append, IsAt, Becomes, Sits, set_same, all-at, mapped-at}
use Rattle.rh_tasks.proofs.Common.{mapped-is, task-found, changed, free-is, Moves, moved-desk, moved-world}
use Rattle.rh_defs.specs.Slot as plain
use Rattle.rh_defs.specs.Slot.{slot_release}
use Rattle.rh_defs.specs.IncomingEvents.{without_buffer}
use Rattle.rh_defs.proofs.Chains.{granted-then, granted-with}
use Rattle.rh_defs.proofs.SlotKeeps.{slot_extend-grants, slot_put-grants, without_buffer-kept}
use Rattle.rh_defs.proofs.Desks.{IsTask, with_task-keeps, with_slot-keeps, roomed-after}
use Rattle.rh_tasks.proofs.Addresses.{grant-of}
use Rattle.rh_tasks.proofs.Leaves.{unchanged}

-- ---- the task at a place

module _ {m : Memory} {seats : List Seat} {made : List MadeArea} {files : FileList} {kept : Kept} (w : IsWorld m seats made files kept) {old : Shown}
    (view : shown_of m seats made files kept ≡ old) {i : ℕ} {s : Seat} where
  -- the seat that was read
  pub sits-there : i < length old.desk.tasks → s ≡ get_or seats i s → Sits seats i s
  sits-there inside is = record { inside = omega (arith, inside, ap (λ (x : Shown). length x.desk.tasks) view, length-map seats (task_of m)); is = sym is }

  module _ (at : Sits seats i s) {t : Task} (there : IsAt i t old.desk) where
    -- is the task's
    pub seat-task : task_of m s ≡ t
    seat-task = mapped-is (task_of m) seats i s t at (ap (λ (x : Shown). slice_get x.desk.tasks i) view ∙ there)

    pub seat-handle : s.handle ≡ t.handle
    unfolding task_of
    seat-handle = ap (λ (x : Task). x.handle) seat-task

    pub seat-buffer : s.buffer ≡ t.buffer
    unfolding task_of
    seat-buffer = ap (λ (x : Task). x.buffer) seat-task

  pub seat-there : Sits seats i s → IsAt i (task_of m s) old.desk
  seat-there at = sym (ap (λ (x : Shown). slice_get x.desk.tasks i) view) ∙ mapped-at (task_of m) seats i s at

-- ---- calls on slots

left-is : {A : Type 0} (old : A) (g : Granted A) → left_of old (no_answer g) ≡ result_or old g
left-is old (Ok x) = refl
left-is old (Err r) = refl

assoc-two : {A B C : Type 0} (g : Granted A) (f : A → Granted B) (h : B → Granted C) → ((g >>= f) >>= h) ≡ (g >>= λ a. f a >>= h)
unfolding ◌>>=◌
assoc-two (Ok a) f h = refl
assoc-two (Err r) f h = refl

assoc-three : {A B C D : Type 0} (g : Granted A) (f : A → Granted B) (e : A → B → Granted C) (h : C → Granted D)
    → ((g >>= λ a. f a >>= e a) >>= h) ≡ (g >>= λ a. f a >>= λ b. e a b >>= h)
unfolding ◌>>=◌
assoc-three (Ok a) f e h = assoc-two (f a) (e a) h
assoc-three (Err r) f e h = refl

granted-as : {A : Type 0} {P Q : A → Type 0} {g : Granted A} → OnGrant P g → ((x : A) → P x → Q x) → OnGrant Q g
granted-as (OnGrant.granted {x = x} p) f = OnGrant.granted (f x p)
granted-as OnGrant.refused f = OnGrant.refused

append-grants : (free k : ℕ) (xs : List ℕ) (x : plain.Slot) → plain.IsSlot x → OnGrant (λ (new : plain.Slot). IsRoomed free x new) (slot_append free k xs x)
unfolding slot_append
append-grants free k xs x is =
    granted-then _ _ λ document found.
    granted-with _ (slot_extend-grants free k _ x is) λ longer first.
    granted-as (slot_put-grants 0 k (length document.here.bytes) xs longer first.slot) λ new second. roomed-after first second

appended-as : (d : Desk) (t : Task) (k : ℕ) (xs : List ℕ) → (slot_append (free_pages d) k xs t.slot >>= λ x. Ok (with_slot t.handle x d)) ≡ appended d t k xs
unfolding slot_append appended
appended-as d t k xs = assoc-three _ _ _ _

-- ---- its slot has changed

module _ {m : Memory} {seats : List Seat} {made : List MadeArea} {files : FileList} {kept : Kept} {i : ℕ} {s : Seat}
    (w : IsWorld m seats made files kept) (at : Sits seats i s) where
  has : IsSlotIn m s.slot
  has = all-at (HasSlot m) seats i s w.areas.slots at

  the-task : IsTask (desk_of m seats made files kept) (task_of m s)
  unfolding task_of
  the-task = record {
    found = task-found (desk_of m seats made files kept) i (task_of m s) w.desk (mapped-at (task_of m) seats i s at);
    slot = record { heap = has.spells.words.heap.heap; anchors = has.spells.words.anchors };
  }

  module _ {n : Memory} (edit : plain.Slot → plain.Slot) (still : IsSlotIn n s.slot) (only : OnlyArea m n s.slot.area.0)
      (is : slot_in n s.slot ≡ edit (slot_in m s.slot)) where
    slot-moves : Moves m n s s (λ t. record t { slot = edit t.slot })
    unfolding task_of
    slot-moves = record {
      handle = refl;
      area = refl;
      still = still;
      only = only;
      task = ap (λ x. let t : Task = record (task_of m s) { slot = x } in t) is;
    }

    same : set seats i s ≡ seats
    same = set_same seats i s at

    pub edited-desk : desk_of n seats made files kept ≡ with_task s.handle (λ t. record t { slot = edit t.slot }) (desk_of m seats made files kept)
    edited-desk = ap (λ (l : List Seat). desk_of n l made files kept) (sym same) ∙ moved-desk w at slot-moves

    pub edited-world : IsDesk (desk_of n seats made files kept) → IsWorld n seats made files kept
    edited-world d =
        let P : List Seat → Type 0 = λ l. IsDesk (desk_of n l made files kept) → IsWorld n l made files kept in
        subst P same (λ k. moved-world w at slot-moves k) d

  -- ---- a buffer is released

  module _ {n : Memory} (buffer : ℕ) {r : Granted (Unit {0})} (l : LeavesSlotIn m n s.slot (no_answer (slot_release buffer (slot_in m s.slot))) r) where
    released-is : slot_in n s.slot ≡ without_buffer buffer (slot_in m s.slot)
    released-is = l.slot ∙ left-is (slot_in m s.slot) (slot_release buffer (slot_in m s.slot))

    pub dropped-desk : desk_of n seats made files kept ≡ with_task s.handle (λ t. record t { slot = without_buffer buffer t.slot })
        (desk_of m seats made files kept)
    dropped-desk = edited-desk (without_buffer buffer) l.still l.only released-is

    pub dropped-world : IsWorld n seats made files kept
    dropped-world =
        edited-world (without_buffer buffer) l.still l.only released-is
        (subst IsDesk (sym dropped-desk)
        (with_task-keeps s.handle (λ t. record t { slot = without_buffer buffer t.slot }) (desk_of m seats made files kept) (λ t. refl)
        (λ t slot. without_buffer-kept buffer t.slot slot) w.desk))

    pub dropped-returns : {old : Shown} → shown_of m seats made files kept ≡ old → (t : Task) → IsAt i t old.desk
        → desk_of n seats made files kept ≡ with_task t.handle (λ t. record t { slot = without_buffer buffer t.slot }) old.desk
    dropped-returns view t there =
        dropped-desk ∙ ap (λ h. with_task h (λ t. record t { slot = without_buffer buffer t.slot }) (desk_of m seats made files kept))
        (seat-handle w view at there)
        ∙ ap (λ (x : Shown). with_task t.handle (λ t. record t { slot = without_buffer buffer t.slot }) x.desk) view

  -- ---- bytes are put at a document's end

  module _ (k : ℕ) (xs : List ℕ) where
    abbrev d : Desk
    d = desk_of m seats made files kept

    abbrev call : Granted plain.Slot
    call = slot_append m.free k xs (slot_in m s.slot)

    the-append : slot_append (free_pages d) k xs (task_of m s).slot ≡ call
    unfolding task_of
    the-append = ap (λ free. slot_append free k xs (slot_in m s.slot)) (free-is w)

    roomed : {n : Memory} → LeavesSlotIn m n s.slot (no_answer call) (Ok tt) → IsRoomed (free_pages d) (task_of m s).slot (slot_in n s.slot)
    unfolding task_of
    roomed l = grant-of (append-grants (free_pages d) k xs (task_of m s).slot the-task.slot) (the-append ∙ changed l)

    appended-desk : {n : Memory} → LeavesSlotIn m n s.slot (no_answer call) (Ok tt) → desk_of n seats made files kept ≡
        (with_slot s.handle (slot_in n s.slot) d)
    appended-desk {n} l = edited-desk (λ x. slot_in n s.slot) l.still l.only refl

    appended-keeps : {n : Memory} → LeavesSlotIn m n s.slot (no_answer call) (Ok tt) → IsDesk (with_slot s.handle (slot_in n s.slot) d)
    unfolding task_of
    appended-keeps {n} l = with_slot-keeps d (task_of m s) (slot_in n s.slot) the-task (roomed l) w.desk

    pub appended-world : {n : Memory} (r : Granted (Unit {0})) → LeavesSlotIn m n s.slot (no_answer call) r → IsWorld n seats made files kept
    appended-world {n} (Ok x) l = edited-world (λ y. slot_in n s.slot) l.still l.only refl (subst IsDesk (sym (appended-desk l)) (appended-keeps l))
    appended-world (Err r) l = subst (λ x. IsWorld x seats made files kept) (sym l.err) w

    appended-done : {n : Memory} → LeavesSlotIn m n s.slot (no_answer call) (Ok tt) → appended d (task_of m s) k xs ≡ Ok (desk_of n seats made files kept)
    unfolding task_of ◌>>=◌
    appended-done {n} l =
        sym (appended-as d (task_of m s) k xs) ∙ ap (λ g. g >>= λ x. Ok (with_slot s.handle x d)) (the-append ∙ changed l)
        ∙ ap (λ x. let r : Granted Desk = Ok x in r) (sym (appended-desk l))

    appended-not : {n : Memory} {r : Refusal} → LeavesSlotIn m n s.slot (no_answer call) (Err r) → appended d (task_of m s) k xs ≡ Err r
    unfolding task_of ◌>>=◌
    appended-not l = sym (appended-as d (task_of m s) k xs) ∙ ap (λ g. g >>= λ x. Ok (with_slot s.handle x d)) (the-append ∙ unchanged l)

    pub appended-becomes : {n : Memory} (r : Granted (Unit {0})) → LeavesSlotIn m n s.slot (no_answer call) r
        → Becomes (appended d (task_of m s) k xs) (shown_of m seats made files kept) (shown_of n seats made files kept) r
    appended-becomes (Ok x) l = appended-done l
    appended-becomes (Err r) l = (appended-not l, ap (λ x. shown_of x seats made files kept) l.err)

    pub appended-returns : {n : Memory} {old : Shown} → shown_of m seats made files kept ≡ old → (r : Granted (Unit {0})) → LeavesSlotIn m n s.slot
        (no_answer call) r
        → (buffer count : ℕ) → xs ≡ first_bytes count (heap_block_at buffer (slot_in m s.slot)) → (t : Task) → IsAt i t old.desk
        → Becomes (appended old.desk t k (first_bytes count (heap_block_at buffer t.slot))) old (shown_of n seats made files kept) r
    unfolding task_of
    appended-returns {n} {old} view r l buffer count is t there =
        let P : Task → Type 0 = λ u. Becomes (appended d u k (first_bytes count (heap_block_at buffer u.slot))) (shown_of m seats made files kept)
        (shown_of n seats made files kept) r in
        let Q : Shown → Type 0 = λ o. Becomes (appended o.desk t k (first_bytes count (heap_block_at buffer t.slot))) o (shown_of n seats made files kept) r in
        let R : List ℕ → Type 0 = λ ys. Becomes (appended d (task_of m s) k ys) (shown_of m seats made files kept) (shown_of n seats made files kept) r in
        subst Q view (subst P (seat-task w view at there) (subst R is (appended-becomes r l)))
