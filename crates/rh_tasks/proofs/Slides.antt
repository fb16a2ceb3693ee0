-- A call on the slot of the seat at a place.
use Rattle.rh_tasks.proofs.Common.{◌≡◌, ℕ, ◌<◌, refl, ap, sym, subst, ◌∙◌, arith, List, length, Ok, Err, IfSome, get_or, set, length-map, Memory, FileList}
use Rattle.rh_tasks.proofs.Common.{Refusal, Granted, Desk, Task, free_pages, with_slot, IsDesk, OnGrant, grant-holds, IsRoomed, IsSlotIn, slot_in, LeavesSlotIn}
use Rattle.rh_tasks.proofs.Common.{Seat}
use Rattle.rh_tasks.proofs.Common.{MadeArea, Shown, Kept, task_of, desk_of, IsWorld, IsAt, Sits, all-at, set_same, mapped-is, mapped-at, task-found, free-is}
use Rattle.rh_tasks.proofs.Common.{Moves, Slid, moved-desk, moved-world, slid, granted}
use Rattle.rh_defs.specs.Slot as plain
use Rattle.rh_defs.proofs.Lists.{find-all}
use Rattle.rh_defs.proofs.Desks.{IsTask, HasSlot, with_slot-keeps}
use Rattle.rh_tasks.specs.View as view
use Rattle.rh_tasks.proofs.Leaves.{refused}

-- a desk's task at a place is the one of its handle
pub at-task : (d : Desk) (i : ℕ) (t : Task) → IsDesk d → IsAt i t d → IsTask d t
at-task d i t is at =
    let found = task-found d i t is at in
    record { found = found; slot = subst (λ o. IfSome o HasSlot) found (find-all HasSlot _ d.tasks is.slots) }

module _ {m : Memory} {seats : List Seat} {made : List MadeArea} {files : FileList} {kept : Kept} {i : ℕ} {s : Seat}
    (w : IsWorld m seats made files kept) (at : Sits seats i s) where
  abbrev d : Desk
  d = desk_of m seats made files kept

  -- the seat has a slot
  pub seat-slot : IsSlotIn m s.slot
  seat-slot = all-at (view.HasSlot m) seats i s w.areas.slots at

  -- the desk's task is the seat's
  pub seat-at : IsAt i (task_of m s) d
  seat-at = mapped-at (task_of m) seats i s at

  pub seat-is : (t : Task) → IsAt i t d → task_of m s ≡ t
  seat-is t e = mapped-is (task_of m) seats i s t at e

  seat-task : IsTask d (task_of m s)
  seat-task = at-task d i (task_of m s) w.desk seat-at

  module _ {n : Memory} (slid : Slid m n s.slot) where
    moves : Moves m n s s (λ t. record t { slot = slot_in n s.slot })
    unfolding task_of
    moves = record { handle = refl; area = refl; still = slid.still; only = slid.only; task = refl }

    same : set seats i s ≡ seats
    same = set_same seats i s at

    pub slides-desk : desk_of n seats made files kept ≡ with_slot s.handle (slot_in n s.slot) d
    slides-desk = ap (λ (l : List Seat). desk_of n l made files kept) (sym same) ∙ moved-desk w at moves

    pub slides-world : IsRoomed (free_pages d) (slot_in m s.slot) (slot_in n s.slot) → IsWorld n seats made files kept
    unfolding task_of
    slides-world fits =
        let P : List Seat → Type 0 = λ l. IsDesk (desk_of n l made files kept) → IsWorld n l made files kept in
        subst P same (λ is. moved-world w at moves is) (subst IsDesk (sym slides-desk)
        (with_slot-keeps d (task_of m s) (slot_in n s.slot) seat-task fits w.desk))

  -- ---- a call that answers something

  module _ {A : Type 0} (call : ℕ → plain.Slot → Granted (plain.Slot × A)) where
    call-is : (t : Task) → IsAt i t d → call (free_pages d) t.slot ≡ call m.free (slot_in m s.slot)
    unfolding task_of
    call-is t e = ap (λ (x : Task). call (free_pages d) x.slot) (sym (seat-is t e)) ∙ ap (λ k. call k (slot_in m s.slot)) (free-is w)

    pub slide-refused : {n : Memory} {r : Refusal} → LeavesSlotIn m n s.slot (call m.free (slot_in m s.slot)) (Err r) → (t : Task) → IsAt i t d
        → call (free_pages d) t.slot ≡ Err r
    slide-refused l t e = call-is t e ∙ refused l

    module _ {n : Memory} {a : A} (l : LeavesSlotIn m n s.slot (call m.free (slot_in m s.slot)) (Ok a)) where
      pub slide-granted : (t : Task) → IsAt i t d → call (free_pages d) t.slot ≡ Ok (slot_in n s.slot, a)
      slide-granted t e = call-is t e ∙ granted l

      pub slide-desk : (t : Task) → IsAt i t d → desk_of n seats made files kept ≡ with_slot t.handle (slot_in n s.slot) d
      unfolding task_of
      slide-desk t e = slides-desk (slid l) ∙ ap (λ (x : Task). with_slot x.handle (slot_in n s.slot) d) (seat-is t e)

      pub slide-world : ((slot : plain.Slot) → plain.IsSlot slot → OnGrant (λ (p : plain.Slot × A). IsRoomed (free_pages d) slot p.0)
          (call (free_pages d) slot)) → IsWorld n seats made files kept
      unfolding task_of
      slide-world keeps = slides-world (slid l) (grant-holds (keeps (slot_in m s.slot) seat-task.slot) (slide-granted (task_of m s) seat-at))

-- the seat at a place where the shown desk has a task
pub seat-sits : (m : Memory) (seats : List Seat) (made : List MadeArea) (files : FileList) (kept : Kept) {v : Shown} {i : ℕ} {s : Seat}
    → view.shown_of m seats made files kept ≡ v → i < length v.desk.tasks → s ≡ get_or seats i s → Sits seats i s
seat-sits m seats made files kept e inside is =
    record { inside = omega (arith, inside, length-map seats (task_of m), ap (λ (x : Shown). length x.desk.tasks) e); is = sym is }
