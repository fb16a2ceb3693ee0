-- Bytes that a task with code of its own writes, into its own slot and into places that others opened to it.
use Rattle.rh_tasks.proofs.Common.{◌≡◌, ℕ, ◌-◌, Bool, true, false, refl, ap, sym, subst, ◌∙◌, arith, List, length, None, Ok, Err, not, ◌&&◌, ◌||◌}
use Rattle.rh_tasks.proofs.Common.{◌==◌, Memory, FileList, bytes, part, length-part, OnlyArea-self, NoTask, BadRange, found_or, no_answer, holds}
use Rattle.rh_tasks.proofs.Common.{slot_start, buffer_at, overlap, bytes_held, Desk, Task, task_at, free_pages, with_slot, with_task, IsRoomed, IsSlotIn}
use Rattle.rh_tasks.proofs.Common.{slot_in, LeavesSlotIn, Seat, MadeArea, Kept, task_of, desk_of, IsWorld, FoundSeat, set_same, begins, ends, past, stops}
use Rattle.rh_tasks.proofs.Common.{granted-same, sits, named-is, Moves, moved-desk, slid, changed}
use Rattle.rh_defs.specs.declared.refusal.Refusal.TheVariants.{WrongManner}
use Rattle.rh_defs.specs.declared.reply.Reply.TheVariants as reply
use Rattle.rh_defs.specs.Slot as plain
use Rattle.rh_defs.specs.Places.{written_held, written_in}
use Rattle.rh_defs.specs.RawCommands.{is_bad_move, transfer, write}
use Rattle.rh_defs.specs.RawTasks.{is_raw}
use Rattle.rh_defs.proofs.SlotKeeps.{written_held-kept}
use Rattle.rh_slot.proofs.ReachLaws.{written_alike, written_nowhere}
use Rattle.rh_tasks.proofs.Slides.{at-task, seat-at, seat-slot, slides-desk, slides-world}
use Rattle.rh_tasks.proofs.TransferBlocks.{SeatOf, a-task, held-part, ok-same}

-- ---- the task's own slot

module _ {m : Memory} {seats : List Seat} {made : List MadeArea} {files : FileList} {kept : Kept} {name : List ℕ} {i : ℕ} {s : Seat}
    (w : IsWorld m seats made files kept) (f : FoundSeat name seats i s) (x : ℕ) (new : List ℕ) where
  abbrev d : Desk
  d = desk_of m seats made files kept

  pub write-outside : holds x (length new) (slot_in m s.slot) ≡ false → write d name x new ≡ Err BadRange
  unfolding write task_of
  write-outside e = begins _ (named-is m made files kept f) (stops _ BadRange _ (ap not e))

  module _ (there : holds x (length new) (slot_in m s.slot) ≡ true) where
    pub write-played : is_raw s.manner ≡ false → write d name x new ≡ Err WrongManner
    unfolding write task_of
    write-played q = begins _ (named-is m made files kept f) (past _ BadRange _ (ap not there) (stops _ WrongManner _ (ap not q)))

    module _ {n : Memory} (l : LeavesSlotIn m n s.slot (no_answer (Ok (written_held x new (slot_in m s.slot)))) (Ok tt)) where
      now : written_held x new (slot_in m s.slot) ≡ slot_in n s.slot
      now = ok-same (changed l)

      pub write-done : is_raw s.manner ≡ true → write d name x new ≡ Ok (desk_of n seats made files kept, reply.Done)
      unfolding write task_of
      write-done q =
          begins _ (named-is m made files kept f) (past _ BadRange _ (ap not there) (past _ WrongManner _ (ap not q)
          (granted-same (ap (λ z. with_slot s.handle z d) now ∙ sym (slides-desk w (sits f) (slid l))) refl)))

      pub write-world : IsWorld n seats made files kept
      unfolding task_of
      write-world =
          let task = at-task d i (task_of m s) w.desk (seat-at w (sits f)) in
          let kept = written_held-kept x new (slot_in m s.slot) task.slot in
          slides-world w (sits f) (slid l) (subst (IsRoomed (free_pages d) (slot_in m s.slot)) now
          (record { room = omega (arith, kept.pages); slot = kept.slot }))

-- ---- another task's

or-parts : (a b : Bool) → (a || b) ≡ false → (a ≡ false) × (b ≡ false)
or-parts true b e = absurd cc
or-parts false b e = (refl, e)

not-false : (a : Bool) → not a ≡ false → a ≡ true
not-false true e = refl
not-false false e = absurd cc

module _ {m : Memory} {seats : List Seat} {made : List MadeArea} {files : FileList} {kept : Kept} {name : List ℕ} {i : ℕ} {s : Seat}
    (w : IsWorld m seats made files kept) (f : FoundSeat name seats i s) (x h y n : ℕ) where
  abbrev e : Desk
  e = desk_of m seats made files kept

  pub transfer-bad : is_bad_move e (task_of m s) x h y n ≡ true → transfer e name x h y n ≡ Err BadRange
  unfolding transfer
  transfer-bad q = begins _ (named-is m made files kept f) (stops _ BadRange _ q)

  module _ (good : is_bad_move e (task_of m s) x h y n ≡ false) where
    pub transfer-nobody : task_at h e ≡ None → transfer e name x h y n ≡ Err NoTask
    unfolding transfer found_or
    transfer-nobody none = begins _ (named-is m made files kept f) (past _ BadRange _ good (ends _ (ap (λ o. found_or o NoTask) none)))

    -- the bytes are the task's, and aren't in their own way
    pub own-range : holds x n (slot_in m s.slot) ≡ true
    unfolding task_of
    own-range = not-false _ (or-parts _ _ (or-parts _ _ good).0).0

    pub own-apart : (s.handle == h && overlap x n y n) ≡ false
    unfolding task_of
    own-apart = (or-parts _ _ (or-parts _ _ good).0).1

    module _ {j : ℕ} {r : Seat} (b : SeatOf seats h j r) where
      abbrev xs : List ℕ
      xs = bytes_held x n (slot_in m s.slot)

      abbrev edit : Task → Task
      edit u = record u { slot = written_held y xs u.slot }

      pub transfer-played : is_raw s.manner ≡ false → transfer e name x h y n ≡ Err WrongManner
      unfolding transfer found_or task_of
      transfer-played q =
          begins _ (named-is m made files kept f) (past _ BadRange _ good (begins _ (ap (λ o. found_or o NoTask) (a-task w b))
          (stops _ WrongManner _ (ap not q))))

      module _ (raw : is_raw s.manner ≡ true) where
        given : transfer e name x h y n ≡ Ok (with_task r.handle edit e, reply.Done)
        unfolding transfer found_or task_of
        given =
            begins _ (named-is m made files kept f) (past _ BadRange _ good (begins _ (ap (λ o. found_or o NoTask) (a-task w b))
            (past _ WrongManner _ (ap not raw) refl)))

        len : length (part (bytes m s.slot.area.0) (x - slot_start) n) ≡ n
        len = length-part (bytes m s.slot.area.0) (x - slot_start) n

        is-part : xs ≡ part (bytes m s.slot.area.0) (x - slot_start) n
        is-part = (held-part m s.slot x n (seat-slot w (sits f)) own-range).1.is

        -- the desk by the slot that is left
        transfer-so : {k : Memory} → Moves m k r r edit → transfer e name x h y n ≡ Ok (desk_of k seats made files kept, reply.Done)
        transfer-so {k} moves =
            given ∙ granted-same (sym (ap (λ (l : List Seat). desk_of k l made files kept) (sym (set_same seats j r b.at)) ∙ moved-desk w b.at moves)) refl

        -- no block holds the bytes there
        pub transfer-nothing : holds y n (slot_in m r.slot) ≡ false → transfer e name x h y n ≡ Ok (e, reply.Done)
        unfolding task_of
        transfer-nothing none =
            let has : IsSlotIn m r.slot = seat-slot w b.at in
            let short : holds y (length xs) (slot_in m r.slot) ≡ false = ap (λ i. holds y i (slot_in m r.slot)) (ap length is-part ∙ len) ∙ none in
            transfer-so (record {
              handle = refl;
              area = refl;
              still = has;
              only = OnlyArea-self m r.slot.area.0 has.opened;
              task = ap (λ (z : plain.Slot). let t : Task = record (task_of m r) { slot = z } in t) (sym (written_nowhere (slot_in m r.slot) y xs short));
            })

        module _ {k : Memory} (l : LeavesSlotIn m k r.slot (no_answer (Ok (written_in y (part (bytes m s.slot.area.0) (x - slot_start) n)
            (buffer_at y n (slot_in m r.slot)) (slot_in m r.slot)))) (Ok tt)) where
          alike : written_in y (part (bytes m s.slot.area.0) (x - slot_start) n) (buffer_at y n (slot_in m r.slot)) (slot_in m r.slot)
              ≡ written_held y xs (slot_in m r.slot)
          alike =
              let q : List ℕ = part (bytes m s.slot.area.0) (x - slot_start) n in
              let slot : plain.Slot = slot_in m r.slot in
              ap (λ i. written_in y q (buffer_at y i slot) slot) (sym len)
              ∙ written_alike slot y q (seat-slot w b.at).spells.words.heap.heap.fits ∙ ap (λ z. written_held y z slot) (sym is-part)

          pub transfer-done : transfer e name x h y n ≡ Ok (desk_of k seats made files kept, reply.Done)
          unfolding task_of
          transfer-done =
              transfer-so (record {
                handle = refl;
                area = refl;
                still = (slid l).still;
                only = (slid l).only;
                task = ap (λ (z : plain.Slot). let t : Task = record (task_of m r) { slot = z } in t) (sym (ok-same (changed l)) ∙ alike);
              })
