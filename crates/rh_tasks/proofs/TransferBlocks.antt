-- Bytes that are moved from one task's block to another's: where they stand, and the world after it.
use Rattle.rh_tasks.proofs.Common.{◌≡◌, ◌⊎◌, inl, inr, ℕ, zero, suc, ◌+◌, ◌-◌, ◌≤◌, Bool, true, false, refl, ap, sym, subst, ◌∙◌, arith, List, [], ◌∷◌}
use Rattle.rh_tasks.proofs.Common.{length, Option, Some, None, Ok, Err, is_some, ok_or, not, ◌&&◌, ◌||◌, ◌==◌, map, take, drop, position, get_or, cases_lt}
use Rattle.rh_tasks.proofs.Common.{eqb-true, part, Memory, bytes, FileList, Refusal, NoTask, BadRange, Granted, found_or, no_answer, total, bytes_of, size_of}
use Rattle.rh_tasks.proofs.Common.{heap_start, holds, slot_start, weight, flex_place, buffer_at, overlap, Desk, Task, task_at, free_pages, with_slot}
use Rattle.rh_tasks.proofs.Common.{part-drop, length-part, IsRoomed, IsSlotIn, slot_in, LeavesSlotIn, Standing, Seat, MadeArea, Kept, task_of, desk_of}
use Rattle.rh_tasks.proofs.Common.{◌<◌, length-map, slot_area}
use Rattle.rh_tasks.proofs.Common.{AreDistinct, IsWorld, bytes_held, begins, ends, past, stops, lt-true, slid, changed, Sits, avoids-at, task-found}
use Rattle.std.proofs.lemmas.List.{get_or_default}
use Rattle.std.proofs.lemmas.List.Quantifiers.{position-Some}
use Rattle.rh_defs.specs.Slot as plain
use Rattle.rh_defs.specs.SlotImage.{SpellsSlot, heap_place}
use Rattle.rh_defs.specs.Places.{bytes_around, bytes_in_heap, written_in}
use Rattle.rh_defs.proofs.BytesLaws.{part-part}
use Rattle.rh_defs.proofs.HeapLists.{eqb_same}
use Rattle.rh_defs.proofs.SlotLaws.{HaveAnchors-cut}
use Rattle.rh_defs.proofs.SlotKeeps.{written_in-kept}
use Rattle.rh_slot.specs.declared.slot.Slot.{Slot}
use Rattle.rh_slot.proofs.EditLaws.{read_bytes}
use Rattle.rh_slot.proofs.FlexLaws.{false-true}
use Rattle.rh_slot.proofs.Ranges.{cut_found, cut_bytes}
use Rattle.rh_slot.proofs.ReachLaws.{Holder, flex_holder, heap_holder, holder}
use Rattle.rh_tasks.specs.TransferBlock.{transferred}
use Rattle.rh_tasks.proofs.Finding.{find-none, find-map}
use Rattle.rh_tasks.proofs.Slides.{at-task, seat-slot, seat-at, slides-desk, slides-world}

-- ---- where the bytes stand

held-at : (b : List ℕ) (s : plain.Slot) (x n : ℕ) → SpellsSlot b s → Holder s x n
    → (slot_start ≤ x) × Standing b (bytes_held x n s) (x - slot_start) n 0 (length b)
held-at b s x n k (flex_holder cut offset f is e h) =
    let found = cut_found s cut.here.anchor cut is refl (HaveAnchors-cut cut.before cut.here cut.after (subst plain.HaveAnchors is k.words.anchors)).before in
    let inside = found.inside in
    let within = k.words.within in
    let same : x - plain.flex_address s cut.before ≡ offset = omega arith in
    let place : flex_place s + total weight cut.before + 8 + offset ≡ x - slot_start = omega arith in (
      omega arith,
      record {
        is = ap (λ o. bytes_around x n s o) f ∙ ap (λ i. take n (drop i cut.here.bytes)) same
            ∙ sym (read_bytes b s cut.here.anchor (flex_place s + total weight cut.before) (length cut.here.bytes) offset n cut k.words found h)
            ∙ ap (λ p. part b p n) place;
        low = omega arith;
        high = omega arith;
      },
    )
held-at b s x n k (heap_holder cut offset f g c e h) =
    let inside = c.inside in
    let fits = k.words.heap.heap.fits in
    let within = k.words.within in
    let old = bytes_of cut.here in
    let y = 16 + total size_of cut.before + 4 in
    let same : x - (heap_start + (16 + total size_of cut.before) + 4) ≡ offset = omega arith in
    let place : heap_place + y + offset ≡ x - slot_start = omega arith in (
      omega arith,
      record {
        is = ap (λ o. bytes_around x n s o) f ∙ ap (λ o. bytes_in_heap x n o) g ∙ ap (λ i. take n (drop i old)) same
            ∙ sym (ap (λ p. part b p n) (sym place) ∙ sym (part-part b (heap_place + y) (length old) offset n h)
            ∙ ap (λ l. part l offset n) (cut_bytes b heap_place s.heap y cut k.words.heap c) ∙ part-drop old offset n h);
        low = omega arith;
        high = omega arith;
      },
    )

-- bytes that one block holds are those of the area
pub held-part : (m : Memory) (slot : Slot) (x n : ℕ) → IsSlotIn m slot → holds x n (slot_in m slot) ≡ true
    → (slot_start ≤ x) × Standing (bytes m slot.area.0) (bytes_held x n (slot_in m slot)) (x - slot_start) n 0 (length (bytes m slot.area.0))
held-part m slot x n s h = held-at (bytes m slot.area.0) (slot_in m slot) x n s.spells (holder (slot_in m slot) x n h)

-- ---- two ranges

pub apart-from : (x y n : ℕ) → overlap x n y n ≡ false → (x + n ≤ y) ⊎ (y + n ≤ x)
apart-from x y n e = elim (cases_lt x (y + n)) [
  | inr l ↦ inr l
  | inl l ↦ elim (cases_lt y (x + n)) [
    | inr k ↦ inl k
    | inl k ↦ absurd (let some = lt-true 0 n (omega arith) in let low = lt-true x (y + n) l in let high = lt-true y (x + n) k in
        false-true (sym e ∙ rw (some, low, high) refl))
  ]
]

or-right : (t u : Bool) → u ≡ true → (t || u) ≡ true
or-right true u e = refl
or-right false u e = e

pub first-false : (t u : Bool) → t ≡ false → (t && u) ≡ false
first-false true u e = absurd (false-true (sym e))
first-false false u e = refl

pub second-false : (t u : Bool) → u ≡ false → (t && u) ≡ false
second-false true u e = e
second-false false u e = refl

pub both-true : (t u : Bool) → t ≡ true → u ≡ true → (t && u) ≡ true
both-true true u e f = f
both-true false u e f = e

-- ---- seats of handles

-- the seat at a place is that of the task with the handle
pub record SeatOf (seats : List Seat) (h i : ℕ) (s : Seat) : Type 0 where
  pub at : Sits seats i s
  pub handle : s.handle ≡ h

pub seat-of : (seats : List Seat) (h i : ℕ) (s : Seat) → position (λ (x : Seat). x.handle == h) seats ≡ Some i → s ≡ get_or seats i s → SeatOf seats h i s
seat-of seats h i s e is =
    let P : Seat → Type 0 = λ y. (y.handle == h) ≡ true in
    let f = position-Some (λ (x : Seat). x.handle == h) seats i s e in
    record { at = record { inside = f.0; is = sym is }; handle = eqb-true _ _ (subst P (sym is) f.1) }

-- the same of a place that nothing was read at
pub seat-there : (seats : List Seat) (h i : ℕ) (other : Seat) → position (λ (x : Seat). x.handle == h) seats ≡ Some i → SeatOf seats h i (get_or seats i other)
seat-there seats h i other e =
    let f = position-Some (λ (x : Seat). x.handle == h) seats i other e in
    seat-of seats h i (get_or seats i other) e (get_or_default seats i other (get_or seats i other) f.0)

-- its task is one of the desk's
pub task-inside : (m : Memory) {seats : List Seat} {i : ℕ} {s : Seat} → Sits seats i s → i < length (map (task_of m) seats)
task-inside m {seats} at = omega (arith, at.inside, length-map seats (task_of m))

-- what a place that is asked for says, where there may be none
pub place-is : {i : ℕ} (e : Refusal) (o : Option ℕ) {p : Option ℕ} → Ok i ≡ ok_or o e → o ≡ p → p ≡ Some i
place-is r (Some k) e f = sym f ∙ (let same : k ≡ _ = cc in ap (λ (x : ℕ). Some x) same)
place-is r None e f = absurd cc

pub place-none : {r : Refusal} (e : Refusal) (o : Option ℕ) {p : Option ℕ} → Err r ≡ ok_or o e → o ≡ p → (r ≡ e) × (p ≡ None)
place-none q (Some k) e f = absurd cc
place-none q None e f = (cc, sym f)

-- members whose numbers are distinct, and are one number, are one
same-member : {A : Type 0} (f : A → ℕ) (xs : List A) (i j : ℕ) (x y : A) → AreDistinct (map f xs) → Sits xs i x → Sits xs j y → f x ≡ f y → x ≡ y
same-member f [] i j x y all at bt q = absurd (omega (arith, at.inside))
same-member f (z ∷ xs) zero zero x y all at bt q = sym at.is ∙ bt.is
same-member f (z ∷ xs) zero (suc j) x y all at bt q =
    absurd (avoids-at f (f z) xs j y all.0 (record { inside = omega (arith, bt.inside); is = bt.is }) (sym q ∙ sym (ap f at.is)))
same-member f (z ∷ xs) (suc i) zero x y all at bt q =
    absurd (avoids-at f (f z) xs i x all.0 (record { inside = omega (arith, at.inside); is = at.is }) (q ∙ sym (ap f bt.is)))
same-member f (z ∷ xs) (suc i) (suc j) x y all at bt q =
    same-member f xs i j x y all.1 (record { inside = omega (arith, at.inside); is = at.is }) (record { inside = omega (arith, bt.inside); is = bt.is }) q

pub ok-same : {A : Type 0} {x y : A} → (let g : Granted A = Ok x in g) ≡ Ok y → x ≡ y
ok-same e = cc

-- ---- the world

module _ {m : Memory} {seats : List Seat} {made : List MadeArea} {files : FileList} {kept : Kept} (w : IsWorld m seats made files kept) where
  abbrev pub d : Desk
  d = desk_of m seats made files kept

  pub no-task : (h : ℕ) → position (λ (s : Seat). s.handle == h) seats ≡ None → task_at h d ≡ None
  unfolding task_of
  no-task h e = find-map (task_of m) (λ (t : Task). t.handle == h) seats (find-none (λ (s : Seat). s.handle == h) seats e)

  pub a-task : {h i : ℕ} {s : Seat} → SeatOf seats h i s → task_at h d ≡ Some (task_of m s)
  unfolding task_of
  a-task {s = s} a =
      let P : ℕ → Type 0 = λ k. task_at k d ≡ Some (task_of m s) in
      subst P a.handle (task-found d _ (task_of m s) w.desk (seat-at w a.at))

  pub no-source : (from x to y n : ℕ) → position (λ (s : Seat). s.handle == from) seats ≡ None → transferred d from x to y n ≡ Err NoTask
  unfolding transferred found_or
  no-source from x to y n e = ends _ (ap (λ o. found_or o NoTask) (no-task from e))

  pub no-target : (from x to y n : ℕ) → position (λ (s : Seat). s.handle == to) seats ≡ None → transferred d from x to y n ≡ Err NoTask
  unfolding transferred found_or
  no-target from x to y n e = go (task_at from d) refl
    where
      go : (o : Option Task) → task_at from d ≡ o → transferred d from x to y n ≡ Err NoTask
      go None f = ends _ (ap (λ o. found_or o NoTask) f)
      go (Some t) f = begins _ (ap (λ o. found_or o NoTask) f) (ends _ (ap (λ o. found_or o NoTask) (no-task to e)))

  module _ {from to i j : ℕ} {s r : Seat} (x y n : ℕ) (a : SeatOf seats from i s) (b : SeatOf seats to j r) where
    pub outside : (not (holds x n (slot_in m s.slot)) || not (holds y n (slot_in m r.slot))) ≡ true → transferred d from x to y n ≡ Err BadRange
    unfolding transferred found_or task_of
    outside e = begins _ (ap (λ o. found_or o NoTask) (a-task a)) (begins _ (ap (λ o. found_or o NoTask) (a-task b)) (stops _ BadRange _ e))

    pub no-source-range : holds x n (slot_in m s.slot) ≡ false → transferred d from x to y n ≡ Err BadRange
    no-source-range e = outside (ap (λ t. not t || not (holds y n (slot_in m r.slot))) e)

    pub no-target-range : holds y n (slot_in m r.slot) ≡ false → transferred d from x to y n ≡ Err BadRange
    no-target-range e = outside (or-right (not (holds x n (slot_in m s.slot))) _ (ap not e))

    module _ (sh : holds x n (slot_in m s.slot) ≡ true) (rh : holds y n (slot_in m r.slot) ≡ true) where
      within : (not (holds x n (slot_in m s.slot)) || not (holds y n (slot_in m r.slot))) ≡ false
      within = rw (sh, rh) refl

      pub colliding : (from == to && overlap x n y n) ≡ true → transferred d from x to y n ≡ Err BadRange
      unfolding transferred found_or task_of
      colliding e = begins _ (ap (λ o. found_or o NoTask) (a-task a)) (begins _ (ap (λ o. found_or o NoTask) (a-task b))
          (past _ BadRange _ within (stops _ BadRange _ e)))

      pub reach : (is_some (buffer_at y n (slot_in m r.slot)) || holds y n (slot_in m r.slot)) ≡ true
      reach = or-right _ _ rh

      module _ (e : (from == to && overlap x n y n) ≡ false) where
        is-granted : transferred d from x to y n ≡ Ok (with_slot to (written_in y (bytes_held x n (slot_in m s.slot)) (buffer_at y n (slot_in m r.slot))
            (slot_in m r.slot)) d)
        unfolding transferred found_or task_of
        is-granted = begins _ (ap (λ o. found_or o NoTask) (a-task a)) (begins _ (ap (λ o. found_or o NoTask) (a-task b))
            (past _ BadRange _ within (past _ BadRange _ e refl)))

        -- in one slot the two ranges are apart
        pub apart : s.slot.area.0 ≡ r.slot.area.0 → (x - slot_start + n ≤ y - slot_start) ⊎ (y - slot_start + n ≤ x - slot_start)
        apart q =
            let one : s ≡ r = same-member slot_area seats i j s r w.areas.slots_apart a.at b.at q in
            let same : from ≡ to = sym a.handle ∙ ap (λ (z : Seat). z.handle) one ∙ b.handle in
            let over : overlap x n y n ≡ false = sym (ap (λ t. t && overlap x n y n) (eqb_same from to same)) ∙ e in
            let low = (held-part m s.slot x n (seat-slot w a.at) sh).0 in
            let low2 = (held-part m r.slot y n (seat-slot w b.at) rh).0 in
            elim (apart-from x y n over) [ inl l ↦ inl (omega arith) | inr l ↦ inr (omega arith) ]

        module _ {k : Memory} (l : LeavesSlotIn m k r.slot (no_answer (Ok (written_in y (part (bytes m s.slot.area.0) (x - slot_start) n)
            (buffer_at y n (slot_in m r.slot)) (slot_in m r.slot)))) (Ok tt)) where
          now : written_in y (part (bytes m s.slot.area.0) (x - slot_start) n) (buffer_at y n (slot_in m r.slot)) (slot_in m r.slot) ≡ slot_in k r.slot
          now = ok-same (changed l)

          pub moved : transferred d from x to y n ≡ Ok (desk_of k seats made files kept)
          moved =
              let xs = (held-part m s.slot x n (seat-slot w a.at) sh).1.is in
              let slot = ap (λ l. written_in y l (buffer_at y n (slot_in m r.slot)) (slot_in m r.slot)) xs ∙ now in
              let desk = ap (λ z. with_slot to z d) slot ∙ ap (λ h. with_slot h (slot_in k r.slot) d) (sym b.handle) ∙ sym (slides-desk w b.at (slid l)) in
              is-granted ∙ ap (λ (z : Desk). let g : Granted Desk = Ok z in g) desk

          pub moved-keeps : IsWorld k seats made files kept
          unfolding task_of
          moved-keeps =
              let task = at-task d j (task_of m r) w.desk (seat-at w b.at) in
              let len = length-part (bytes m s.slot.area.0) (x - slot_start) n in
              let kept = written_in-kept y n (part (bytes m s.slot.area.0) (x - slot_start) n) (slot_in m r.slot) (omega arith) task.slot in
              slides-world w b.at (slid l) (subst (IsRoomed (free_pages d) (slot_in m r.slot)) now
              (record { room = omega (arith, kept.pages); slot = kept.slot }))
