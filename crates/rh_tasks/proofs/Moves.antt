-- A world in which one seat has changed, and the store in its area alone.
use Rattle.std.proofs.Common.{◌≡◌, ◌≢◌, ℕ, zero, suc, ◌+◌, ◌*◌, true, false, cond, refl, ap, subst, arith, List, [], ◌∷◌, length, ◌∙◌, sym}
use Rattle.std.specs.Prelude.{map, find, Some, Ok, ◌==◌}
use Rattle.std.proofs.Math.ListN.{set}
use Rattle.std.proofs.Math.Seq.{map-set_same}
use Rattle.std.proofs.lemmas.List.{length-set}
use Rattle.rh_defs.specs.declared.sizes.TheConstants.{PAGE}
use Rattle.rh_defs.specs.Memory.{Memory, OnlyArea, bytes}
use Rattle.rh_defs.specs.Pieces.{total}
use Rattle.rh_defs.specs.Files.{FileList}
use Rattle.rh_defs.specs.Slot as plain
use Rattle.rh_defs.specs.Desk.{Desk, Task, task_pages, used_pages, named, edit_task, with_task, with_slot}
use Rattle.rh_defs.specs.Laws.{IsDesk}
use Rattle.rh_slot.specs.declared.slot.Slot.{Slot}
use Rattle.rh_slot.specs.SlotArea.{IsSlotIn, slot_in}
use Rattle.rh_tasks.specs.declared.seat.Seat.{Seat}
use Rattle.rh_tasks.specs.declared.made.MadeArea.{MadeArea}
use Rattle.rh_tasks.specs.View.{Kept, task_of, desk_of, slot_area, made_area, Avoids, AreDistinct, HasSlot, IsAbove, HasAreas, IsWorld}
use Rattle.rh_tasks.specs.Finding.{Owns}
use Rattle.rh_tasks.proofs.Lists.{Sits, set_same, all-at, all-set, avoids-at}
use Rattle.rh_tasks.proofs.Frames.{Stay, if_apart, if_same, tasks-edited, slots-edited, mades-stay, mades-opened, fixed-stay, fixed-opened, post-stays}
use Rattle.rh_tasks.proofs.Frames.{queue-stays, scrap-stays, scrap-fits, module-stays, count-stays}
use Rattle.rh_tasks.proofs.Worlds.{handles, same-desk}
use Rattle.rh_tasks.proofs.Finding.{sits, named-is}

handle-first : (m : Memory) (seats : List Seat) (i : ℕ) (s : Seat) → Sits seats i s → AreDistinct (map (λ (x : Seat). x.handle) seats)
    → find (λ (x : Task). x.handle == s.handle) (map (task_of m) seats) ≡ Some (task_of m s)
unfolding task_of
handle-first m [] i s at handles = absurd (omega (arith, at.inside))
handle-first m (x ∷ seats) zero s at handles =
    if_same x.handle s.handle _ _ (ap (λ (y : Seat). y.handle) at.is) ∙ ap (λ y. Some (task_of m y)) at.is
handle-first m (x ∷ seats) (suc i) s at handles =
    let rest : Sits seats i s = record { inside = omega (arith, at.inside); is = at.is } in
    if_apart x.handle s.handle _ _ (λ q. avoids-at (λ (y : Seat). y.handle) x.handle seats i s handles.0 rest (sym q))
    ∙ handle-first m seats i s rest handles.1

-- a seat and its area have changed as an edit of their task
pub record Moves (m n : Memory) (s s' : Seat) (edit : Task → Task) : Type 0 where
  pub handle : s'.handle ≡ s.handle
  pub area : s'.slot.area.0 ≡ s.slot.area.0
  pub still : HasSlot n s'
  pub only : OnlyArea m n s.slot.area.0
  pub task : task_of n s' ≡ edit (task_of m s)

-- a slot's pages are its area's
pub slot-pages : {m : Memory} {slot : Slot} → IsSlotIn m slot → length (bytes m slot.area.0) ≡ PAGE * plain.slot_pages (slot_in m slot)
slot-pages is = is.spells.pages

total-edited : (h : ℕ) (edit : Task → Task) (tasks : List Task) (t : Task) → find (λ (x : Task). x.handle == h) tasks ≡ Some t
    → total task_pages (edit_task h edit tasks) + task_pages t ≡ total task_pages tasks + task_pages (edit t)
total-edited h edit [] t is = absurd (cc)
total-edited h edit (x ∷ tasks) t is =
    elim (x.handle == h) as (λ b. cond b (Some x) (find (λ (x : Task). x.handle == h) tasks) ≡ Some t
    → total task_pages (cond b (edit x ∷ tasks) (x ∷ edit_task h edit tasks)) + task_pages t ≡ (task_pages x + total task_pages tasks) + task_pages
    (edit t)) [
      | true ↦ λ (q : Some x ≡ Some t). (let e : x ≡ t = cc in omega (arith, ap task_pages e, ap (λ y. task_pages (edit y)) e))
      | false ↦ λ (q : find (λ (x : Task). x.handle == h) tasks ≡ Some t). omega (arith, total-edited h edit tasks t q)
    ] is

module _ {m n : Memory} {seats : List Seat} {made : List MadeArea} {files : FileList} {kept : Kept} {i : ℕ} {s s' : Seat} {edit : Task → Task}
    (w : IsWorld m seats made files kept) (at : Sits seats i s) (moves : Moves m n s s' edit) where
  abbrev before : Desk
  before = desk_of m seats made files kept

  stay : Stay m n s.slot.area.0
  stay = record { others = moves.only.others }

  above : IsAbove s.slot.area.0
  above = all-at (λ (x : Seat). IsAbove x.slot.area.0) seats i s w.areas.slots_above at

  off : Avoids s.slot.area.0 (map made_area made)
  off = all-at (λ (x : Seat). Avoids x.slot.area.0 (map made_area made)) seats i s w.areas.beside at

  same-at : {A : Type 0} (f : Seat → A) → f s' ≡ f s → map f (set seats i s') ≡ map f seats
  same-at f h = map-set_same f seats i s' s (h ∙ ap f (sym at.is))

  not-module : 1 ≢ s.slot.area.0
  not-module q = absurd (omega (arith, above))

  not-scrap : 5 ≢ s.slot.area.0
  not-scrap q = absurd (omega (arith, above))

  pub moved-desk : desk_of n (set seats i s') made files kept ≡ with_task s.handle edit before
  unfolding with_task
  moved-desk = same-desk before
      (tasks-edited seats i s s' edit at (handles w) w.areas.slots_apart stay moves.task) (post-stays kept.queue stay not-module) (fixed-stay stay above)
      (mades-stay made stay off) moves.only.pages (scrap-stays kept.scrap stay not-scrap)

  pub moved-areas : HasAreas n (set seats i s') made
  moved-areas = record {
    fixed_open = fixed-opened stay moves.only.opened w.areas.fixed_open;
    module_area = module-stays stay not-module w.areas.module_area;
    slots = slots-edited seats i s s' at w.areas.slots_apart w.areas.slots stay moves.still;
    made_open = mades-opened made stay off w.areas.made_open;
    slots_above = all-set (λ (x : Seat). IsAbove x.slot.area.0) seats i s' w.areas.slots_above (subst IsAbove (sym moves.area) above);
    made_above = w.areas.made_above;
    slots_apart = subst AreDistinct (sym (same-at slot_area moves.area)) w.areas.slots_apart;
    made_apart = w.areas.made_apart;
    beside = all-set (λ (x : Seat). Avoids x.slot.area.0 (map made_area made)) seats i s' w.areas.beside
        (let P : ℕ → Type 0 = λ a. Avoids a (map made_area made) in subst P (sym moves.area) off);
    count = count-stays _ stay (all-at (HasSlot m) seats i s w.areas.slots at).opened moves.only.opened ∙ w.areas.count
        ∙ ap (λ k. 6 + k + length made) (sym (length-set seats i s'));
  }

  pub moved-ledger : n.free + used_pages (desk_of n (set seats i s') made files kept) ≡ n.pages
  unfolding task_of with_task
  moved-ledger =
      let t : Task = task_of m s in
      let old : length (bytes m s.slot.area.0) ≡ PAGE * task_pages t = slot-pages (all-at (HasSlot m) seats i s w.areas.slots at) in
      let new : length (bytes n s'.slot.area.0) ≡ PAGE * task_pages (task_of n s') = slot-pages moves.still in
      let sums = total-edited s.handle edit (map (task_of m) seats) t (handle-first m seats i s at (handles w)) in
      omega (
        arith,
        w.ledger,
        moves.only.ledger,
        moves.only.pages,
        old,
        new,
        sums,
        ap used_pages moved-desk,
        ap task_pages moves.task,
        ap (λ (a : ℕ). length (bytes n a)) moves.area,
      )

  pub moved-world : IsDesk (desk_of n (set seats i s') made files kept) → IsWorld n (set seats i s') made files kept
  moved-world is = record {
    desk = is;
    areas = moved-areas;
    queue = queue-stays stay not-module w.queue;
    scrap = scrap-fits kept.scrap stay not-scrap w.scrap;
    ledger = moved-ledger;
  }

-- ---- the slot of a seat alone

-- a slot has changed in its area
pub record Slid (m n : Memory) (slot : Slot) : Type 0 where
  pub still : IsSlotIn n slot
  pub only : OnlyArea m n slot.area.0

module _ {m : Memory} {seats : List Seat} {made : List MadeArea} {files : FileList} {kept : Kept} {name : List ℕ} {slot : Slot}
    (w : IsWorld m seats made files kept) (o : Owns name seats slot) where
  abbrev pub owner : Seat
  owner = o.seat

  at : Sits seats o.place o.seat
  at = sits o.found

  pub found-named : named name (desk_of m seats made files kept) ≡ Ok (task_of m o.seat)
  found-named = named-is m made files kept o.found

  pub owned : IsSlotIn m slot
  owned = subst (IsSlotIn m) o.slot_is (all-at (HasSlot m) seats o.place o.seat w.areas.slots at)

  module _ {n : Memory} (slid : Slid m n slot) where
    moves : Moves m n o.seat o.seat (λ t. record t { slot = slot_in n slot })
    unfolding task_of
    moves = record {
      handle = refl;
      area = refl;
      still = subst (IsSlotIn n) (sym o.slot_is) slid.still;
      only = (let P : Slot → Type 0 = λ x. OnlyArea m n x.area.0 in subst P (sym o.slot_is) slid.only);
      task = ap (λ (x : Slot). let t : Task = record (task_of m o.seat) { slot = slot_in n x } in t) o.slot_is;
    }

    same : set seats o.place o.seat ≡ seats
    same = set_same seats o.place o.seat at

    pub slid-desk : desk_of n seats made files kept ≡ with_slot o.seat.handle (slot_in n slot) (desk_of m seats made files kept)
    slid-desk = ap (λ (l : List Seat). desk_of n l made files kept) (sym same) ∙ moved-desk w at moves

    pub slid-world : IsDesk (desk_of n seats made files kept) → IsWorld n seats made files kept
    slid-world is =
        let P : List Seat → Type 0 = λ l. IsDesk (desk_of n l made files kept) → IsWorld n l made files kept in
        subst P same (λ k. moved-world w at moves k) is
