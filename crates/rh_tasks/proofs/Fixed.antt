-- A world in which one of areas 0 to 5 has changed.
use Rattle.rh_tasks.proofs.Common.{◌≡◌, ℕ, zero, suc, ◌+◌, ◌*◌, ◌%◌, ◌<◌, ◌≤◌, ◌≢◌, inl, inr, refl, ap, subst, arith, List, [], ◌∷◌, length, ◌∙◌, sym, take}
use Rattle.rh_tasks.proofs.Common.{slice_index, slice_set, cases_eq, PAGE, Memory, IsOpen, OnlyArea, bytes, total, FileList, Heap, Post, Desk, used_pages}
use Rattle.rh_tasks.proofs.Common.{IsDesk, IsModule, IsQueue, post_in, Seat, MadeArea, Kept, the_module, pages_at, fixed_pages, scrap_size, scrap_of, desk_of}
use Rattle.rh_tasks.proofs.Common.{slot_area, made_area, HasAreas, IsWorld, avoids-below, Stay, pages-stay, tasks-stay, slots-stay, mades-stay, mades-opened}
use Rattle.rh_tasks.proofs.Common.{fixed-opened, post-stays, queue-stays, scrap-stays, scrap-fits, module-stays, count-stays, same-desk, AllByRecursion, fixed}
use Rattle.rh_defs.specs.Desk.{with_module}
use Rattle.rh_wimp.specs.QueueLaws.{post_with_heap}
use Rattle.rh_tasks.proofs.Frames.{scrap-same}
use Rattle.rh_tasks.proofs.Posts.{end-is, module-length}

-- a number of the list set
pub total-set : (ns : List ℕ) (k v : ℕ) → k < length ns → total (λ n. n) (slice_set ns k v) + slice_index ns k ≡ total (λ n. n) ns + v
total-set [] k v inside = absurd (omega arith)
total-set (n ∷ ns) zero v inside = omega arith
total-set (n ∷ ns) (suc k) v inside = omega (arith, total-set ns k v (omega arith))

-- the pages of areas 0 and 2 to 5 are listed
pub fixed-at : (m : Memory) (k : ℕ) → k < 6 → k ≢ 1 → slice_index (fixed_pages m) k ≡ pages_at m k
unfolding fixed_pages
fixed-at m zero low ne = refl
fixed-at m (suc zero) low ne = absurd (ne refl)
fixed-at m (suc (suc zero)) low ne = refl
fixed-at m (suc (suc (suc zero))) low ne = refl
fixed-at m (suc (suc (suc (suc zero)))) low ne = refl
fixed-at m (suc (suc (suc (suc (suc zero))))) low ne = refl
fixed-at m (suc (suc (suc (suc (suc (suc k)))))) low ne = absurd (omega arith)

pub length-fixed : (m : Memory) → length (fixed_pages m) ≡ 6
unfolding fixed_pages
length-fixed m = refl

listed : {a b c d e a' b' c' d' e' : ℕ} → a ≡ a' → b ≡ b' → c ≡ c' → d ≡ d' → e ≡ e' → a ∷ 0 ∷ b ∷ c ∷ d ∷ e ∷ [] ≡ a' ∷ 0 ∷ b' ∷ c' ∷ d' ∷ e' ∷ []
listed p q r s t = cc

fixed-set : {m n : Memory} (k : ℕ) → Stay m n k → k < 6 → k ≢ 1 → fixed_pages n ≡ slice_set (fixed_pages m) k (pages_at n k)
unfolding fixed_pages
fixed-set zero stay low ne = listed refl (pages-stay 2 stay (λ q. absurd (omega arith))) (pages-stay 3 stay (λ q. absurd (omega arith)))
    (pages-stay 4 stay (λ q. absurd (omega arith))) (pages-stay 5 stay (λ q. absurd (omega arith)))
fixed-set (suc zero) stay low ne = absurd (ne refl)
fixed-set (suc (suc zero)) stay low ne = listed (pages-stay 0 stay (λ q. absurd (omega arith))) refl (pages-stay 3 stay (λ q. absurd (omega arith)))
    (pages-stay 4 stay (λ q. absurd (omega arith))) (pages-stay 5 stay (λ q. absurd (omega arith)))
fixed-set (suc (suc (suc zero))) stay low ne = listed (pages-stay 0 stay (λ q. absurd (omega arith))) (pages-stay 2 stay (λ q. absurd (omega arith))) refl
    (pages-stay 4 stay (λ q. absurd (omega arith))) (pages-stay 5 stay (λ q. absurd (omega arith)))
fixed-set (suc (suc (suc (suc zero)))) stay low ne = listed (pages-stay 0 stay (λ q. absurd (omega arith))) (pages-stay 2 stay (λ q. absurd (omega arith)))
    (pages-stay 3 stay (λ q. absurd (omega arith))) refl (pages-stay 5 stay (λ q. absurd (omega arith)))
fixed-set (suc (suc (suc (suc (suc zero))))) stay low ne = listed (pages-stay 0 stay (λ q. absurd (omega arith)))
    (pages-stay 2 stay (λ q. absurd (omega arith))) (pages-stay 3 stay (λ q. absurd (omega arith))) (pages-stay 4 stay (λ q. absurd (omega arith))) refl
fixed-set (suc (suc (suc (suc (suc (suc k)))))) stay low ne = absurd (omega arith)

-- all but the module area's change
pub fixed-rest : {m n : Memory} → Stay m n 1 → fixed_pages n ≡ fixed_pages m
unfolding fixed_pages
fixed-rest stay = listed (pages-stay 0 stay (λ q. absurd (omega arith))) (pages-stay 2 stay (λ q. absurd (omega arith)))
    (pages-stay 3 stay (λ q. absurd (omega arith))) (pages-stay 4 stay (λ q. absurd (omega arith))) (pages-stay 5 stay (λ q. absurd (omega arith)))

-- one of areas 0 to 5 is open
open-of : (m : Memory) (k : ℕ) → k < 6 → AllByRecursion (IsOpen m) fixed → IsOpen m k
open-of m zero low (zeroth, rest) = zeroth
open-of m (suc zero) low (zeroth, (first, rest)) = first
open-of m (suc (suc zero)) low (zeroth, (first, (second, rest))) = second
open-of m (suc (suc (suc zero))) low (zeroth, (first, (second, (third, rest)))) = third
open-of m (suc (suc (suc (suc zero)))) low (zeroth, (first, (second, (third, (fourth, rest))))) = fourth
open-of m (suc (suc (suc (suc (suc zero))))) low (zeroth, (first, (second, (third, (fourth, (fifth, rest)))))) = fifth
open-of m (suc (suc (suc (suc (suc (suc k)))))) low all = absurd (omega arith)

pub fixed-open : {m : Memory} {seats : List Seat} {made : List MadeArea} (k : ℕ) → HasAreas m seats made → k < 6 → IsOpen m k
fixed-open {m} k w low = open-of m k low w.fixed_open

-- pages are told by lengths that are whole pages
pub pages-of : (m : Memory) (id : ℕ) → length (bytes m id) % PAGE ≡ 0 → PAGE * pages_at m id ≡ length (bytes m id)
unfolding pages_at
pages-of m id whole = omega arith

-- of areas 0 to 5 one has changed, and the module area is one still
pub changed-areas : {m n : Memory} {seats : List Seat} {made : List MadeArea} {k : ℕ} → HasAreas m seats made → k < 6 → OnlyArea m n k
    → IsModule n the_module → HasAreas n seats made
changed-areas {m} {n} {seats} {made} {k} areas low only is =
    let stay : Stay m n k = record { others = only.others } in record {
      fixed_open = fixed-opened stay only.opened areas.fixed_open;
      module_area = is;
      slots = slots-stay seats stay (avoids-below slot_area 6 k seats low areas.slots_above) areas.slots;
      made_open = mades-opened made stay (avoids-below made_area 6 k made low areas.made_above) areas.made_open;
      slots_above = areas.slots_above;
      made_above = areas.made_above;
      slots_apart = areas.slots_apart;
      made_apart = areas.made_apart;
      beside = areas.beside;
      count = count-stays _ stay (fixed-open k areas low) only.opened ∙ areas.count;
    }

-- the first bytes that an area keeps, where it has so many before and after
pub record KeepsFirst (m n : Memory) (id : ℕ) : Type 0 where
  pub first : (k : ℕ) → k ≤ length (bytes m id) → k ≤ length (bytes n id) → take k (bytes n id) ≡ take k (bytes m id)

module _ {m n : Memory} {seats : List Seat} {made : List MadeArea} {files : FileList} {kept : Kept} {k : ℕ}
    (w : IsWorld m seats made files kept) (low : k < 6) (only : OnlyArea m n k) (ne : k ≢ 1)
    (keeps : KeepsFirst m n k) (fits : scrap_size kept.scrap ≤ length (bytes n 5))
    (whole_before : length (bytes m k) % PAGE ≡ 0) (whole_after : length (bytes n k) % PAGE ≡ 0) where
  stay : Stay m n k
  stay = record { others = only.others }

  scrap-is : scrap_of n kept.scrap ≡ scrap_of m kept.scrap
  scrap-is = elim (cases_eq 5 k) [
    | inl e ↦ scrap-same m n kept.scrap (let P : ℕ → Type 0 = λ j. KeepsFirst m n j in (subst P (sym e) keeps).first (scrap_size kept.scrap) w.scrap fits)
    | inr other ↦ scrap-stays kept.scrap stay other
  ]

  pub fixed-desk : desk_of n seats made files kept ≡ (let d : Desk = record (desk_of m seats made files kept)
      { areas = slice_set (fixed_pages m) k (pages_at n k) } in d)
  fixed-desk = same-desk (desk_of m seats made files kept)
      (tasks-stay seats stay (avoids-below slot_area 6 k seats low w.areas.slots_above)) (post-stays kept.queue stay (λ q. ne (sym q)))
      (fixed-set k stay low ne)
      (mades-stay made stay (avoids-below made_area 6 k made low w.areas.made_above)) only.pages scrap-is

  fixed-ledger : n.free + used_pages (desk_of n seats made files kept) ≡ n.pages
  fixed-ledger = omega (
    arith,
    w.ledger,
    only.ledger,
    only.pages,
    ap used_pages fixed-desk,
    total-set (fixed_pages m) k (pages_at n k) (rw length-fixed low),
    fixed-at m k low ne,
    pages-of m k whole_before,
    pages-of n k whole_after,
  )

  pub fixed-world : IsDesk (desk_of n seats made files kept) → IsWorld n seats made files kept
  fixed-world is = record {
    desk = is;
    areas = changed-areas w.areas low only (module-stays stay (λ q. ne (sym q)) w.areas.module_area);
    queue = queue-stays stay (λ q. ne (sym q)) w.queue;
    scrap = fits;
    ledger = fixed-ledger;
  }

-- the module area, beside whose messages a heap has changed
module _ {m n : Memory} {seats : List Seat} {made : List MadeArea} {files : FileList} {kept : Kept} {h : Heap}
    (w : IsWorld m seats made files kept) (only : OnlyArea m n 1) (is : IsQueue n the_module kept.queue)
    (same : post_in n the_module kept.queue ≡ post_with_heap h (post_in m the_module kept.queue)) where
  around : Stay m n 1
  around = record { others = only.others }

  pub module-desk : desk_of n seats made files kept ≡ with_module h (desk_of m seats made files kept)
  module-desk = same-desk (desk_of m seats made files kept)
      (tasks-stay seats around (avoids-below slot_area 6 1 seats (omega arith) w.areas.slots_above)) same (fixed-rest around)
      (mades-stay made around (avoids-below made_area 6 1 made (omega arith) w.areas.made_above)) only.pages
      (scrap-stays kept.scrap around (λ q. absurd (omega arith)))

  module-ledger : length (bytes n 1) % PAGE ≡ 0 → n.free + used_pages (desk_of n seats made files kept) ≡ n.pages
  module-ledger whole_after =
      let ends : h.end ≡ length (bytes n 1) = sym (ap (λ (p : Post). p.heap.end) same) ∙ end-is n kept.queue ∙ sym is.area.spells.whole in
      omega (arith, w.ledger, only.ledger, only.pages, ap used_pages module-desk, module-length w, ends, whole_after)

  pub module-world : length (bytes n 1) % PAGE ≡ 0 → IsDesk (desk_of n seats made files kept) → IsWorld n seats made files kept
  module-world whole_after d = record {
    desk = d;
    areas = changed-areas w.areas (omega arith) only is.area;
    queue = is;
    scrap = scrap-fits kept.scrap around (λ q. absurd (omega arith)) w.scrap;
    ledger = module-ledger whole_after;
  }
