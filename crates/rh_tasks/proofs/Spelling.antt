-- The store's bytes and lengths spell the desk.
use Rattle.rh_tasks.proofs.Common.{◌≡◌, ◌≢◌, ℕ, suc, ◌*◌, ◌%◌, ◌<◌, refl, ap, sym, subst, arith, List, [], ◌∷◌, length, map, take, Option, Some, None}
use Rattle.rh_tasks.proofs.Common.{AllByRecursion, PAGE, Memory, bytes, page_size, total, FileList, Task, Made, task_pages, module_start, Heap, module_heap_in}
use Rattle.rh_tasks.proofs.Common.{Parcel}
use Rattle.rh_tasks.proofs.Common.{ScrapFile, Seat, MadeArea, Shown, Kept, the_module, scrap_size, scrap_of, pages_at, task_of, made_of, fixed_pages}
use Rattle.rh_tasks.proofs.Common.{shown_of, HasSlot, IsWorld, free-is}
use Rattle.std.specs.List.{enumerate_from}
use Rattle.rh_defs.specs.Slot as plain
use Rattle.rh_defs.specs.Spans.{AreLaidOut, slot_spans, module_spans}
use Rattle.rh_defs.specs.Laws as laws
use Rattle.rh_defs.proofs.Spaced.{apart-of}
use Rattle.rh_wimp.specs.Chains.{SeatRow, AllLie, Apart, Clear, row_at, row_parcels, rows_of}
use Rattle.rh_wimp.specs.PostIn.{parcels_of}
use Rattle.rh_wimp.proofs.LinkLaws.{AllLie-append}
use Rattle.rh_wimp.proofs.PostInLaws.{rows-unlinked}
use Rattle.rh_wimp.proofs.RowLaws.{Apart-append, Clear-behind}
use Rattle.rh_tasks.specs.Shown.{scrap_bytes, SpellsPost, SpellSlots, IsSpelled, length_of_area, ShowsBalance, LieApart, ShowsApartBlocks}
use Rattle.rh_tasks.proofs.Posts.{is-post, module-length}
use Rattle.rh_tasks.proofs.Fixed.{pages-of}

-- each area is whole pages
pub record AreWhole (m : Memory) : Type 0 where
  pub each : (id : ℕ) → length (bytes m id) % PAGE ≡ 0

spell-slots : (m : Memory) (seats : List Seat) → AllByRecursion (HasSlot m) seats
    → SpellSlots (map (λ (s : Seat). bytes m s.slot.area.0) seats) (map (task_of m) seats)
unfolding task_of
spell-slots m [] all = tt
spell-slots m (s ∷ seats) all = (all.0.spells, spell-slots m seats all.1)

apart-slots : (m : Memory) (seats : List Seat) → AllByRecursion (HasSlot m) seats
    → AllByRecursion (λ (t : Task). AreLaidOut plain.slot_start (page_size * plain.slot_pages t.slot) (slot_spans t.slot)) (map (task_of m) seats)
    → LieApart (map (λ (s : Seat). bytes m s.slot.area.0) seats) (map (task_of m) seats)
unfolding task_of
apart-slots m [] all apart = tt
apart-slots m (s ∷ seats) all apart = (
  let P : ℕ → Type 0 = λ n. AreLaidOut plain.slot_start n (slot_spans (task_of m s).slot) in subst P (sym all.0.spells.pages) apart.0,
  apart-slots m seats all.1 apart.1,
)

made-lengths : (m : Memory) → AreWhole m → (made : List MadeArea)
    → map (λ (a : MadeArea). length (bytes m a.area.0)) made ≡ map (λ (x : Made). page_size * x.pages) (map (made_of m) made)
unfolding made_of
made-lengths m whole [] = refl
made-lengths m whole (a ∷ made) =
    let here : length (bytes m a.area.0) ≡ page_size * pages_at m a.area.0 = sym (pages-of m a.area.0 (whole.each a.area.0)) in
    let there = made-lengths m whole made in
    cc

six : {a b c d e f a' b' c' d' e' f' : ℕ} → a ≡ a' → b ≡ b' → c ≡ c' → d ≡ d' → e ≡ e' → f ≡ f' → a ∷ b ∷ c ∷ d ∷ e ∷ f ∷ [] ≡ a' ∷ b' ∷ c' ∷ d' ∷ e' ∷ f' ∷ []
six p q r s t u = cc

slot-lengths : (m : Memory) (seats : List Seat) → AllByRecursion (HasSlot m) seats
    → total length (map (λ (s : Seat). bytes m s.slot.area.0) seats) ≡ PAGE * total task_pages (map (task_of m) seats)
unfolding task_of
slot-lengths m [] all = refl
slot-lengths m (s ∷ seats) all = omega (arith, all.0.spells.pages, slot-lengths m seats all.1)

-- the messages' blocks, row by row
all-lie : (h : Heap) (rows : List SeatRow) → ((i : ℕ) → i < length rows → AllLie h (row_parcels (row_at rows i))) → AllLie h (parcels_of rows)
all-lie h [] each = tt
all-lie h (r ∷ rows) each = AllLie-append h (row_parcels r) (parcels_of rows) (each 0 (omega arith)) (all-lie h rows (λ i inside. each (suc i) (omega arith)))

-- no two messages lie in one block, be they in one row or in two
clear-none : (ps : List Parcel) → Clear ps []
clear-none [] = tt
clear-none (p ∷ ps) = (tt, clear-none ps)

clear-of : (ps : List Parcel) (rows : List SeatRow) → ((i : ℕ) → i < length rows → Clear ps (row_parcels (row_at rows i))) → Clear ps (parcels_of rows)
clear-of ps [] each = clear-none ps
clear-of ps (r ∷ rows) each =
    Clear-behind ps (row_parcels r) (parcels_of rows) (each 0 (omega arith)) (clear-of ps rows (λ i inside. each (suc i) (omega arith)))

all-apart : (rows : List SeatRow) → ((i : ℕ) → i < length rows → Apart (row_parcels (row_at rows i)))
    → ((i j : ℕ) → i < length rows → j < length rows → i ≢ j → Clear (row_parcels (row_at rows i)) (row_parcels (row_at rows j)))
    → Apart (parcels_of rows)
all-apart [] own cross = tt
all-apart (r ∷ rows) own cross =
    Apart-append (row_parcels r) (parcels_of rows) (own 0 (omega arith))
    (all-apart rows (λ i inside. own (suc i) (omega arith)) (λ i j a b other. cross (suc i) (suc j) (omega arith) (omega arith)
    (λ e. other (omega (arith, e)))))
    (clear-of (row_parcels r) rows (λ i inside. cross 0 (suc i) (omega arith) (omega arith) (λ e. absurd (omega (arith, e)))))

scrap-spelled : (m : Memory) (scrap : Option ScrapFile) → take (scrap_size scrap) (bytes m 5) ≡ scrap_bytes (scrap_of m scrap)
unfolding scrap_of
scrap-spelled m None = refl
scrap-spelled m (Some file) = refl

made-sum : (made : List Made) → total (λ n. n) (map (λ (x : Made). page_size * x.pages) made) ≡ PAGE * total (λ (x : Made). x.pages) made
made-sum [] = refl
made-sum (x ∷ made) = omega (arith, made-sum made)

module _ {m : Memory} {seats : List Seat} {made : List MadeArea} {files : FileList} {kept : Kept} (w : IsWorld m seats made files kept)
    (whole : AreWhole m) where
  abbrev s : Shown
  s = shown_of m seats made files kept

  of : (id : ℕ) → length (bytes m id) ≡ PAGE * pages_at m id
  of id = sym (pages-of m id (whole.each id))

  areas-are : s.areas ≡ map (length_of_area s.desk) (enumerate_from 0 (fixed_pages m))
  unfolding fixed_pages
  areas-are = six (of 0) (sym (module-length w)) (of 2) (of 3) (of 4) (of 5)

  module-spelled : SpellsPost (bytes m 1) s.desk.post
  module-spelled =
      let is = is-post w in record {
        heap = module_heap_in m the_module;
        spelled = w.areas.module_area.spells;
        but_links = rows-unlinked (module_heap_in m the_module) s.desk.post.heap kept.queue.entries (rows_of s.desk.post) is.rows is.linked;
        messages = all-lie s.desk.post.heap (rows_of s.desk.post) is.linked.lie;
        apart = all-apart (rows_of s.desk.post) is.rows.own is.rows.cross;
      }

  pub is-spelled : IsSpelled s
  is-spelled = record {
    module_area = module-spelled;
    slots = spell-slots m seats w.areas.slots;
    areas = areas-are;
    made = made-lengths m whole made;
    scrap = scrap-spelled m kept.scrap;
    free = sym (free-is w);
  }

  pub is-apart : ShowsApartBlocks s
  is-apart =
      let apart : laws.HasApartBlocks s.desk = apart-of s.desk w.desk in record {
        slots = apart-slots m seats w.areas.slots apart.slots;
        module_area = (let P : ℕ → Type 0 = λ n. AreLaidOut module_start n (module_spans s.desk.post.heap) in subst P (module-length w) apart.module_area);
      }

  pub is-balanced : ShowsBalance s
  unfolding fixed_pages
  is-balanced =
      omega (
        arith,
        w.ledger,
        module-length w,
        of 0,
        of 2,
        of 3,
        of 4,
        of 5,
        slot-lengths m seats w.areas.slots,
        made-sum (map (made_of m) made),
        ap (total (λ n. n)) (made-lengths m whole made),
      )
