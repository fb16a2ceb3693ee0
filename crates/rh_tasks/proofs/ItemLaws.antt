-- What is listed, from what the world keeps.
use Rattle.rh_tasks.proofs.Common.{◌≡◌, ℕ, zero, suc, ◌+◌, ◌-◌, ◌*◌, ◌<◌, ◌≤◌, refl, ap, sym, ◌∙◌, arith, List, [], ◌∷◌, ◌++◌, length, map, Option, Some}
use Rattle.rh_tasks.proofs.Common.{slice_get, AllByRecursion, option_map, get_or, length-append, length-map, slice_get-map, slice_get-get_or, MAX_AREAS}
use Rattle.rh_tasks.proofs.Common.{Memory, bytes, total, FileList, Heap, Segment, Used, Hole, size_of, base, Desk, Task, Made, task_pages, free_pages}
use Rattle.rh_tasks.proofs.Common.{slot_in, Seat, MadeArea, Kept, pages_at, task_of, made_of, fixed_pages, desk_of, HasSlot, IsWorld, cons, few-made, few-seats}
use Rattle.std.specs.List.{enumerate_from}
use Rattle.rh_defs.specs.Heap.{hole_size, largest_hole, largest, free_bytes}
use Rattle.rh_defs.specs.Slot as plain
use Rattle.rh_defs.specs.Desk.{module_pages}
use Rattle.rh_defs.specs.Questions.{area_items, area_item, areas_at}
use Rattle.rh_defs.specs.declared.question.AreaItem.{AreaItem}
use Rattle.rh_defs.specs.declared.question.AreaItem.TheVariants as item
use Rattle.rh_tasks.specs.Inner.ItemsByOwner.{fixed_items, made_items, slot_items, items_in}
use Rattle.rh_tasks.proofs.Posts.{module-length}

-- ---- members of joined lists

pub get-front : {A : Type 0} (xs ys : List A) (i : ℕ) → i < length xs → slice_get (xs ++ ys) i ≡ slice_get xs i
get-front [] ys i inside = absurd (omega arith)
get-front (x ∷ xs) ys zero inside = refl
get-front (x ∷ xs) ys (suc i) inside = get-front xs ys i (omega arith)

pub get-behind : {A : Type 0} (xs ys : List A) (i : ℕ) → length xs ≤ i → slice_get (xs ++ ys) i ≡ slice_get ys (i - length xs)
get-behind [] ys i past = ap (slice_get ys) (omega arith)
get-behind (x ∷ xs) ys zero past = absurd (omega arith)
get-behind (x ∷ xs) ys (suc i) past = get-behind xs ys i (omega arith) ∙ ap (slice_get ys) (omega arith)

pub get-at : {A : Type 0} (xs : List A) (i : ℕ) (x : A) → i < length xs → get_or xs i x ≡ x → slice_get xs i ≡ Some x
get-at xs i x inside is = slice_get-get_or xs i x inside ∙ ap (λ y. Some y) is

-- ---- areas and slots

made-listed : (m : Memory) (made : List MadeArea) → map (λ (x : Made). item.Area x.number x.pages) (map (made_of m) made) ≡ made_items m made
unfolding made_of
made-listed m [] = refl
made-listed m (a ∷ made) = ap (λ l. item.Area a.number (pages_at m a.area.0) ∷ l) (made-listed m made)

pub pages-slot : (m : Memory) (s : Seat) → HasSlot m s → plain.slot_pages (slot_in m s.slot) ≡ pages_at m s.slot.area.0
unfolding pages_at
pages-slot m s has = omega (arith, has.spells.pages)

slots-listed : (m : Memory) (seats : List Seat) → AllByRecursion (HasSlot m) seats
    → map (λ (t : Task). item.Slot t.name (task_pages t)) (map (task_of m) seats) ≡ slot_items m seats
unfolding task_of
slots-listed m [] all = refl
slots-listed m (s ∷ seats) all = cons (ap (λ n. item.Slot s.name n) (pages-slot m s all.0)) (slots-listed m seats all.1)

module _ {m : Memory} {seats : List Seat} {made : List MadeArea} {files : FileList} {kept : Kept} (w : IsWorld m seats made files kept) where
  abbrev d : Desk
  d = desk_of m seats made files kept

  module-pages : module_pages d ≡ pages_at m 1
  unfolding pages_at
  module-pages = omega (arith, module-length w)

  fixed-listed : map (area_item d) (enumerate_from 0 (fixed_pages m)) ≡ fixed_items m
  unfolding fixed_pages
  fixed-listed = ap (λ n. item.Area 0 (pages_at m 0) ∷ item.Area 1 n ∷ item.Area 2 (pages_at m 2) ∷ item.Area 3 (pages_at m 3) ∷ item.Area 4 (pages_at m 4)
      ∷ item.Area 5 (pages_at m 5) ∷ []) module-pages

  pub items-are : area_items d ≡ items_in m seats made
  items-are =
      let p = fixed-listed in
      let q = made-listed m made in
      let r = slots-listed m seats w.areas.slots in
      rw (p, q, r) refl

  pub few-items : length (area_items d) ≤ MAX_AREAS
  few-items =
      rw items-are (omega (
        arith,
        length-append (fixed_items m ++ made_items m made) (slot_items m seats),
        length-append (fixed_items m) (made_items m made),
        length-map made (λ (a : MadeArea). item.Area a.number (pages_at m a.area.0)),
        length-map seats (λ (s : Seat). item.Slot s.name (pages_at m s.slot.area.0)),
        few-made w,
        few-seats w,
      ))

  -- what is told of an item
  pub told : (i : ℕ) {free : ℕ} {x : Option AreaItem} → free ≡ free_pages d → x ≡ slice_get (items_in m seats made) i → (free, x) ≡ areas_at d i
  told i {free} {x} p q = let e : x ≡ slice_get (area_items d) i = q ∙ ap (λ l. slice_get l i) (sym items-are) in cc

made-long : (m : Memory) (made : List MadeArea) → length (fixed_items m ++ made_items m made) ≡ 6 + length made
made-long m made =
    omega (arith, length-append (fixed_items m) (made_items m made), length-map made (λ (a : MadeArea). item.Area a.number (pages_at m a.area.0)))

pub item-made : (m : Memory) (seats : List Seat) (made : List MadeArea) (i : ℕ) (a : MadeArea) → 6 ≤ i → i - 6 < length made → get_or made (i - 6) a ≡ a
    → slice_get (items_in m seats made) i ≡ Some (item.Area a.number (pages_at m a.area.0))
item-made m seats made i a high inside is =
    get-front (fixed_items m ++ made_items m made) (slot_items m seats) i (omega (arith, made-long m made))
    ∙ get-behind (fixed_items m) (made_items m made) i (omega arith)
    ∙ slice_get-map (λ (x : MadeArea). item.Area x.number (pages_at m x.area.0)) made (i - 6)
    ∙ ap (option_map (λ (x : MadeArea). item.Area x.number (pages_at m x.area.0))) (get-at made (i - 6) a inside is)

pub item-slot : (m : Memory) (seats : List Seat) (made : List MadeArea) (i : ℕ) → 6 ≤ i → length made ≤ i - 6
    → slice_get (items_in m seats made) i ≡ slice_get (slot_items m seats) ((i - 6) - length made)
item-slot m seats made i high past =
    get-behind (fixed_items m ++ made_items m made) (slot_items m seats) i (omega (arith, made-long m made))
    ∙ ap (slice_get (slot_items m seats)) (omega (arith, made-long m made))

-- ---- sums are small

pub blocks-weigh : (blocks : List plain.Flex) → 8 * length blocks ≤ total plain.weight blocks
blocks-weigh [] = omega arith
blocks-weigh (b ∷ blocks) = omega (arith, blocks-weigh blocks)

holes-fit : (segments : List Segment) → total hole_size segments ≤ total size_of segments
holes-fit [] = omega arith
holes-fit (Used bytes ∷ segments) = omega (arith, holes-fit segments)
holes-fit (Hole size ∷ segments) = omega (arith, holes-fit segments)

largest-fits : (segments : List Segment) → largest_hole segments ≤ total size_of segments
largest-fits [] = omega arith
largest-fits (Used bytes ∷ segments) = omega (arith, largest-fits segments)
largest-fits (Hole size ∷ segments) = omega (arith, largest-fits segments)

pub largest-small : (h : Heap) → base h ≤ h.end → largest h ≤ h.end
largest-small h fits = omega (arith, largest-fits h.segments, fits)

pub free-small : (h : Heap) → base h ≤ h.end → free_bytes h ≤ h.end
free-small h fits = omega (arith, holes-fit h.segments, fits)
