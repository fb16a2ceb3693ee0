-- A fresh store whose first areas are opened one after the other.
use Rattle.rh_tasks.proofs.Common.{◌≡◌, ◌≢◌, ℕ, ◌+◌, ◌/◌, ◌<◌, ◌≤◌, refl, ap, sym, subst, ◌∙◌, arith, List, [], length, inl, inr, Option, Some, None, IsNone}
use Rattle.rh_tasks.proofs.Common.{IsSome, IsOk, IsErr, Ok, Err, Result, ◌↔◌, unwrap_or, cases_eq, Memory, IsOpen, OnlyArea, bytes, opened, grown, open_below}
use Rattle.rh_tasks.proofs.Common.{Heap, empty_heap, page_size, open_below-opened, area-opened, OnlyArea-grown, length-grown, MAX_AREAS, PAGE, IsModule}
use Rattle.rh_tasks.proofs.Common.{module_heap_in}
use Rattle.rh_tasks.proofs.Common.{the_module, pages_at, Stay, pages-stay, count-stays}
use Rattle.rh_defs.specs.Memory.{fresh}
use Rattle.rh_defs.proofs.MemoryLaws.{area-fresh, free-fresh, pages-fresh, open_below-fresh, area-opened_same, free-opened, pages-opened, OnlyArea-both}
use Rattle.rh_tasks.specs.Inner.Start.{IsFurnished}
use Rattle.rh_tasks.proofs.Frames.{opened-stays}

-- the areas below a number are open, with no page, and no other
pub record AreOpened (m : Memory) (k pages : ℕ) : Type 0 where
  pub below : (j : ℕ) → j < k → m.area j ≡ Some []
  pub above : (j : ℕ) → k ≤ j → m.area j ≡ None
  pub count : open_below m.area MAX_AREAS ≡ k
  pub free : m.free ≡ pages
  pub pages_are : m.pages ≡ pages

pub none-opened : (m : Memory) (pages : ℕ) → m ≡ fresh pages → AreOpened m 0 pages
none-opened m pages is =
    let P : Memory → Type 0 = λ x. AreOpened x 0 pages in
    subst P (sym is) (record {
      below = λ j h. absurd (omega (arith, h));
      above = λ j h. area-fresh pages j;
      count = open_below-fresh pages MAX_AREAS;
      free = free-fresh pages;
      pages_are = pages-fresh pages;
    })

some-none : (x : List ℕ) → IsNone (Some x) → ⊥
some-none x h = cc

none-some : (x : Option (List ℕ)) → x ≡ None → IsSome x → ⊥
none-some None e h = cc
none-some (Some x) e h = cc

-- the area that is opened next is the least one that is closed
next-is : (m : Memory) (k pages id : ℕ) → AreOpened m k pages → IsNone (m.area id) → ((j : ℕ) → j < id → IsOpen m j) → id ≡ k
next-is m k pages id o none least =
    let under : id < k → ⊥ = λ h. some-none [] (let P : Option (List ℕ) → Type 0 = λ x. IsNone x in subst P (o.below id h) none) in
    let over : k < id → ⊥ = λ h. none-some (m.area k) (o.above k (omega arith)) (least k h) in
    omega (arith, under, over)

pub next-opened : (m n : Memory) (k pages id : ℕ) → AreOpened m k pages → k < MAX_AREAS → IsNone (m.area id) → n ≡ opened m id
    → ((j : ℕ) → j < id → IsOpen m j) → AreOpened n (k + 1) pages
next-opened m n k pages id o low none is least =
    let e : id ≡ k = next-is m k pages id o none least in
    let P : Memory → Type 0 = λ x. AreOpened x (k + 1) pages in
    subst P (sym (is ∙ ap (opened m) e)) (record {
      below = λ j h. elim (cases_eq j k) [
        | inl q ↦ ap (λ i. (opened m k).area i) q ∙ area-opened_same m k
        | inr ne ↦ area-opened m k j ne
            ∙ o.below j (omega (arith, h, ne))
      ];
      above = λ j h. area-opened m k j (λ q. absurd (omega (arith, q, h))) ∙ o.above j (omega arith);
      count = open_below-opened m k MAX_AREAS (o.above k (omega arith)) low ∙ omega (arith, o.count);
      free = free-opened m k ∙ o.free;
      pages_are = pages-opened m k ∙ o.pages_are;
    })

-- where not all areas are open, one can be opened
pub opens : {A E : Type 0} (r : Result A E) (count : ℕ) → (IsErr r ↔ (count ≡ MAX_AREAS)) → count < MAX_AREAS → IsOk r
opens (Ok x) count h low = refl
opens (Err e) count h low = absurd (let q = h.0 refl in omega arith)

-- ---- the module area's page

pub six-opened : (m : Memory) (k pages : ℕ) → AreOpened m k pages → k ≤ 6 → 6 ≤ k → AreOpened m 6 pages
six-opened m k pages o low high = let P : ℕ → Type 0 = λ x. AreOpened m x pages in subst P (omega (arith, low, high)) o

module _ {m : Memory} {pages : ℕ} (o : AreOpened m 6 pages) where
  pub open-at : (k : ℕ) → k < 6 → IsOpen m k
  open-at k low = let P : Option (List ℕ) → Type 0 = λ x. IsSome x in subst P (sym (o.below k low)) refl

  empty-at : (k : ℕ) → k < 6 → bytes m k ≡ []
  unfolding bytes
  empty-at k low = ap (λ (x : Option (List ℕ)). unwrap_or x []) (o.below k low)

module _ {m n : Memory} {pages : ℕ} (o : AreOpened m 6 pages) (least : 1 ≤ pages) (is : n ≡ grown m 1 1) where
  taken : OnlyArea m n 1
  taken = let P : Memory → Type 0 = λ x. OnlyArea m x 1 in subst P (sym is) (OnlyArea-grown m 1 1 (omega (arith, o.free, least)))

  -- one page of zeros
  pub page-long : length (bytes n 1) ≡ PAGE
  page-long = ap (λ x. length (bytes x 1)) is ∙ length-grown m 1 1 ∙ omega (arith, ap length (empty-at o 1 (omega arith)))

  pub page-open : IsOpen n 1
  page-open = taken.opened

  module _ {p : Memory} (only : OnlyArea n p 1) (still : IsModule p the_module) (heap : module_heap_in p the_module ≡ empty_heap page_size) where
    all : OnlyArea m p 1
    all = OnlyArea-both m n p 1 taken only

    stay : Stay m p 1
    stay = record { others = all.others }

    none-at : (k : ℕ) → k < 6 → k ≢ 1 → pages_at p k ≡ 0
    unfolding pages_at
    none-at k low ne = pages-stay k stay ne ∙ ap (λ (b : List ℕ). length b / PAGE) (empty-at o k low)

    pub furnished : IsFurnished p pages
    furnished = record {
      opened = (
        opened-stays 0 stay (λ q. absurd (omega arith)) (open-at o 0 (omega arith)),
        (
          all.opened,
          (
            opened-stays 2 stay (λ q. absurd (omega arith)) (open-at o 2 (omega arith)),
            (
              opened-stays 3 stay (λ q. absurd (omega arith)) (open-at o 3 (omega arith)),
              (
                opened-stays 4 stay (λ q. absurd (omega arith)) (open-at o 4 (omega arith)),
                (opened-stays 5 stay (λ q. absurd (omega arith)) (open-at o 5 (omega arith)), tt),
              ),
            ),
          ),
        ),
      );
      count = count-stays MAX_AREAS stay (open-at o 1 (omega arith)) all.opened ∙ o.count;
      module_area = still;
      heap = heap;
      zero = none-at 0 (omega arith) (λ q. absurd (omega arith));
      two = none-at 2 (omega arith) (λ q. absurd (omega arith));
      three = none-at 3 (omega arith) (λ q. absurd (omega arith));
      four = none-at 4 (omega arith) (λ q. absurd (omega arith));
      five = none-at 5 (omega arith) (λ q. absurd (omega arith));
      free = omega (arith, all.ledger, still.spells.whole, ap (λ (h : Heap). h.end) heap, o.free, ap length (empty-at o 1 (omega arith)));
      pages_are = all.pages ∙ o.pages_are;
    }
