-- Where the code finds a part of one page of a store, and what a write there does to the store.
use Rattle.rh_pages.proofs.Common.{◌≡◌, ℕ, ◌+◌, ◌-◌, ◌*◌, ◌/◌, ◌%◌, ◌<◌, ◌≤◌, List, [], ◌∷◌, length, get_or, map, zero, suc, refl}
use Rattle.rh_pages.proofs.Common.{inl, inr, sym, ap, ap₂, subst, ◌∙◌, arith, cases_lt, lit≤, get_or-take}
use Rattle.rh_pages.proofs.Common.{MAX_AREAS, PAGE, part, with_part, IsOpen, bytes, with_bytes, PagedStore, areas_in, paged_bytes, free_in, list_at}
use Rattle.rh_pages.proofs.Common.{paged_memory_in}
use Rattle.rh_pages.proofs.Common.{IsPagedStore, paged_memory, region_of, pages_of, free_of, paged_numbered_law, LISTS, lists_of}
use Rattle.rh_defs.specs.declared.sizes.TheConstants.{MAX_PAGES}
use Rattle.rh_pages.specs.Inner.Spots.{spot_in}
use Rattle.rh_pages.specs.Paged.{free_numbers_of, numbers_of, place_of, pool_number}
use Rattle.rh_pages.proofs.Spots.{Spot, spot, length_are, page_below, bytes_are}
use Rattle.std.proofs.lemmas.List.{get_or-map}
use Rattle.rh_pages.proofs.Chunks.{bytes_read, stands}
use Rattle.rh_pages.proofs.Counts.{apart}

-- all lists of a store's table
abbrev pub table_of : {G : _} {d : _} → PagedStore G d → List (List ℕ)
table_of {G} {d} s = lists_of (d.numbers s.site) s.table

pub area_below : {G : _} {d : _} (s : PagedStore G d) (id : ℕ) → IsOpen (paged_memory s) id → id < LISTS
area_below s id o = let h = paged_numbered_law s id o in omega arith

-- a page list as the code reads it
pub list_read : {G : _} {d : _} (s : PagedStore G d) (id : ℕ) → IsOpen (paged_memory s) id → list_at (table_of s) id ≡ list_at (pages_of s) id
list_read s id o = sym (get_or-take MAX_AREAS (table_of s) id [] (paged_numbered_law s id o))

pub number_read : {G : _} {d : _} (s : PagedStore G d) (id i k : ℕ) → IsOpen (paged_memory s) id → k ≡ get_or (list_at (table_of s) id) i 0
    → k ≡ get_or (list_at (pages_of s) id) i 0
number_read s id i k o e = e ∙ ap (λ l. get_or l i 0) (list_read s id o)

pub area_long : {G : _} {d : _} (s : PagedStore G d) (id : ℕ) → IsOpen (paged_memory s) id
    → length (bytes (paged_memory s) id) ≡ PAGE * length (list_at (pages_of s) id)
unfolding paged_memory
area_long s id o = length_are (region_of s) (pages_of s) s.opened (free_of s) s.table.room MAX_AREAS s.kept id o

pub table_long : {G : _} {d : _} (s : PagedStore G d) (id : ℕ) → IsOpen (paged_memory s) id
    → length (bytes (paged_memory s) id) ≡ PAGE * length (list_at (table_of s) id)
table_long s id o = let e = ap length (list_read s id o) in let long = area_long s id o in omega arith

-- a page of an area is one of the ground
pub page_in : {G : _} {d : _} (s : PagedStore G d) (id i k : ℕ) → IsOpen (paged_memory s) id → PAGE * i < length (bytes (paged_memory s) id)
    → k ≡ get_or (list_at (pages_of s) id) i 0 → k < s.table.room
page_in s id i k o inside e =
    let long = area_long s id o in
    let low = page_below (region_of s) (pages_of s) s.opened (free_of s) s.table.room MAX_AREAS s.kept id i (omega arith) in omega arith

-- a free page is one
pub free_page_in : {G : _} {d : _} (s : PagedStore G d) (i k : ℕ) → i < length (free_of s) → k ≡ get_or (free_of s) i 0 → k < s.table.room
free_page_in s i k lt e = elim (cases_lt k s.table.room) [
  | inl h ↦ h
  | inr h ↦ absurd (let none = s.kept.below k h in let there = stands k (free_of s) i lt (sym e) in omega arith)
]

numbers_listed : (f : ℕ → ℕ) (lists : List (List ℕ)) (id : ℕ) → get_or (map (map f) lists) id [] ≡ map f (get_or lists id [])
numbers_listed f [] id = refl
numbers_listed f (xs ∷ lists) zero = refl
numbers_listed f (xs ∷ lists) (suc id) = numbers_listed f lists id

-- the number of a page in the pool, as the code reads it
pub numbered : {G : _} {d : _} (s : PagedStore G d) (id i k room : ℕ) → i < length (list_at (pages_of s) id) → room ≡ s.table.room
    → k ≡ get_or (list_at (pages_of s) id) i 0 → room - 1 - k ≡ get_or (get_or (numbers_of s) id []) i 0
numbered s id i k room lt same is =
    ap₂ (λ r n. r - 1 - n) same is ∙ sym (get_or-map (pool_number s.table.room) (list_at (pages_of s) id) i 0 0 lt)
    ∙ ap (λ l. get_or l i 0) (sym (numbers_listed (pool_number s.table.room) (pages_of s) id))

pub free_numbered : {G : _} {d : _} (s : PagedStore G d) (i k room : ℕ) → i < length (free_of s) → room ≡ s.table.room → k ≡ get_or (free_of s) i 0
    → room - 1 - k ≡ get_or (free_numbers_of s) i 0
free_numbered s i k room lt same is =
    ap₂ (λ r n. r - 1 - n) same is ∙ sym (get_or-map (pool_number s.table.room) (free_of s) i 0 0 lt)

pub record Seat {G : _} {d : _} (s : PagedStore G d) (id at n p : ℕ) : Type 0 where
  pub within : p + n ≤ length (region_of s)
  pub read : part (region_of s) p n ≡ part (bytes (paged_memory s) id) at n
  pub kept : (r numbers ws : List ℕ) → r ≡ with_part (region_of s) p ws → numbers ≡ d.numbers s.site → length ws ≡ n
      → IsPagedStore r (areas_in (lists_of numbers s.table)) s.opened (free_in (lists_of numbers s.table)) s.table.room MAX_AREAS
  pub memory : (r numbers ws : List ℕ) → r ≡ with_part (region_of s) p ws → numbers ≡ d.numbers s.site → length ws ≡ n
      → paged_memory_in r (areas_in (lists_of numbers s.table)) s.opened (free_in (lists_of numbers s.table)) s.table.room ≡ with_bytes (paged_memory s) id
      (with_part (bytes (paged_memory s) id) at ws)

-- a row of as many numbers is long enough
pub still_long : {G : _} {d : _} (s : PagedStore G d) (numbers : List ℕ) → numbers ≡ d.numbers s.site → LISTS * s.table.room ≤ length numbers
still_long s numbers e = omega (arith, ap length e, s.long)

pub at_spot : {G : _} {d : _} (s : PagedStore G d) (id at n : ℕ) → Spot (region_of s) (pages_of s) s.opened (free_of s) s.table.room MAX_AREAS id at n
    → Seat s id at n (spot_in (pages_of s) id at)
unfolding paged_memory
at_spot s id at n there = record {
  within = there.within;
  read = there.read;
  kept = λ r numbers ws e f l.
      subst (λ (x : List ℕ). IsPagedStore r (areas_in (lists_of x s.table)) s.opened (free_in (lists_of x s.table)) s.table.room MAX_AREAS) (sym f)
      (subst (λ (x : List ℕ). IsPagedStore x (pages_of s) s.opened (free_of s) s.table.room MAX_AREAS) (sym e) (there.kept ws l));
  memory = λ r numbers ws e f l.
      ap (λ (x : List ℕ). paged_memory_in r (areas_in (lists_of x s.table)) s.opened (free_in (lists_of x s.table)) s.table.room) f
      ∙ ap (λ x. paged_memory_in x (pages_of s) s.opened (free_of s) s.table.room) e ∙ there.memory ws l;
}

spot_there : {G : _} {d : _} (s : PagedStore G d) (id at n : ℕ) → IsOpen (paged_memory s) id → 0 < n → at + n ≤ length (bytes (paged_memory s) id)
    → at % PAGE + n ≤ PAGE → Spot (region_of s) (pages_of s) s.opened (free_of s) s.table.room MAX_AREAS id at n
unfolding paged_memory
spot_there s id at n o some inside fits = spot (region_of s) (pages_of s) s.opened (free_of s) s.table.room MAX_AREAS s.kept id o at n some inside fits

pub seat : {G : _} {d : _} (s : PagedStore G d) (id at n p : ℕ) → IsOpen (paged_memory s) id → 0 < n → at + n ≤ length (bytes (paged_memory s) id)
    → at % PAGE + n ≤ PAGE → p ≡ spot_in (pages_of s) id at → Seat s id at n p
seat s id at n p o some inside fits e = subst (Seat s id at n) (sym e) (at_spot s id at n (spot_there s id at n o some inside fits))

-- the byte at an offset stands where its page does, and as far on as the offset goes past the page's start
pub on_from_place : {G : _} {d : _} (s : PagedStore G d) (id at start : ℕ) → start ≡ place_of s id (at / PAGE)
    → start + (at - PAGE * (at / PAGE)) ≡ spot_in (pages_of s) id at
unfolding place_of
on_from_place s id at start e = omega arith

-- a page number as the code reads it
pub page_small : {G : _} {d : _} (s : PagedStore G d) (id i : ℕ) → i < length (list_at (pages_of s) id) → (k : ℕ) → k ≡ get_or (list_at (pages_of s) id) i 0
    → k < MAX_PAGES
page_small s id i lt k e =
    let a = page_below (region_of s) (pages_of s) s.opened (free_of s) s.table.room MAX_AREAS s.kept id i lt in let b = s.few in omega arith

-- page i of an area has the number k
pub record Placed {G : _} {d : _} (s : PagedStore G d) (id i k : ℕ) : Type 0 where
  pub within : PAGE * k + PAGE ≤ length (region_of s)
  pub same : part (region_of s) (PAGE * k) PAGE ≡ part (bytes (paged_memory s) id) (PAGE * i) PAGE
  pub apart : (a j : ℕ) → IsOpen (paged_memory s) a → PAGE * j < length (bytes (paged_memory s) a) → place_of s a j ≡ PAGE * k → (a ≡ id) × (j ≡ i)

pub placed : {G : _} {d : _} (s : PagedStore G d) (id i k : ℕ) → IsOpen (paged_memory s) id → PAGE * i < length (bytes (paged_memory s) id)
    → k ≡ get_or (list_at (pages_of s) id) i 0 → Placed s id i k
unfolding paged_memory place_of
placed s id i k o inside at =
    let lists = (pages_of s) in let long = area_long s id o in let li : i < length (list_at lists id) = omega arith in
    let low = page_below (region_of s) lists s.opened (free_of s) s.table.room MAX_AREAS s.kept id i li in let size = s.kept.size in
    let y : PAGE * k ≡ PAGE * get_or (list_at lists id) i 0 + 0 = omega arith in let z : PAGE * i + 0 ≡ PAGE * i = omega arith in
    record {
      within = omega arith;
      same = ap (λ p. part (region_of s) p PAGE) y ∙ sym (bytes_read (region_of s) (list_at lists id) i 0 PAGE li (lit≤ tt))
          ∙ ap (λ p. part (paged_bytes (region_of s) (list_at lists id)) p PAGE) z
          ∙ ap (λ l. part l (PAGE * i) PAGE) (sym (bytes_are (region_of s) lists s.opened (free_of s) s.table.room MAX_AREAS s.kept id o));
      apart = λ a j oa lj e.
          let there = area_long s a oa in let in' : j < length (list_at lists a) = omega arith in
          let same : get_or (list_at lists a) j 0 ≡ k = omega arith in let once = s.kept.once k in
          apart k lists (omega arith) a j id i in' li same (sym at);
    }
