-- A page table's lists: where the code finds a number of one, and what its calls make of all.
use Rattle.rh_pages.proofs.Common.{◌≡◌, ℕ, zero, suc, ◌+◌, ◌*◌, ◌<◌, ◌≤◌, List, [], ◌∷◌, ◌++◌, length, get_or, set, take, drop, sym, ap, ◌∙◌, arith}
use Rattle.rh_pages.proofs.Common.{length-drop, length-take, get_or-take, LISTS, list_at, table_rows, lists_of}
use Rattle.std.proofs.lemmas.List.{get_or-drop}
use Rattle.std.proofs.lemmas.Nat.{mul-le}
use Rattle.rh_defs.specs.declared.sizes.TheConstants.{MAX_PAGES}
use Rattle.rh_pages.specs.declared.table.PageTable.{PageTable}
use Rattle.rh_pages.proofs.Rows.{list_rows, length_rows, section_room, length_list, push_rows, pop_rows, last_of_list}

-- an index of a row that stands in a section of a table
pub small_index : (table : PageTable) (k i : ℕ) → k < LISTS → i ≤ table.room → k * table.room + i ≤ LISTS * MAX_PAGES + MAX_PAGES
small_index table k i lt le = let few = table.few in let most = mul-le k table.room LISTS MAX_PAGES (omega arith) few in omega arith

-- one length is changed, to one that fits
pub set_fits : (lengths : List ℕ) (room k m : ℕ) → ((j : ℕ) → get_or lengths j 0 ≤ room) → m ≤ room → (j : ℕ) → get_or (set lengths k m) j 0 ≤ room
set_fits [] room k m fits le j = fits j
set_fits (n ∷ lengths) room zero m fits le zero = le
set_fits (n ∷ lengths) room zero m fits le (suc j) = fits (suc j)
set_fits (n ∷ lengths) room (suc k) m fits le zero = fits 0
set_fits (n ∷ lengths) room (suc k) m fits le (suc j) = set_fits lengths room k m (λ i. fits (suc i)) le j

module _ (numbers : List ℕ) (table : PageTable) where
  pub length_lists : length (lists_of numbers table) ≡ LISTS
  unfolding lists_of
  length_lists = length_rows numbers table.room table.lengths ∙ table.count

  -- a number of a list, by its index in the row
  module _ (k i : ℕ) (within : i < length (list_at (lists_of numbers table) k)) where
    listed : i < length (take (get_or table.lengths k 0) (drop (k * table.room) numbers))
    unfolding lists_of
    listed = let e = ap length (list_rows numbers table.room table.lengths k) in omega arith

    below : i < get_or table.lengths k 0
    below = omega (arith, listed, length-take (get_or table.lengths k 0) (drop (k * table.room) numbers))

    pub in_section : i ≤ table.room
    in_section = let a = below in let b = table.fits k in omega arith

    pub in_row : k * table.room + i < length numbers
    in_row = omega (arith, listed, length-take (get_or table.lengths k 0) (drop (k * table.room) numbers), length-drop (k * table.room) numbers)

    pub number_at : get_or numbers (k * table.room + i) 0 ≡ get_or (list_at (lists_of numbers table) k) i 0
    unfolding lists_of
    number_at =
        sym (ap (λ l. get_or l i 0) (list_rows numbers table.room table.lengths k)
        ∙ get_or-take (get_or table.lengths k 0) (drop (k * table.room) numbers) i 0 below
        ∙ get_or-drop (k * table.room) numbers i 0)

  module _ (k : ℕ) (lt : k < LISTS) (long : LISTS * table.room ≤ length numbers) where
    in_count : k < length table.lengths
    in_count = let e = table.count in omega arith

    long_enough : length table.lengths * table.room ≤ length numbers
    long_enough = let e = ap (λ n. n * table.room) table.count in omega arith

    pub length_there : length (list_at (lists_of numbers table) k) ≡ get_or table.lengths k 0
    unfolding lists_of
    length_there = length_list table.room numbers table.lengths k 0 in_count long_enough table.fits

    -- where a list ends, in its section
    pub end_in_row : get_or table.lengths k 0 < table.room → k * table.room + get_or table.lengths k 0 < length numbers
    end_in_row inside = let there = section_room numbers table.room LISTS k lt long in omega arith

    -- a number is written there
    pub pushed : (v : ℕ) → get_or table.lengths k 0 < table.room
        → table_rows (set numbers (k * table.room + get_or table.lengths k 0) v) table.room (set table.lengths k (get_or table.lengths k 0 + 1)) ≡ set
        (lists_of numbers table) k (list_at (lists_of numbers table) k ++ v ∷ [])
    unfolding lists_of
    pushed v inside = push_rows table.room numbers table.lengths k v in_count long_enough table.fits inside

    -- the last number is taken off
    module _ (m : ℕ) (less : get_or table.lengths k 0 ≡ m + 1) where
      pub popped : table_rows numbers table.room (set table.lengths k m) ≡ set (lists_of numbers table) k
          (list_at (table_rows numbers table.room (set table.lengths k m)) k)
      unfolding lists_of
      popped = pop_rows table.room numbers table.lengths k 0 in_count long_enough table.fits m less

      pub last_off : list_at (lists_of numbers table) k ≡ list_at (table_rows numbers table.room (set table.lengths k m)) k ++ get_or numbers
          (k * table.room + m)
          0 ∷ []
      unfolding lists_of
      last_off = last_of_list table.room numbers table.lengths k 0 in_count long_enough table.fits m less
