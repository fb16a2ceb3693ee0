-- Lists that stand in sections of one row: how one is read, and what a longer or a shorter one makes of all.
use Rattle.rh_pages.proofs.Common.{◌≡◌, ℕ, zero, suc, ◌+◌, ◌*◌, ◌<◌, ◌≤◌, List, [], ◌∷◌, ◌++◌, length, get_or, set, take, drop, replicate, refl, sym, ap, ap₂}
use Rattle.rh_pages.proofs.Common.{◌∙◌, arith, length-drop, length-take, take-set-le, get_or-set_same, list_at, table_rows}
use Rattle.std.proofs.lemmas.List.{drop-drop, drop-set-lt, drop-set-add, get_or-drop, take_more, take_more_set}
use Rattle.std.proofs.lemmas.Nat.{mul-le}
use Rattle.std.proofs.Math.Nat.{suc-mul}

next : (k room : ℕ) → suc k * room ≡ room + k * room
next k room = let e = suc-mul k room in omega arith

-- a list of them
pub list_rows : (numbers : List ℕ) (room : ℕ) (lengths : List ℕ) (k : ℕ)
    → list_at (table_rows numbers room lengths) k ≡ take (get_or lengths k 0) (drop (k * room) numbers)
list_rows numbers room [] k = refl
list_rows numbers room (n ∷ lengths) zero = let z : 0 ≡ 0 * room = omega arith in ap (λ i. take n (drop i numbers)) z
list_rows numbers room (n ∷ lengths) (suc k) =
    list_rows (drop room numbers) room lengths k
    ∙ ap (take (get_or lengths k 0)) (drop-drop (k * room) room numbers ∙ ap (λ i. drop i numbers) (sym (next k room)))

pub length_rows : (numbers : List ℕ) (room : ℕ) (lengths : List ℕ) → length (table_rows numbers room lengths) ≡ length lengths
length_rows numbers room [] = refl
length_rows numbers room (n ∷ lengths) = ap suc (length_rows (drop room numbers) room lengths)

-- none of them has a number
pub empty_rows : (numbers : List ℕ) (room n : ℕ) → table_rows numbers room (replicate n 0) ≡ replicate n []
empty_rows numbers room zero = refl
empty_rows numbers room (suc n) = ap (λ l. [] ∷ l) (empty_rows (drop room numbers) room n)

pub no_length : (room n k : ℕ) → get_or (replicate n 0) k 0 ≤ room
no_length room zero k = omega arith
no_length room (suc n) zero = omega arith
no_length room (suc n) (suc k) = no_length room n k

-- one of them has another length
pub set_rows : (numbers : List ℕ) (room : ℕ) (lengths : List ℕ) (k m : ℕ)
    → table_rows numbers room (set lengths k m) ≡ set (table_rows numbers room lengths) k (take m (drop (k * room) numbers))
set_rows numbers room [] k m = refl
set_rows numbers room (n ∷ lengths) zero m = let z : 0 ≡ 0 * room = omega arith in ap
    (λ i. take m (drop i numbers) ∷ table_rows (drop room numbers) room lengths) z
set_rows numbers room (n ∷ lengths) (suc k) m =
    ap (λ l. take n numbers ∷ l) (
    set_rows (drop room numbers) room lengths k m
    ∙ ap (λ l. set (table_rows (drop room numbers) room lengths) k (take m l))
    (drop-drop (k * room) room numbers ∙ ap (λ i. drop i numbers) (sym (next k room)))
    )

-- a section that has room behind its list
pub section_room : (numbers : List ℕ) (room count k : ℕ) → k < count → count * room ≤ length numbers → k * room + room ≤ length numbers
section_room numbers room count k lt long = let most = mul-le (suc k) room count room (omega arith) (omega arith) in let e = next k room in omega arith

module _ (room : ℕ) where
  -- a write behind the end of one list, in its section
  behind_rows : (numbers lengths : List ℕ) (k n v : ℕ) → ((j : ℕ) → get_or lengths j 0 ≤ room) → get_or lengths k 0 ≤ n → n < room
      → table_rows (set numbers (k * room + n) v) room lengths ≡ table_rows numbers room lengths
  behind_rows numbers [] k n v fits end inside = refl
  behind_rows numbers (m ∷ lengths) zero n v fits end inside =
      ap₂ ◌∷◌ (take-set-le m numbers (0 * room + n) v (omega arith))
      (ap (λ l. table_rows l room lengths) (drop-set-lt room numbers (0 * room + n) v (omega arith)))
  behind_rows numbers (m ∷ lengths) (suc k) n v fits end inside =
      let at : suc k * room + n ≡ room + (k * room + n) = let e = next k room in omega arith in
      let first = fits 0 in
      ap (λ i. table_rows (set numbers i v) room (m ∷ lengths)) at
      ∙ ap₂ ◌∷◌ (take-set-le m numbers (room + (k * room + n)) v (omega arith))
      (ap (λ l. table_rows l room lengths) (drop-set-add room numbers (k * room + n) v)
      ∙ behind_rows (drop room numbers) lengths k n v (λ j. fits (suc j)) end inside)

  -- a number is appended to a list
  module _ (numbers lengths : List ℕ) (k v : ℕ) (lt : k < length lengths) (long : length lengths * room ≤ length numbers)
      (fits : (j : ℕ) → get_or lengths j 0 ≤ room) where
    abbrev n : ℕ
    n = get_or lengths k 0

    abbrev here : List ℕ
    here = drop (k * room) numbers

    pub length_list : length (list_at (table_rows numbers room lengths) k) ≡ n
    length_list =
        let there = section_room numbers room (length lengths) k lt long in
        let most = fits k in
        ap length (list_rows numbers room lengths k) ∙ omega (arith, length-take n here, length-drop (k * room) numbers)

    pub push_rows : n < room
        → table_rows (set numbers (k * room + n) v) room (set lengths k (n + 1)) ≡ set (table_rows numbers room lengths) k
        (list_at (table_rows numbers room lengths) k ++ v ∷ [])
    push_rows inside =
        let there = section_room numbers room (length lengths) k lt long in
        set_rows (set numbers (k * room + n) v) room lengths k (n + 1)
        ∙ ap₂ (λ l x. set l k x) (behind_rows numbers lengths k n v fits (omega arith) inside) (
        ap (take (n + 1)) (drop-set-add (k * room) numbers n v)
        ∙ take_more_set here n v (omega (arith, length-drop (k * room) numbers))
        ∙ ap (λ l. l ++ v ∷ []) (sym (list_rows numbers room lengths k))
        )

    -- the last number of a list is taken off
    module _ (m : ℕ) (less : n ≡ m + 1) where
      pub cut_list : list_at (table_rows numbers room (set lengths k m)) k ≡ take m here
      cut_list = list_rows numbers room (set lengths k m) k ∙ ap (λ i. take i here) (get_or-set_same lengths k m 0 lt)

      pub pop_rows : table_rows numbers room (set lengths k m) ≡ set (table_rows numbers room lengths) k (list_at (table_rows numbers room (set lengths k m)) k)
      pop_rows = set_rows numbers room lengths k m ∙ ap (set (table_rows numbers room lengths) k) (sym cut_list)

      pub last_of_list : list_at (table_rows numbers room lengths) k ≡ list_at (table_rows numbers room (set lengths k m)) k ++ get_or numbers (k * room + m) 0
          ∷ []
      last_of_list =
          let there = section_room numbers room (length lengths) k lt long in
          let most = fits k in
          list_rows numbers room lengths k ∙ ap (λ i. take i here) less
          ∙ take_more here m 0 (omega (arith, length-drop (k * room) numbers))
          ∙ ap₂ (λ l x. l ++ x ∷ []) (sym cut_list) (get_or-drop (k * room) numbers m 0)
