-- The first bytes of a block of a slot, as they are read at the block's address.
use Rattle.rh_tasks.proofs.Common.{◌≡◌, ℕ, ◌+◌, ◌-◌, ◌<◌, ◌≤◌, Bool, true, false, List, [], ◌∷◌, ◌++◌, length, refl, ap, ◌∙◌, arith, nat_tests, ◌&&◌, ◌||◌}
use Rattle.rh_tasks.proofs.Common.{Some, None, Ok, not, nat_le, is_some, take, drop, NoTask, BadRange, found_or, first_at, total, Hole, Segment, Used, base}
use Rattle.rh_tasks.proofs.Common.{size_of, Flex, Slot, flex_address, flex_start, heap_start, holds, weight, Desk, Task, task_at, bytes_held, begins, past}
use Rattle.rh_defs.specs.Pieces.{is_inside}
use Rattle.rh_defs.specs.Inner.NonePassing.{NonePass}
use Rattle.rh_defs.specs.Heap.{block_around, is_around}
use Rattle.rh_defs.specs.Slot.{flex_around}
use Rattle.rh_defs.proofs.HeapLists.{first_at-found, first_at-none}
use Rattle.rh_tasks.specs.Sights.{slot_bytes}
use Rattle.rh_defs.specs.Places.{bytes_around, bytes_in_heap}

-- ---- which block holds them
abbrev flex_at : ℕ → ℕ → ℕ → Flex → Bool
flex_at x n place b = is_inside x n (place + 8) (length b.bytes)

inside-yes : (x n a m : ℕ) → a ≤ x → x + n ≤ a + m → is_inside x n a m ≡ true
inside-yes x n a m low high = grind (arith, nat_tests)

inside-above : (x n a m : ℕ) → a + m < x → is_inside x n a m ≡ false
inside-above x n a m high = grind (arith, nat_tests)

inside-below : (x n a m : ℕ) → x < a → is_inside x n a m ≡ false
inside-below x n a m low = grind (arith, nat_tests)

flex-past : (x n p : ℕ) (fs : List Flex) → p + total weight fs < x → NonePass weight (flex_at x n) p fs
flex-past x n p [] l = tt
flex-past x n p (f ∷ fs) l = (inside-above x n (p + 8) (length f.bytes) (omega arith), flex-past x n (p + weight f) fs (omega arith))

flex-ahead : (x n p : ℕ) (fs : List Flex) → x < p + 8 → NonePass weight (flex_at x n) p fs
flex-ahead x n p [] l = tt
flex-ahead x n p (f ∷ fs) l = (inside-below x n (p + 8) (length f.bytes) l, flex-ahead x n (p + weight f) fs (omega arith))

heap-past : (x n p : ℕ) (ss : List Segment) → p + total size_of ss < x → NonePass size_of (is_around x n) p ss
heap-past x n p [] l = tt
heap-past x n p (Used bs ∷ ss) l = (inside-above x n (p + 4) (length bs) (omega arith), heap-past x n (p + (4 + length bs)) ss (omega arith))
heap-past x n p (Hole m ∷ ss) l = (refl, heap-past x n (p + m) ss (omega arith))

either-true : (t u : Bool) → u ≡ true → (t || u) ≡ true
either-true true u e = refl
either-true false u e = e

-- ---- a flex block
module _ (s : Slot) (before after : List Flex) (b : Flex) (n : ℕ) (is : s.blocks ≡ before ++ b ∷ after) (few : n ≤ length b.bytes) where
  abbrev x : ℕ
  x = flex_address s before

  flex-found : flex_around x n s ≡ Some (record { before = before; here = b; after = after })
  flex-found =
      ap (first_at weight (flex_at x n) (flex_start s)) is
      ∙ first_at-found weight (flex_at x n) (flex_start s) before b after (flex-past x n (flex_start s) before (omega arith))
      (inside-yes x n (flex_start s + total weight before + 8) (length b.bytes) (omega arith) (omega arith))

  pub flex-holds : holds x n s ≡ true
  flex-holds = ap (λ o. is_some o || (nat_le heap_start x && is_some (block_around (x - heap_start) n s.heap))) flex-found

  pub flex-first : bytes_held x n s ≡ take n b.bytes
  flex-first =
      ap (λ o. bytes_around x n s o) flex-found
      ∙ ap (λ k. take n (drop k b.bytes)) (let none : x - flex_address s before ≡ 0 = omega arith in none)

-- ---- a block of the C heap
module _ (s : Slot) (before after : List Segment) (bs : List ℕ) (n : ℕ) (is : s.heap.segments ≡ before ++ Used bs ∷ after) (fits : base s.heap ≤ s.heap.end)
    (few : n ≤ length bs) where
  abbrev y : ℕ
  y = 16 + total size_of before + 4

  in-heap : y + length bs ≤ s.heap.end
  in-heap = omega (arith, ap (total size_of) is, total-with before (Used bs) after, fits)
    where
      total-with : (xs : List Segment) (g : Segment) (ys : List Segment) → total size_of (xs ++ g ∷ ys) ≡ total size_of xs + (size_of g + total size_of ys)
      total-with [] g ys = omega arith
      total-with (z ∷ xs) g ys = omega (arith, total-with xs g ys)

  no-flex : flex_around (heap_start + y) n s ≡ None
  no-flex = first_at-none weight (flex_at (heap_start + y) n) (flex_start s) s.blocks
      (flex-ahead (heap_start + y) n (flex_start s) s.blocks (omega (arith, in-heap)))

  heap-found : block_around (heap_start + y - heap_start) n s.heap ≡ Some (record { before = before; here = Used bs; after = after })
  heap-found =
      ap (λ z. block_around z n s.heap) (let same : heap_start + y - heap_start ≡ y = omega arith in same)
      ∙ ap (first_at size_of (is_around y n) 16) is
      ∙ first_at-found size_of (is_around y n) 16 before (Used bs) after (heap-past y n 16 before (omega arith))
      (inside-yes y n (16 + total size_of before + 4) (length bs) (omega arith) (omega arith))

  pub heap-holds : holds (heap_start + y) n s ≡ true
  heap-holds =
      either-true (is_some (flex_around (heap_start + y) n s)) _
      (both-true (nat_le heap_start (heap_start + y)) _ (grind (arith, nat_tests)) (ap is_some heap-found))
    where
      both-true : (t u : Bool) → t ≡ true → u ≡ true → (t && u) ≡ true
      both-true true u e f = f
      both-true false u e f = e

  pub heap-first : bytes_held (heap_start + y) n s ≡ take n bs
  heap-first =
      ap (λ o. bytes_around (heap_start + y) n s o) no-flex
      ∙ ap (λ o. bytes_in_heap (heap_start + y) n o) heap-found
      ∙ ap (λ k. take n (drop k bs)) (let none : heap_start + y - (heap_start + (16 + total size_of before) + 4) ≡ 0 = omega arith in none)

-- ---- what is read of a live task's slot
pub first-read : (d : Desk) (h x n : ℕ) (t : Task) (bytes : List ℕ) → task_at h d ≡ Some t → holds x n t.slot ≡ true → bytes_held x n t.slot ≡ bytes
    → slot_bytes d h x n ≡ Ok bytes
unfolding slot_bytes found_or
first-read d h x n t bytes live inside same =
    begins _ (ap (λ o. found_or o NoTask) live) (past _ BadRange _ (ap not inside) (ap (λ l. Ok l) same))
