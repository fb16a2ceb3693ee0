-- Worked heaps: the definitions compute these answers.
use Rattle.rh_defs.proofs.Common.{◌≡◌, refl, ℕ, ℤ, pos, negsuc, List, [], ◌∷◌, Some, None, Result, Ok, Err, answer_of, left_of, Used, Hole, Heap, claim_block}
use Rattle.rh_defs.proofs.Common.{zeros, HeapRefusal}
use Rattle.rh_defs.specs.Heap.{empty_heap, released_at, resize_block, extend_by, block_size, largest, free_bytes}
use Rattle.rh_defs.specs.declared.heap.HeapRefusal.TheVariants.{NotABlock, BadSize, NoRoom, ExcessiveShrink}

pub data Call : Type 0 where
  Claim : ℕ → Call
  Release : ℕ → Call
  Resize : ℕ → ℤ → Call
  Extend : ℤ → Call

-- an answer, where a call that only changes the heap answers 0, and the heap after it
pub record Step : Type 0 where
  pub heap : Heap
  pub answer : Result ℕ HeapRefusal

abbrev pub of_placed : Heap → Result (Heap × ℕ) HeapRefusal → Step
of_placed h called = record { heap = left_of h called; answer = answer_of called }

abbrev pub of_heap : Heap → Result Heap HeapRefusal → Step
of_heap h (Ok g) = record { heap = g; answer = Ok 0 }
of_heap h (Err e) = record { heap = h; answer = Err e }

abbrev pub called : Heap → Call → Step
called h (Claim n) = of_placed h (claim_block n h)
called h (Release a) = of_heap h (released_at a h)
called h (Resize a d) = of_placed h (resize_block a d h)
called h (Extend d) = of_heap h (extend_by d h)

abbrev pub heap_after : Heap → List Call → Heap
heap_after h [] = h
heap_after h (c ∷ cs) = heap_after (called h c).heap cs

abbrev pub answers : Heap → List Call → List (Result ℕ HeapRefusal)
answers h [] = []
answers h (c ∷ cs) = (called h c).answer ∷ answers (called h c).heap cs

-- first fit, and a refused release
pub first_fit : answers (empty_heap 3840) (Claim 10 ∷ Claim 10 ∷ Claim 10 ∷ Release 36 ∷ Claim 12 ∷ Claim 13 ∷ Release 24 ∷ [])
    ≡ Ok 20 ∷ Ok 36 ∷ Ok 52 ∷ Ok 0 ∷ Ok 36 ∷ Ok 68 ∷ Err NotABlock ∷ []
first_fit = refl

-- a heap of 56 bytes
unfoldable pub small : Heap
small = heap_after (empty_heap 56) (Claim 12 ∷ Claim 1 ∷ Claim 1 ∷ Release 36 ∷ [])

pub small_places : answers (empty_heap 56) (Claim 12 ∷ Claim 1 ∷ Claim 1 ∷ Release 36 ∷ []) ≡ Ok 20 ∷ Ok 36 ∷ Ok 44 ∷ Ok 0 ∷ []
small_places = refl

pub small_largest : largest small ≡ 4
unfolding small
small_largest = refl

pub small_free : free_bytes small ≡ 16
unfolding small
small_free = refl

pub small_answers : answers small (Claim 5 ∷ Extend (negsuc 7) ∷ Extend (negsuc 7) ∷ Claim 4 ∷ []) ≡ Err NoRoom ∷ Ok 0 ∷ Err ExcessiveShrink ∷ Ok 36 ∷ []
unfolding small
small_answers = refl

pub small_sizes : let h = heap_after small (Extend (negsuc 7) ∷ Claim 4 ∷ []) in (block_size 36 h ≡ Some 4) × (block_size 37 h ≡ None)
unfolding small
small_sizes = (refl, refl)

-- A block stays, shrinks before a block and before a hole, grows into a part of a hole and into all of it, and at the top.
pub ways_in_place : answers (empty_heap 200) (Claim 20 ∷ Claim 20 ∷ Claim 20
    ∷ Resize 20 (negsuc 0) ∷ Resize 20 (negsuc 10) ∷ Resize 20 (negsuc 7) ∷ Resize 20 (pos 8) ∷ Resize 20 (pos 8) ∷ Resize 68 (pos 8) ∷ [])
    ≡ Ok 20 ∷ Ok 44 ∷ Ok 68 ∷ Ok 20 ∷ Ok 20 ∷ Ok 20 ∷ Ok 20 ∷ Ok 20 ∷ Ok 68 ∷ []
ways_in_place = refl

-- The last block shrinks, a block moves to the top, one moves to a hole, and some calls are refused.
pub ways_to_move : answers (record { segments = Hole 24 ∷ Used (zeros 20) ∷ Used (zeros 28) ∷ []; end = 200 })
    (Resize 68 (negsuc 19) ∷ Resize 44 (pos 30) ∷ Resize 68 (pos 10) ∷ Resize 68 (pos 1) ∷ Resize 84 (pos 500) ∷ Resize 84 (negsuc 51) ∷ Resize 84 (pos 20)
    ∷ Release 84
    ∷ Extend (negsuc 151) ∷ Extend (negsuc 7) ∷ [])
    ≡ Ok 68 ∷ Ok 84 ∷ Ok 20 ∷ Err NotABlock ∷ Err NoRoom ∷ Err BadSize ∷ Ok 84 ∷ Ok 0 ∷ Ok 0 ∷ Err ExcessiveShrink ∷ []
ways_to_move = refl

-- the old bytes go along, and those past them are 0
pub bytes_move : (heap_after (record { segments = Hole 16 ∷ Used (1 ∷ 2 ∷ 3 ∷ 4 ∷ []) ∷ Used (5 ∷ 6 ∷ 7 ∷ 8 ∷ []) ∷ []; end = 48 })
    (Resize 36 (pos 8) ∷ [])).segments
    ≡ Used (1 ∷ 2 ∷ 3 ∷ 4 ∷ 0 ∷ 0 ∷ 0 ∷ 0 ∷ 0 ∷ 0 ∷ 0 ∷ 0 ∷ []) ∷ Hole 8 ∷ Used (5 ∷ 6 ∷ 7 ∷ 8 ∷ []) ∷ []
bytes_move = refl
