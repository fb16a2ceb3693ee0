-- The status of moving a heap's end, by what its call tests.
use Rattle.std.proofs.Common.{◌≡◌, ◌≢◌, ℕ, ◌≤◌, ◌<◌, ◌%◌, List, refl, sym, ap, ◌∙◌, arith}
use Rattle.std.specs.Prelude.{ℤ, Result, Ok, Err}
use Rattle.std.proofs.lemmas.Bool.Decides.{nat_tests}
use Rattle.rh_defs.specs.Chain.{no_answer, answer_of}
use Rattle.rh_defs.specs.Heap.{Heap, extend_by}
use Rattle.rh_defs.specs.HeapImage.{heap_of}
use Rattle.rh_defs.specs.Pieces.{moved}
use Rattle.rh_defs.specs.declared.heap.HeapRefusal.{HeapRefusal}
use Rattle.rh_lent_heap.specs.Heaps.{LeavesBytes}
use Rattle.rh_store.specs.Limits.{area_limit}
use Rattle.vf_heap.specs.HeapStatus.{answer_status, bad_length, extend_status, short}

-- the bytes are more than a heap can have
pub overlong : (n : ℕ) (d : ℤ) (h : Heap) → area_limit < n → extend_status n d h ≡ bad_length
unfolding extend_status
overlong n d h l = grind (arith, nat_tests)

-- the new end lies beyond the bytes
pub beyond : (n e : ℕ) (d : ℤ) (h : Heap) → n ≤ area_limit → e ≡ moved h.end d → n < e → extend_status n d h ≡ short
unfolding extend_status
beyond n e d h few is l = grind (arith, nat_tests)

-- it is no multiple of 8
pub misfit : (n e : ℕ) (d : ℤ) (h : Heap) → n ≤ area_limit → e ≡ moved h.end d → e ≤ n → e % 8 ≢ 0
    → extend_status n d h ≡ bad_length
unfolding extend_status
misfit n e d h few is l m = grind (arith, nat_tests)

-- it is one, and lies in them, so that the heap answers
pub within : (n e : ℕ) (d : ℤ) (h : Heap) → n ≤ area_limit → e ≡ moved h.end d → e % 8 ≡ 0 → e ≤ n
    → extend_status n d h ≡ answer_status (extend_by d h)
unfolding extend_status
within n e d h few is m l = grind (arith, nat_tests)

same_status : (g : Result Heap HeapRefusal) → answer_status (answer_of (no_answer g)) ≡ answer_status g
same_status (Ok h) = refl
same_status (Err refusal) = refl

-- what the call on the heap answered is the status, also where its argument was spelled otherwise
pub answered : (n e : ℕ) (d d' : ℤ) (b c : List ℕ) (r : Result (Unit {0}) HeapRefusal) → d' ≡ d
    → LeavesBytes b c (no_answer (extend_by d' (heap_of b 0))) r → n ≤ area_limit → e ≡ moved (heap_of b 0).end d
    → e % 8 ≡ 0 → e ≤ n → answer_status r ≡ extend_status n d (heap_of b 0)
answered n e d d' b c r ed left few is m l =
    ap answer_status left.answer ∙ same_status (extend_by d' (heap_of b 0))
    ∙ ap (λ (x : ℤ). answer_status (extend_by x (heap_of b 0))) ed ∙ sym (within n e d (heap_of b 0) few is m l)
