-- What three calls leave of an empty heap of one page.
use Rattle.std.proofs.Common.{◌≡◌, ℕ, ◌+◌, [], ◌∷◌, sym, ap, subst, ◌∙◌}
use Rattle.rh_defs.specs.Chain.{left_of, no_answer}
use Rattle.rh_defs.specs.Heap.{Heap, Hole, Used, empty_heap, claim_block, released_at}
use Rattle.rh_defs.specs.Memory.{Memory, Edited}
use Rattle.rh_defs.specs.Pieces.{zeros}
use Rattle.rh_defs.specs.declared.sizes.TheConstants.{PAGE}
use Rattle.rh_defs.proofs.MemoryLaws.{Edited-both}
use Rattle.rh_heap.specs.HeapSpans.{OnlySpan, heap_in}
use Rattle.rh_heap.specs.declared.span.Span.{Span}

-- ---- the heap after each call
abbrev pub one_block : Heap
one_block = record { segments = Used (zeros 20) ∷ []; end = PAGE }

abbrev pub both_blocks : Heap
both_blocks = record { segments = Used (zeros 20) ∷ Used (zeros 100) ∷ []; end = PAGE }

abbrev pub last_block : Heap
last_block = record { segments = Hole 24 ∷ Used (zeros 100) ∷ []; end = PAGE }

pub first_left : (h k : Heap) → h ≡ empty_heap PAGE → k ≡ left_of h (claim_block 20 h) → k ≡ one_block
first_left h k is left = left ∙ ap (λ (x : Heap). left_of x (claim_block 20 x)) is

pub second_left : (h k : Heap) → h ≡ one_block → k ≡ left_of h (claim_block 100 h) → k ≡ both_blocks
second_left h k is left = left ∙ ap (λ (x : Heap). left_of x (claim_block 100 x)) is

pub last_left : (a : ℕ) (h k : Heap) → a ≡ 20 → h ≡ both_blocks → k ≡ left_of h (no_answer (released_at a h)) → k ≡ last_block
last_left a h k at is left =
    left ∙ ap (λ (n : ℕ). left_of h (no_answer (released_at n h))) at
    ∙ ap (λ (x : Heap). left_of x (no_answer (released_at 20 x))) is

-- ---- other bytes
-- two calls one after the other change no byte outside the heap, which keeps its end
both_only : (l m n : Memory) (span : Span) → OnlySpan l m span → OnlySpan m n span → (heap_in m span).end ≡ (heap_in l span).end → OnlySpan l n span
both_only l m n span d e same =
    Edited-both l m n span.area.0 span.at (span.at + (heap_in l span).end) d
    (subst (λ (k : ℕ). Edited m n span.area.0 span.at (span.at + k)) same e)

-- and so do all three
pub three_only : (k l m n : Memory) (span : Span) → heap_in k span ≡ empty_heap PAGE → heap_in l span ≡ one_block → heap_in m span ≡ both_blocks
    → OnlySpan k l span → OnlySpan l m span → OnlySpan m n span → OnlySpan k n span
three_only k l m n span empty one both first second third =
    let end : (heap_in k span).end ≡ PAGE = ap (λ (h : Heap). h.end) empty in
    let after_one : (heap_in l span).end ≡ PAGE = ap (λ (h : Heap). h.end) one in
    let after_both : (heap_in m span).end ≡ PAGE = ap (λ (h : Heap). h.end) both in
    both_only k m n span (both_only k l m span first second (after_one ∙ sym end)) third (after_both ∙ sym end)
