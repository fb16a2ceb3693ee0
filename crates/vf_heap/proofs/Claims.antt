-- Claims of more bytes than a heap can have.
use Rattle.std.proofs.Common.{◌≡◌, ◌≢◌, ℕ, ◌+◌, ◌≤◌, ◌<◌, ◌^◌, List, [], ◌∷◌, length, false, nat_le, refl, sym, ap, subst, ◌∙◌, arith}
use Rattle.std.specs.Prelude.{None, Result, Err}
use Rattle.std.specs.Option.{option_map}
use Rattle.std.proofs.lemmas.Bool.Decides.{nat_tests}
use Rattle.rh_defs.specs.Bytes.{SameOutside}
use Rattle.rh_defs.specs.Chain.{answer_of}
use Rattle.rh_defs.specs.Heap.{Segment, Used, Hole, Heap, size_of, is_hole_for, hole_for, first_place, shortage_in, segment_size, claim_block}
use Rattle.rh_defs.specs.HeapImage.{heap_of}
use Rattle.rh_defs.specs.Pieces.{total, first_at, behind}
use Rattle.rh_defs.specs.declared.heap.HeapRefusal.{HeapRefusal}
use Rattle.rh_defs.specs.declared.heap.HeapRefusal.TheVariants.{NoRoom}
use Rattle.rh_heap.proofs.ClaimLaws.{claim_refused, top_shortage}
use Rattle.rh_lent_heap.specs.Heaps.{IsHeapBytes, LeavesBytes}
use Rattle.vf_heap.specs.LentHeapCalls.{LeavesLentHeap}

-- no hole has more bytes than all segments together
pub no_hole : (t p : ℕ) (ss : List Segment) → total size_of ss < t → first_at size_of (is_hole_for t) p ss ≡ None
no_hole t p [] l = refl
no_hole t p (Used bytes ∷ ss) l =
    ap (option_map (behind (Used bytes))) (no_hole t (p + (4 + length bytes)) ss (omega arith))
no_hole t p (Hole size ∷ ss) l =
    let small : nat_le t size ≡ false = grind (arith, nat_tests) in
    let rest = no_hole t (p + size) ss (omega arith) in
    rw small (ap (option_map (behind (Hole size))) rest)

-- a block of 4 GiB or more has no room
pub claim_beyond : (b : List ℕ) (n : ℕ) → IsHeapBytes b → (n < 2 ^ 32 → ⊥) → claim_block n (heap_of b 0) ≡ Err NoRoom
claim_beyond b n bytes far =
    let h = heap_of b 0 in
    let t = segment_size n in
    let few = bytes.few in
    let within = bytes.spells.within in
    let fits = bytes.spells.heap.fits in
    let large : 2 ^ 32 ≤ n = omega arith in
    let longer : h.end < t = omega arith in
    let none : hole_for t h.segments ≡ None = no_hole t first_place h.segments (omega arith) in
    let lacks : shortage_in t h (hole_for t h.segments) ≢ 0 = λ z. let s = sym (top_shortage t h none) ∙ z in omega arith in
    claim_refused n h t (λ z. omega arith) refl lacks

same_outside : (b : List ℕ) (lo hi : ℕ) → SameOutside b b lo hi
same_outside b lo hi = record { len = refl; below = λ k l. refl; above = λ k l. refl }

-- bytes that stay are what a refused call leaves
pub refused : {A : Type 0} (b : List ℕ) (refusal : HeapRefusal) (granted : Result (Heap × A) HeapRefusal)
    → granted ≡ Err refusal → IsHeapBytes b → LeavesLentHeap b b granted
refused b refusal granted e bytes =
    subst (λ r. LeavesBytes b b r (answer_of r)) (sym e)
    (record { answer = refl; heap = refl; bytes = bytes; outside = same_outside b 0 (heap_of b 0).end; err = refl })
