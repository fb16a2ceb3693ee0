-- Resizes and ends moved by more bytes than a heap can have.
use Rattle.std.proofs.Common.{◌≡◌, ℕ, ◌+◌, ◌≤◌, ◌<◌, ◌^◌, Bool, true, false, List, length, eqb, FitsSigned, refl, sym, ap, subst, ◌∙◌, arith}
use Rattle.std.specs.Prelude.{ℤ, pos, negsuc, Option, Some, None, IfSome, Ok, Err, ok_or}
use Rattle.std.specs.Int.{w32}
use Rattle.std.specs.Int.Signed.{lt_z}
use Rattle.std.specs.Option.{option_map}
use Rattle.std.proofs.lemmas.Bool.Decides.{nat_tests}
use Rattle.rh_defs.specs.Heap.{Segment, Used, Hole, Heap, IsHeap, Way, bytes_of, size_of, hole_for, first_place, base, end_for, way_to, segment_size}
use Rattle.rh_defs.specs.Heap.{new_size, resize_need, resize_found, resize_block, block_at, block_size, is_block_at}
use Rattle.rh_defs.specs.HeapImage.{heap_of}
use Rattle.rh_defs.specs.Pieces.{total, Split}
use Rattle.rh_defs.specs.declared.heap.HeapRefusal.{HeapRefusal}
use Rattle.rh_defs.specs.declared.heap.HeapRefusal.TheVariants.{NotABlock, BadSize, NoRoom, ExcessiveShrink}
use Rattle.rh_defs.proofs.Cuts.{IsCut, first_at-cuts, cut-total}
use Rattle.rh_defs.proofs.HeapLists.{cond_true, cond_false, eqb_same, eqb_apart}
use Rattle.rh_heap.proofs.WayLaws.{WayFacts, if_stays, if_shrinks, if_into, if_top, if_to_hole, if_to_top, way_facts}
use Rattle.rh_lent_heap.specs.Heaps.{IsHeapBytes}
use Rattle.vf_heap.specs.LentHeapCalls.{IsFar}
use Rattle.vf_heap.specs.HeapStatus.{extend_status, refusal_status, short}
use Rattle.vf_heap.proofs.Claims.{no_hole}

-- what refuses such an amount
abbrev pub far_refusal : ℤ → HeapRefusal
far_refusal (pos k) = NoRoom
far_refusal (negsuc k) = BadSize

-- each way to a segment that is longer than the heap wants a later end
wants : (t : ℕ) (s : Split Segment) (h : Heap) (way : Way) → WayFacts t (size_of s.here) s.after h way
    → hole_for t h.segments ≡ None → h.end < t → size_of s.here + total size_of s.after < t → h.end < end_for way t s h
wants t s h way (if_stays e) none l r = omega arith
wants t s h way (if_shrinks e) none l r = omega arith
wants t s h way (if_into n rest e is le) none l r =
    let behind : total size_of s.after ≡ n + total size_of rest = ap (total size_of) is in omega arith
wants t s h way (if_top e is) none l r = omega arith
wants t s h way (if_to_hole hole e is) none l r = absurd cc
wants t s h way (if_to_top e is) none l r = omega arith

has_bytes : (g : Segment) → length (bytes_of g) ≤ size_of g
has_bytes (Used bytes) = omega arith
has_bytes (Hole size) = omega arith

-- a block that is found is refused so
far_found : (test : ℕ → Segment → Bool) (d : ℤ) (o : Option (Split Segment)) (h : Heap) (n : ℕ)
    → IfSome o (IsCut size_of test first_place h.segments) → base h ≤ h.end → h.end ≤ 2 ^ 30
    → Ok n ≡ ok_or (option_map (λ s. length (bytes_of s.here)) o) NotABlock → IsFar d
    → resize_found d o h ≡ Err (far_refusal d)
far_found test d None h n cut fits few found far = absurd cc
far_found test (negsuc k) (Some s) h n cut fits few found far =
    let sizes = cut-total cut in
    let bytes = has_bytes s.here in
    let none : new_size (negsuc k) s ≡ 0 = omega arith in
    cond_true (eqb (new_size (negsuc k) s) 0) _ _ (eqb_same (new_size (negsuc k) s) 0 none)
far_found test (pos k) (Some s) h n cut fits few found far =
    let sizes = cut-total cut in
    let m = new_size (pos k) s in
    let t = segment_size m in
    let longer : h.end < t = omega arith in
    let none : hole_for t h.segments ≡ None = no_hole t first_place h.segments (omega arith) in
    let wanted = wants t s h (way_to t s h) (way_facts t s h) none longer (omega arith) in
    cond_false (eqb m 0) _ _ (eqb_apart m 0 (λ z. omega arith))
    ∙ cond_false (eqb (resize_need m s h) 0) _ _ (eqb_apart (resize_need m s h) 0 (λ z. omega arith))

pub far_resize : (b : List ℕ) (a n : ℕ) (d : ℤ) → IsHeapBytes b → Ok n ≡ ok_or (block_size a (heap_of b 0)) NotABlock
    → IsFar d → resize_block a d (heap_of b 0) ≡ Err (far_refusal d)
far_resize b a n d bytes found far =
    let h = heap_of b 0 in
    let few = bytes.few in
    let within = bytes.spells.within in
    far_found (is_block_at a) d (block_at a h) h n (first_at-cuts size_of (is_block_at a) first_place h.segments)
    bytes.spells.heap.fits (omega arith) found far

shrinks_at : (d : ℤ) → lt_z d (pos 0) ≡ true → far_refusal d ≡ BadSize
shrinks_at (pos k) e = grind (arith, nat_tests)
shrinks_at (negsuc k) e = refl

grows_at : (d : ℤ) → lt_z d (pos 0) ≡ false → far_refusal d ≡ NoRoom
grows_at (pos k) e = refl
grows_at (negsuc k) e = absurd cc

pub shrinks : (d d' : ℤ) → d' ≡ d → lt_z d' (pos 0) ≡ true → far_refusal d ≡ BadSize
shrinks d d' same e = shrinks_at d (ap (λ x. lt_z x (pos 0)) (sym same) ∙ e)

pub grows : (d d' : ℤ) → d' ≡ d → lt_z d' (pos 0) ≡ false → far_refusal d ≡ NoRoom
grows d d' same e = grows_at d (ap (λ x. lt_z x (pos 0)) (sym same) ∙ e)

-- an amount is that far where 32 bits have no room for it
far_at : (d : ℤ) → (FitsSigned w32 d → ⊥) → IsFar d
far_at (pos k) out = grind (arith, nat_tests)
far_at (negsuc k) out = grind (arith, nat_tests)

-- the status of moving an end so far down, and so far up
down_at : (n : ℕ) (d : ℤ) (h : Heap) → IsHeap h → h.end ≤ n → n ≤ 2 ^ 30 → IsFar d → lt_z d (pos 0) ≡ true
    → extend_status n d h ≡ refusal_status ExcessiveShrink
unfolding extend_status
down_at n (pos k) h heap within few far e = grind (arith, nat_tests)
down_at n (negsuc k) h heap within few far e = let fits = heap.fits in grind (arith, nat_tests)

up_at : (n : ℕ) (d : ℤ) (h : Heap) → h.end ≤ n → n ≤ 2 ^ 30 → IsFar d → lt_z d (pos 0) ≡ false
    → extend_status n d h ≡ short
unfolding extend_status
up_at n (pos k) h within few far e = grind (arith, nat_tests)
up_at n (negsuc k) h within few far e = absurd cc

pub down : (b : List ℕ) (d d' : ℤ) → d' ≡ d → IsHeapBytes b → (FitsSigned w32 d' → ⊥) → lt_z d' (pos 0) ≡ true
    → extend_status (length b) d (heap_of b 0) ≡ refusal_status ExcessiveShrink
down b d d' same bytes out e =
    let within = bytes.spells.within in
    let far = far_at d (λ f. out (subst (FitsSigned w32) (sym same) f)) in
    down_at (length b) d (heap_of b 0) bytes.spells.heap (omega arith) bytes.few far (ap (λ x. lt_z x (pos 0)) (sym same) ∙ e)

pub up : (b : List ℕ) (d d' : ℤ) → d' ≡ d → IsHeapBytes b → (FitsSigned w32 d' → ⊥) → lt_z d' (pos 0) ≡ false
    → extend_status (length b) d (heap_of b 0) ≡ short
up b d d' same bytes out e =
    let within = bytes.spells.within in
    let far = far_at d (λ f. out (subst (FitsSigned w32) (sym same) f)) in
    up_at (length b) d (heap_of b 0) (omega arith) bytes.few far (ap (λ x. lt_z x (pos 0)) (sym same) ∙ e)
