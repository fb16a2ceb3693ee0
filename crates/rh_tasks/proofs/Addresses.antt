-- Addresses that calls answer are small.
use Rattle.rh_tasks.proofs.Common.{◌≡◌, ℕ, ◌+◌, ◌-◌, ◌<◌, ◌≤◌, ◌^◌, Bool, refl, subst, arith, List, [], ◌∷◌, length, SFits, w32, ints, ℤ, pos, negsuc, Option}
use Rattle.rh_tasks.proofs.Common.{Some, None, IfSome, Ok, nat_le, nat_lt, ◌==◌, Granted, Split, zeros, Segment, Heap, Used, Hole, size_of, base, first_place}
use Rattle.rh_tasks.proofs.Common.{block_at, need, claim_growing, bytes_of, module_claim, module_resize, module_change, Slot, slot_alloc, slot_claim}
use Rattle.rh_tasks.proofs.Common.{slot_length, heap_block_at, heap_start, IsCut, first_at-cuts, cut-total, OnGrant}
use Rattle.rh_defs.specs.Heap.{Way, Stays, Shrinks, GrowsIntoHole, GrowsAtTop, MovesToHole, MovesToTop, place_after, hole_for, is_block_at, is_hole_for}
use Rattle.rh_defs.specs.Heap.{placed_in, raised, block_room, way_to, way_to_grow, way_beyond, resized_by, resize_growing, resize_need, segment_size, fitted}
use Rattle.rh_defs.specs.Heap.{new_size}
use Rattle.rh_defs.specs.Module.{whole_pages}
use Rattle.rh_defs.specs.Slot.{slot_resize}
use Rattle.rh_defs.proofs.Chains.{granted, refused, granted-with, granted-unless, found_or-grants, chosen}

-- a cut lies below the base
cut-low : (h : Heap) {test : ℕ → Segment → Bool} {s : Split Segment} → IsCut size_of test first_place h.segments s → place_after s.before + 4 ≤ base h + 4
cut-low h cut = omega (arith, cut-total cut)

hole-low : (t : ℕ) (h : Heap) → IfSome (hole_for t h.segments) (λ s. place_after s.before + 4 ≤ base h + 4)
hole-low t h = go (hole_for t h.segments) (first_at-cuts size_of (is_hole_for t) first_place h.segments)
  where
    go : (o : Option (Split Segment)) → IfSome o (IsCut size_of (is_hole_for t) first_place h.segments) → IfSome o (λ s. place_after s.before + 4 ≤ base h + 4)
    go None c = tt
    go (Some s) c = cut-low h c

placed_in-low : (bytes : List ℕ) (h : Heap) (o : Option (Split Segment)) → IfSome o (λ s. place_after s.before + 4 ≤ base h + 4)
    → (placed_in bytes h o).address ≤ base h + 4
placed_in-low bytes h None low = omega arith
placed_in-low bytes h (Some s) low = low

-- a claimed block
pub claim-low : (n : ℕ) (h : Heap) → (claim_growing n h).address ≤ base h + 4
claim-low n h = placed_in-low (zeros (block_room n)) (raised (need n h) h) _ (hole-low (4 + length (zeros (block_room n))) (raised (need n h) h))

-- where a way leads
abbrev LeadsLow : Heap → Way → Type 0
LeadsLow h (MovesToHole hole) = place_after hole.before + 4 ≤ base h + 4
LeadsLow h _ = Unit {0}

beyond-low : (h : Heap) (after : List Segment) (o : Option (Split Segment)) → IfSome o (λ s. place_after s.before + 4 ≤ base h + 4)
    → LeadsLow h (way_beyond after o)
beyond-low h [] None low = tt
beyond-low h (g ∷ after) None low = tt
beyond-low h [] (Some s) low = low
beyond-low h (g ∷ after) (Some s) low = low

grow-low : (t : ℕ) (s : Split Segment) (after : List Segment) (h : Heap) → LeadsLow h (way_to_grow t s after h)
grow-low t s [] h = chosen (LeadsLow h) (nat_le (place_after s.before + t) h.end) _ _ tt (beyond-low h [] _ (hole-low t h))
grow-low t s (Used bytes ∷ after) h = beyond-low h (Used bytes ∷ after) _ (hole-low t h)
grow-low t s (Hole size ∷ after) h = chosen (LeadsLow h) (nat_le t (size_of s.here + size)) _ _ tt (beyond-low h (Hole size ∷ after) _ (hole-low t h))

way-low : (t : ℕ) (s : Split Segment) (h : Heap) → LeadsLow h (way_to t s h)
way-low t s h = chosen (LeadsLow h) (t == size_of s.here) _ _ tt (chosen (LeadsLow h) (nat_lt t (size_of s.here)) _ _ tt (grow-low t s s.after h))

resized-low : (way : Way) (bytes : List ℕ) (s : Split Segment) (h longer : Heap) → base longer ≡ base h → LeadsLow h way
    → place_after s.before + 4 ≤ base h + 4 → (resized_by way bytes s longer).address ≤ base h + 4
resized-low Stays bytes s h longer e low cut = cut
resized-low Shrinks bytes s h longer e low cut = cut
resized-low (GrowsIntoHole size rest) bytes s h longer e low cut = cut
resized-low GrowsAtTop bytes s h longer e low cut = cut
resized-low (MovesToHole hole) bytes s h longer e low cut = low
resized-low MovesToTop bytes s h longer e low cut = omega (arith, e)

-- a resized block
pub resize-low : (n : ℕ) (s : Split Segment) (h : Heap) → place_after s.before + 4 ≤ base h + 4 → (resize_growing n s h).address ≤ base h + 4
resize-low n s h cut = resized-low (way_to (segment_size n) s h) (fitted (block_room n) (bytes_of s.here)) s h (raised (resize_need n s h) h) refl
    (way-low (segment_size n) s h) cut

block-low : (address : ℕ) (h : Heap) → IfSome (block_at address h) (λ s. place_after s.before + 4 ≤ base h + 4)
block-low address h = go (block_at address h) (first_at-cuts size_of (is_block_at address) first_place h.segments)
  where
    go : (o : Option (Split Segment)) → IfSome o (IsCut size_of (is_block_at address) first_place h.segments)
        → IfSome o (λ s. place_after s.before + 4 ≤ base h + 4)
    go None c = tt
    go (Some s) c = cut-low h c

-- ---- what the calls answer

pub grant-of : {A : Type 0} {P : A → Type 0} {g : Granted A} {a : A} → OnGrant P g → g ≡ Ok a → P a
grant-of {A} {P} {g} {a} on e = go on e
  where
    go : {g : Granted A} → OnGrant P g → g ≡ Ok a → P a
    go (granted {x = x} p) e = let q : x ≡ a = cc in subst P q p
    go refused e = absurd (cc)

pub module_claim-low : (free n : ℕ) (h : Heap) → OnGrant (λ (p : Heap × ℕ). p.1 ≤ base h + 4) (module_claim free n h)
unfolding module_claim
module_claim-low free n h = granted-unless _ _ _ (λ e. granted-unless _ _ _ (λ f. granted (claim-low n h)))

pub module_resize-low : (free address : ℕ) (delta : ℤ) (h : Heap) → OnGrant (λ (p : Heap × ℕ). p.1 ≤ base h + 4) (module_resize free address delta h)
unfolding module_resize
module_resize-low free address delta h =
    granted-with _ (found_or-grants _ (block_at address h) _ (block-low address h))
    (λ s low. granted-unless _ _ _ (λ e. granted-unless _ _ _ (λ f. granted (resize-low (new_size delta s) s h low))))

pub slot_claim-low : (free n : ℕ) (s : Slot) → OnGrant (λ (p : Slot × ℕ). p.1 ≤ heap_start + (base s.heap + 4)) (slot_claim free n s)
unfolding slot_claim
slot_claim-low free n s = granted-unless _ _ _ (λ e. granted-unless _ _ _ (λ f. granted-unless _ _ _ (λ g. granted (omega (arith, claim-low n s.heap)))))

pub slot_resize-low : (free address : ℕ) (delta : ℤ) (s : Slot)
    → OnGrant (λ (p : Slot × ℕ). p.1 ≤ heap_start + (base s.heap + 4)) (slot_resize free address delta s)
unfolding slot_resize
slot_resize-low free address delta s =
    granted-with _ (found_or-grants _ (heap_block_at address s) _ (block-low (address - heap_start) s.heap))
    (λ b low. granted-unless _ _ _ (λ e. granted-unless _ _ _ (λ f. granted-unless _ _ _
    (λ g. granted (omega (arith, resize-low (new_size delta b) b s.heap low))))))

pub slot_alloc-low : (free k n : ℕ) (s : Slot) → OnGrant (λ (p : Slot × ℕ). p.1 ≤ 32776 + slot_length s) (slot_alloc free k n s)
unfolding slot_alloc
slot_alloc-low free k n s = granted-unless _ _ _ (λ e. granted-unless _ _ _ (λ f. granted (omega arith)))

pub module_change-moves : (free : ℕ) (delta : ℤ) (h : Heap) → OnGrant (λ (p : Heap × ℕ). p.1 ≡ whole_pages delta) (module_change free delta h)
unfolding module_change
module_change-moves free delta h = granted-unless _ _ _ (λ e. granted-unless _ _ _ (λ f. granted refl))

-- an amount in whole pages is a 32-bit number
pub whole_pages-small : (delta : ℤ) → SFits w32 delta → whole_pages delta < 2 ^ 32
whole_pages-small (pos n) h = omega (arith, ints, h)
whole_pages-small (negsuc n) h = omega (arith, ints, h)
