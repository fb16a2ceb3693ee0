-- The module area's heap stays one that fills whole pages, and takes no more pages than are free.
use Rattle.rh_defs.proofs.Common.{◌≡◌, ℕ, ◌+◌, ◌/◌, ◌≤◌, ◌%◌, false, refl, arith, List, length, IfSome, ℤ, pos, negsuc, ltb-false, page_size, lacks_pages}
use Rattle.rh_defs.proofs.Common.{zeros}
use Rattle.rh_defs.proofs.Common.{Split, Heap, Segment, IsHeap, size_of, first_place, block_at, is_block_at, need, raised, claim_growing, hole_for}
use Rattle.rh_defs.proofs.Common.{block_room, release_block, new_size, resize_need, resize_growing, way_to, segment_size, fitted, bytes_of, FillsPages}
use Rattle.rh_defs.proofs.Common.{module_claim, module_free, module_resize, module_change, changed_length, poked}
use Rattle.rh_defs.proofs.BlockLaws.{tidy-written, total-written}
use Rattle.rh_defs.proofs.Chains.{OnGrant, granted, granted-with, granted-unless, found_or-grants}
use Rattle.rh_defs.proofs.HeapLists.{IsCut, first_at-cuts}
use Rattle.rh_defs.proofs.HeapKeeps.{claim_growing-heap, released-heap, release-heap, resize_growing-heap}
use Rattle.rh_defs.proofs.ModuleLaws.{placed_in-end, resized_by-end, release_found-end}

-- what a call leaves, where so many pages are free
pub record Fills (free : ℕ) (old new : Heap) : Type 0 where
  pub fills : FillsPages new
  pub room : new.end / page_size ≤ free + old.end / page_size

pub claim_growing-end : (n : ℕ) (h : Heap) → (claim_growing n h).heap.end ≡ (raised (need n h) h).end
claim_growing-end n h = let bytes = zeros (block_room n) in placed_in-end bytes (raised (need n h) h) (hole_for (4 + length bytes) h.segments)

pub resize_growing-end : (n : ℕ) (s : Split Segment) (h : Heap) → (resize_growing n s h).heap.end ≡ (raised (resize_need n s h) h).end
resize_growing-end n s h = resized_by-end (way_to (segment_size n) s h) (fitted (block_room n) (bytes_of s.here)) s (raised (resize_need n s h) h)

-- a heap that grew by whole pages
grown : (free shortage : ℕ) (old new : Heap) → FillsPages old → IsHeap new → new.end ≡ (raised shortage old).end → lacks_pages free shortage ≡ false
    → Fills free old new
grown free shortage old new is heap e room =
    let some = ltb-false _ _ room in
    record {
      fills = record { heap = heap; whole = omega (arith, is.whole, e) };
      room = omega (arith, is.whole, e, some);
    }

pub module_claim-grants : (free n : ℕ) (h : Heap) → FillsPages h → OnGrant (λ (c : Heap × ℕ). Fills free h c.0) (module_claim free n h)
unfolding module_claim
module_claim-grants free n h is =
    granted-unless _ _ _ λ some. granted-unless _ _ _ λ room.
    granted (grown free (need n h) h _ is (claim_growing-heap n h is.heap) (claim_growing-end n h) room)

-- a heap with the same end
pub kept : {old new : Heap} → (free : ℕ) → FillsPages old → IsHeap new → new.end ≡ old.end → Fills free old new
kept free is heap e = record { fills = record { heap = heap; whole = omega (arith, is.whole, e) }; room = omega (arith, e) }

pub block-cuts : (address : ℕ) (h : Heap) → IfSome (block_at address h) (IsCut size_of (is_block_at address) first_place h.segments)
block-cuts address h = first_at-cuts size_of (is_block_at address) first_place h.segments

pub module_free-grants : (free address : ℕ) (h : Heap) → FillsPages h → OnGrant (λ (new : Heap). Fills free h new) (module_free address h)
unfolding module_free
module_free-grants free address h is =
    granted-with _ (found_or-grants _ _ _ (block-cuts address h)) λ b cut.
    granted (kept free is (released-heap (is_block_at address) b h is.heap cut) refl)

pub module_resize-grants : (free address : ℕ) (delta : ℤ) (h : Heap) → FillsPages h
    → OnGrant (λ (c : Heap × ℕ). Fills free h c.0) (module_resize free address delta h)
unfolding module_resize
module_resize-grants free address delta h is =
    granted-with _ (found_or-grants _ _ _ (block-cuts address h)) λ b cut.
    granted-unless _ _ _ λ some. granted-unless _ _ _ λ room.
    granted (grown free (resize_need (new_size delta b) b h) h _ is (resize_growing-heap address (new_size delta b) b h is.heap cut)
    (resize_growing-end (new_size delta b) b h) room)

pub changed-whole : (n : ℕ) (delta : ℤ) → n % page_size ≡ 0 → changed_length n delta % page_size ≡ 0
changed-whole n (pos by) e = omega (arith, e)
changed-whole n (negsuc by) e = omega (arith, e)

pub module_change-grants : (free : ℕ) (delta : ℤ) (h : Heap) → FillsPages h → OnGrant (λ (c : Heap × ℕ). Fills free h c.0) (module_change free delta h)
unfolding module_change
module_change-grants free delta h is =
    granted-unless _ _ _ λ low. granted-unless _ _ _ λ room.
    let whole = changed-whole h.end delta is.whole in
    granted (record {
      fills = record { heap = record { tidy = is.heap.tidy; fits = ltb-false _ _ low; multiple = omega (arith, whole) }; whole = whole };
      room = omega (arith, ltb-false _ _ room, is.whole, whole);
    })

-- ---- releases and writes

pub released-fills : (address : ℕ) (h : Heap) → FillsPages h → FillsPages (release_block address h)
released-fills address h is =
    record { heap = release-heap address h is.heap; whole = omega (arith, is.whole, release_found-end (block_at address h) h) }

pub release-end : (address : ℕ) (h : Heap) → (release_block address h).end ≡ h.end
release-end address h = release_found-end (block_at address h) h

-- bytes that are written into a block
pub poked-fills : (a o : ℕ) (xs : List ℕ) (h : Heap) → FillsPages h → FillsPages (poked a o xs h)
poked-fills a o xs h is = record {
  heap = record {
    tidy = tidy-written false a o xs first_place h.segments is.heap.tidy;
    fits = omega (arith, is.heap.fits, total-written a o xs first_place h.segments);
    multiple = is.heap.multiple;
  };
  whole = is.whole;
}
