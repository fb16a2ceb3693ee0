-- The numbers of a slot's line are words.
use Rattle.std.proofs.Common.{◌≡◌, ℕ, ◌+◌, ◌<◌, ◌≤◌, ◌^◌, true, List, [], ◌∷◌, length, arith, subst, sym}
use Rattle.rh_defs.specs.Pieces.{total}
use Rattle.rh_defs.specs.Heap.{Segment, Used, Hole, Heap, IsHeap, size_of, hole_size}
use Rattle.rh_defs.specs.Slot.{Flex, Slot, weight, slot_length}
use Rattle.rh_defs.specs.SlotImage.{slot_of}
use Rattle.rh_heap.specs.HeapChecks.{used_size, summary_of}
use Rattle.rh_run.specs.CheckedSlot.{heap_length}
use Rattle.rh_run.specs.Inner.SlotWords.{AreSlotWords}
use Rattle.rh_slot.specs.SlotChecks.{IsSlotImage, flex_size, slot_summary}
use Rattle.rh_slot.specs.declared.image.SlotSummary.{SlotSummary}

both_sizes : (ss : List Segment) → total used_size ss + total hole_size ss ≡ total size_of ss
both_sizes [] = omega arith
both_sizes (Used bytes ∷ ss) = let r = both_sizes ss in omega arith
both_sizes (Hole size ∷ ss) = let r = both_sizes ss in omega arith

-- a heap's sums add up to its end
pub heap_length-end : (h : Heap) → IsHeap h → heap_length (summary_of h) ≡ h.end
heap_length-end h heap = let fits = heap.fits in let r = both_sizes h.segments in omega arith

blocks_counted : (fs : List Flex) → length fs ≤ total weight fs
blocks_counted [] = omega arith
blocks_counted (f ∷ fs) = let r = blocks_counted fs in omega arith

bytes_below : (fs : List Flex) → total flex_size fs ≤ total weight fs
bytes_below [] = omega arith
bytes_below (f ∷ fs) = let r = bytes_below fs in omega arith

slot_sums_below : (n : ℕ) (s : Slot) → IsHeap s.heap → slot_length s ≤ n → n < 2 ^ 32 → AreSlotWords (slot_summary n s)
slot_sums_below n s heap within few =
    let count = blocks_counted s.blocks in
    let bytes = bytes_below s.blocks in
    let end = heap_length-end s.heap heap in
    record {
      blocks = omega arith;
      bytes = omega arith;
      heap = omega arith;
      unused = omega arith;
    }

-- the sums of an image are words
pub slot_sums_are_words : (image : List ℕ) (sums : SlotSummary) → sums ≡ slot_summary (length image) (slot_of true image)
    → IsSlotImage image (slot_of true image) → AreSlotWords sums
slot_sums_are_words image sums e i =
    let most = i.most in
    let w = i.spells.words in
    subst AreSlotWords (sym e) (slot_sums_below (length image) (slot_of true image) w.heap.heap w.within (omega arith))
