-- A heap's sums are no greater than its end.
use Rattle.std.proofs.Common.{◌≡◌, ℕ, ◌<◌, ◌≤◌, ◌^◌, Bool, true, false, List, [], ◌∷◌, arith, subst, sym}
use Rattle.rh_defs.specs.Bytes.{word}
use Rattle.rh_defs.specs.Pieces.{total}
use Rattle.rh_defs.specs.Heap.{Segment, Used, Hole, Heap, IsHeap, IsTidy, size_of, hole_size}
use Rattle.rh_defs.specs.HeapImage.{IsImage, heap_of}
use Rattle.rh_heap.specs.declared.image.Summary.{Summary}
use Rattle.rh_heap.specs.HeapChecks.{used_count, used_size, hole_count, summary_of}
use Rattle.rh_run.specs.Inner.WordSums.{HasWordSums}

used_counted : (ss : List Segment) → total used_count ss ≤ total size_of ss
used_counted [] = omega arith
used_counted (Used bytes ∷ ss) = let r = used_counted ss in omega arith
used_counted (Hole size ∷ ss) = let r = used_counted ss in omega arith

used_below : (ss : List Segment) → total used_size ss ≤ total size_of ss
used_below [] = omega arith
used_below (Used bytes ∷ ss) = let r = used_below ss in omega arith
used_below (Hole size ∷ ss) = let r = used_below ss in omega arith

holes_below : (ss : List Segment) → total hole_size ss ≤ total size_of ss
holes_below [] = omega arith
holes_below (Used bytes ∷ ss) = let r = holes_below ss in omega arith
holes_below (Hole size ∷ ss) = let r = holes_below ss in omega arith

-- no hole is empty
holes_counted : (after_hole : Bool) (ss : List Segment) → IsTidy after_hole ss → total hole_count ss ≤ total size_of ss
holes_counted after_hole [] tidy = omega arith
holes_counted false (Used bytes ∷ ss) tidy = let r = holes_counted false ss tidy.1 in omega arith
holes_counted true (Used bytes ∷ ss) tidy = let r = holes_counted false ss tidy.1 in omega arith
holes_counted false (Hole size ∷ ss) tidy = let r = holes_counted true ss tidy.2 in let some = tidy.0 in omega arith
holes_counted true (Hole size ∷ ss) tidy = absurd tidy

sums_below : (h : Heap) → IsHeap h → h.end < 2 ^ 32 → HasWordSums (summary_of h)
sums_below h heap below =
    let fits = heap.fits in
    record {
      used = let r = used_counted h.segments in omega arith;
      used_bytes = let r = used_below h.segments in omega arith;
      holes = let r = holes_counted false h.segments heap.tidy in omega arith;
      hole_bytes = let r = holes_below h.segments in omega arith;
      top = omega arith;
    }

-- the sums of an image whose length is a word are words
pub sums_are_words : (image : List ℕ) (sums : Summary) → sums ≡ summary_of (heap_of image 0) → IsImage image (heap_of image 0) → word image 12 < 2 ^ 32
    → HasWordSums sums
sums_are_words image sums e i below =
    let last = i.spells.last in
    subst HasWordSums (sym e) (sums_below (heap_of image 0) i.spells.heap (omega arith))
