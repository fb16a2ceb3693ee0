-- A slot stays one after each call on it, and takes no more pages than are free.
use Rattle.rh_defs.proofs.Common.{◌≡◌, ℕ, ◌+◌, ◌-◌, ◌≤◌, ◌<◌, Bool, true, false, cond, refl, sym, ap, subst, ◌∙◌, arith, List, ◌∷◌, ◌++◌, length}
use Rattle.rh_defs.proofs.Common.{length-append, length-take, length-drop, Option, Some, None, IfSome, ℤ, ◌==◌, ◌||◌, nat_lt, nat_le, nat_tests, ltb-false}
use Rattle.rh_defs.proofs.Common.{Granted, Split, total, moved, pages_for, lacks_pages, Heap, Segment, Used, Hole, IsHeap, IsTidy, size_of, bytes_of}
use Rattle.rh_defs.proofs.Common.{first_place, place_after, is_block_at, need, raised, new_size, resize_need, released, fitted, Slot, Flex, IsSlot}
use Rattle.rh_defs.proofs.Common.{HaveAnchors, weight, flex_weight, slot_length, slot_pages, flex_start, heap_start, with_heap, anchor_count}
use borrow.Author.Tests.{leb-true}
use Rattle.rh_defs.specs.Chain.{result_or}
use Rattle.rh_defs.specs.Pieces.{written, is_inside}
use Rattle.rh_defs.specs.Heap.{block_around, is_around}
use Rattle.rh_defs.specs.Slot.{flex_address, block_of, flex_around, heap_block_at, with_block_bytes, length_with, lacks_room, opened_at, taken_out, slot_begin}
use Rattle.rh_defs.specs.Slot.{slot_alloc, slot_block, slot_free, slot_extend, slot_mid, slot_put, slot_claim, slot_release, slot_resize}
use Rattle.rh_defs.specs.Places.{with_heap_bytes, roomy_in, buffer_at, written_heap, written_around, written_in, written_held}
use Rattle.rh_defs.specs.IncomingEvents.{without_buffer}
use Rattle.rh_defs.proofs.Chains.{OnGrant, granted, refused, granted-with, granted-unless, found_or-grants}
use Rattle.rh_defs.proofs.Cuts.{IsCut, first_at-cuts, cut-total, total-append}
use Rattle.rh_defs.proofs.HeapLists as lists
use Rattle.rh_defs.proofs.HeapLists.{tidy_other}
use Rattle.rh_defs.proofs.HeapKeeps.{claim_growing-heap, released-heap, resize_growing-heap}
use Rattle.rh_defs.proofs.ModuleKeeps.{claim_growing-end, resize_growing-end, block-cuts}
use Rattle.rh_defs.proofs.SlotLaws.{HaveAnchors-cut}
use Rattle.rh_defs.proofs.SlotRooms.{length-with_zeros, length-with_bytes, length-fitted, length-opened_at, pages-with_heap}
use Rattle.rh_defs.proofs.Anchors.{is_free, anchors-here, anchors-append}

-- what a call leaves of a slot, where so many pages are free
pub record IsRoomed (free : ℕ) (old new : Slot) : Type 0 where
  pub room : slot_pages new ≤ free + slot_pages old
  pub slot : IsSlot new

-- the block of an anchor, cut out
abbrev pub AtAnchor : ℕ → Slot → Split Flex → Type 0
AtAnchor k s b = IsCut weight (λ _ c. c.anchor == k) (flex_start s) s.blocks b

block-grants : (k : ℕ) (s : Slot) → OnGrant (AtAnchor k s) (slot_block k s)
unfolding slot_block
block-grants k s = found_or-grants (AtAnchor k s) (block_of k s) _ (first_at-cuts weight (λ _ b. b.anchor == k) (flex_start s) s.blocks)

-- other bytes in a block
bytes-slot : {test : ℕ → Flex → Bool} {place : ℕ} (b : Split Flex) (bytes : List ℕ) (s : Slot) → IsCut weight test place s.blocks b → IsSlot s
    → IsSlot (with_block_bytes b bytes s)
bytes-slot b bytes s cut is =
    record {
      heap = is.heap;
      anchors = anchors-here b.here (record { anchor = b.here.anchor; bytes = bytes }) b.after refl b.before (subst HaveAnchors (sym cut.whole) is.anchors);
    }

bytes-room : {test : ℕ → Flex → Bool} {place : ℕ} (free n : ℕ) (b : Split Flex) (bytes : List ℕ) (s : Slot) → IsCut weight test place s.blocks b
    → length bytes ≡ n → lacks_room free (length_with b n s) s ≡ false → IsSlot s → IsRoomed free s (with_block_bytes b bytes s)
bytes-room free n b bytes s cut e room is =
    let size : slot_length (with_block_bytes b bytes s) ≡ length_with b n s = length-with_bytes b bytes s (sym cut.whole) ∙ ap (λ m. length_with b m s) e in
    let some : pages_for (length_with b n s) - slot_pages s ≤ free = ltb-false _ _ room in
    record { room = omega (arith, ap pages_for size, some); slot = bytes-slot b bytes s cut is }

-- as many bytes as before
same-room : {test : ℕ → Flex → Bool} {place : ℕ} (b : Split Flex) (bytes : List ℕ) (s : Slot) → IsCut weight test place s.blocks b
    → length bytes ≡ length b.here.bytes → slot_pages (with_block_bytes b bytes s) ≡ slot_pages s
same-room b bytes s cut e =
    ap pages_for (omega (
      arith,
      ap flex_weight e,
      total-append weight b.before (record { anchor = b.here.anchor; bytes = bytes } ∷ b.after),
      cut-total cut,
    ))

-- ---- flex blocks

pub slot_begin-grants : (free : ℕ) → OnGrant (λ s. (slot_pages s ≤ free) × IsSlot s) (slot_begin free)
unfolding slot_begin
slot_begin-grants free =
    granted-unless _ _ _ λ room. granted
    (omega (arith, ltb-false _ _ room), record { heap = record { tidy = tt; fits = omega arith; multiple = omega arith }; anchors = tt })

pub slot_alloc-grants : (free k n : ℕ) (s : Slot) → k < anchor_count → IsSlot s → OnGrant (λ (p : Slot × ℕ). IsRoomed free s p.0) (slot_alloc free k n s)
unfolding slot_alloc
slot_alloc-grants free k n s small is =
    granted-unless _ _ _ λ unused.
    granted-unless _ _ _ λ room.
    granted (record {
      room = omega (arith, ltb-false _ _ room, ap pages_for (length-with_zeros k n s));
      slot = record { heap = is.heap; anchors = anchors-append s.blocks _ is.anchors (is_free weight k (flex_start s) s.blocks unused) small };
    })

pub slot_free-grants : (free k : ℕ) (s : Slot) → IsSlot s → OnGrant (λ (new : Slot). IsRoomed free s new) (slot_free k s)
unfolding slot_free
slot_free-grants free k s is =
    granted-with _ (block-grants k s) λ b cut.
    let apart = HaveAnchors-cut b.before b.here b.after (subst HaveAnchors (sym cut.whole) is.anchors) in
    granted (record {
      room = omega (arith, total-append weight b.before b.after, cut-total cut);
      slot = record { heap = is.heap; anchors = apart.rest };
    })

pub slot_extend-grants : (free k n : ℕ) (s : Slot) → IsSlot s → OnGrant (λ (new : Slot). IsRoomed free s new) (slot_extend free k n s)
unfolding slot_extend
slot_extend-grants free k n s is =
    granted-with _ (block-grants k s) λ b cut.
    granted-unless _ _ _ λ room.
    granted (bytes-room free n b (fitted n b.here.bytes) s cut (length-fitted n b.here.bytes) room is)

neither : (a b : Bool) → (a || b) ≡ false → (a ≡ false) × (b ≡ false)
neither true b e = absurd cc
neither false b e = (refl, e)

pub slot_mid-grants : (free k offset : ℕ) (by : ℤ) (s : Slot) → IsSlot s → OnGrant (λ (new : Slot). IsRoomed free s new) (slot_mid free k offset by s)
unfolding slot_mid
slot_mid-grants free k offset by s is =
    granted-with _ (block-grants k s) λ b cut.
    granted-unless _ _ _ λ inside. granted-unless _ _ _ λ room.
    let range = neither (nat_lt (length b.here.bytes) offset) (nat_lt offset (taken_out by)) inside in
    granted (bytes-room free (moved (length b.here.bytes) by) b (opened_at offset by b.here.bytes) s cut
    (length-opened_at offset by b.here.bytes (ltb-false _ _ range.0) (ltb-false _ _ range.1)) room is)

-- bytes written over a range that is whole inside leave the length
pub length-written : (bytes : List ℕ) (offset : ℕ) (new : List ℕ) → offset + length new ≤ length bytes → length (written bytes offset new) ≡ length bytes
length-written bytes offset new h =
    simp (length-append, length-take, length-drop) (omega arith)

pub slot_put-grants : (free k offset : ℕ) (bytes : List ℕ) (s : Slot) → IsSlot s → OnGrant (λ (new : Slot). IsRoomed free s new) (slot_put k offset bytes s)
unfolding slot_put
slot_put-grants free k offset bytes s is =
    granted-with _ (block-grants k s) λ b cut.
    granted-unless _ _ _ λ inside.
    let same = same-room b (written b.here.bytes offset bytes) s cut (length-written b.here.bytes offset bytes (ltb-false _ _ inside)) in
    granted (record { room = omega (arith, same); slot = bytes-slot b (written b.here.bytes offset bytes) s cut is })

-- ---- the C heap

heap-slot : (h : Heap) (s : Slot) → IsHeap h → IsSlot s → IsSlot (with_heap h s)
heap-slot h s heap is = record { heap = heap; anchors = is.anchors }

grown-room : (free shortage : ℕ) (h : Heap) (s : Slot) → h.end ≡ (raised shortage s.heap).end → lacks_pages free shortage ≡ false → IsHeap h → IsSlot s
    → IsRoomed free s (with_heap h s)
grown-room free shortage h s e room heap is =
    record { room = omega (arith, ltb-false _ _ room, pages-with_heap shortage h s e); slot = heap-slot h s heap is }

pub slot_claim-grants : (free n : ℕ) (s : Slot) → IsSlot s → OnGrant (λ (p : Slot × ℕ). IsRoomed free s p.0) (slot_claim free n s)
unfolding slot_claim
slot_claim-grants free n s is =
    granted-unless _ _ _ λ some. granted-unless _ _ _ λ budges. granted-unless _ _ _ λ room.
    granted (grown-room free (need n s.heap) _ s (claim_growing-end n s.heap) room (claim_growing-heap n s.heap is.heap) is)

pub slot_release-grants : (free address : ℕ) (s : Slot) → IsSlot s → OnGrant (λ (new : Slot). IsRoomed free s new) (slot_release address s)
unfolding slot_release
slot_release-grants free address s is =
    granted-with _ (found_or-grants _ _ _ (block-cuts (address - heap_start) s.heap)) λ b cut.
    granted (record { room = omega arith; slot = heap-slot (released b s.heap) s (released-heap _ b s.heap is.heap cut) is })

pub slot_resize-grants : (free address : ℕ) (delta : ℤ) (s : Slot) → IsSlot s
    → OnGrant (λ (p : Slot × ℕ). IsRoomed free s p.0) (slot_resize free address delta s)
unfolding slot_resize
slot_resize-grants free address delta s is =
    granted-with _ (found_or-grants _ _ _ (block-cuts (address - heap_start) s.heap)) λ b cut.
    granted-unless _ _ _ λ some. granted-unless _ _ _ λ budges. granted-unless _ _ _ λ room.
    granted (grown-room free (resize_need (new_size delta b) b s.heap) _ s (resize_growing-end (new_size delta b) b s.heap) room
    (resize_growing-heap (address - heap_start) (new_size delta b) b s.heap is.heap cut) is)

-- ---- bytes written at an address

-- what an edit keeps that takes no page
pub record IsKept (old new : Slot) : Type 0 where
  pub pages : slot_pages new ≤ slot_pages old
  pub slot : IsSlot new

pub kept-same : (s : Slot) → IsSlot s → IsKept s s
kept-same s is = record { pages = omega arith; slot = is }

-- bytes written whole inside a block of the C heap
heap_bytes-kept : {test : ℕ → Segment → Bool} (b : Split Segment) (old : List ℕ) (offset : ℕ) (bytes : List ℕ) (s : Slot) → IsSlot s
    → lists.IsCut size_of test first_place s.heap.segments b → b.here ≡ Used old → offset + length bytes ≤ length old
    → IsKept s (with_heap_bytes b offset bytes s)
heap_bytes-kept b old offset bytes s is cut used inside =
    let new = written (bytes_of b.here) offset bytes in
    let size : length new ≡ length old =
    length-written (bytes_of b.here) offset bytes (omega (arith, ap (λ g. length (bytes_of g)) used)) ∙ ap (λ g. length (bytes_of g)) used in
    let whole : s.heap.segments ≡ b.before ++ Used old ∷ b.after = cut.whole ∙ ap (λ g. b.before ++ g ∷ b.after) used in
    let tidy : IsTidy false (b.before ++ Used old ∷ b.after) = subst (IsTidy false) whole is.heap.tidy in
    let behind = lists.tidy_behind_used false b.before old b.after tidy in
    record {
      pages = omega arith;
      slot = record {
        heap = record {
          tidy = tidy_other false b.before old new b.after (omega (arith, behind.0, size)) tidy;
          fits =
              omega (
                arith,
                is.heap.fits,
                size,
                ap (total size_of) whole,
                lists.total-append b.before (Used new ∷ b.after),
                lists.total-append b.before (Used old ∷ b.after),
              );
          multiple = is.heap.multiple;
        };
        anchors = is.anchors;
      };
    }

is_inside-true : (x n a m : ℕ) → is_inside x n a m ≡ true → (a ≤ x) × (x + n ≤ a + m)
is_inside-true x n a m e = grind (arith, nat_tests)

around-used : (x n place : ℕ) (g : Segment) → is_around x n place g ≡ true
    → (g ≡ Used (bytes_of g)) × ((place + 4 ≤ x) × (x + n ≤ place + 4 + length (bytes_of g)))
around-used x n place (Used bytes) e = (refl, is_inside-true x n (place + 4) (length bytes) e)
around-used x n place (Hole size) e = absurd cc

-- bytes written inside the block of the C heap that holds them
written_heap-kept : (x : ℕ) (bytes : List ℕ) (s : Slot) (o : Option (Split Segment)) → IsSlot s
    → IfSome o (lists.IsCut size_of (is_around (x - heap_start) (length bytes)) first_place s.heap.segments) → IsKept s (written_heap x bytes o s)
written_heap-kept x bytes s None is c = kept-same s is
written_heap-kept x bytes s (Some b) is c =
    let found = around-used (x - heap_start) (length bytes) (first_place + total size_of b.before) b.here c.passes in
    heap_bytes-kept b (bytes_of b.here) (x - (heap_start + place_after b.before + 4)) bytes s is c found.0 (omega (arith, found.1.0, found.1.1))

-- and inside the flex block that does
written_around-kept : (x : ℕ) (bytes : List ℕ) (s : Slot) (o : Option (Split Flex)) → IsSlot s
    → IfSome o (IsCut weight (λ place b. is_inside x (length bytes) (place + 8) (length b.bytes)) (flex_start s) s.blocks)
    → IsKept s (written_around x bytes o s)
written_around-kept x bytes s None is c =
    written_heap-kept x bytes s (block_around (x - heap_start) (length bytes) s.heap) is
    (lists.first_at-cuts size_of (is_around (x - heap_start) (length bytes)) first_place s.heap.segments)
written_around-kept x bytes s (Some b) is c =
    let inside = is_inside-true x (length bytes) ((flex_start s + total weight b.before) + 8) (length b.here.bytes) c.passes in
    let new = written b.here.bytes (x - flex_address s b.before) bytes in
    let same = same-room b new s c (length-written b.here.bytes (x - flex_address s b.before) bytes (omega (arith, inside.0, inside.1))) in
    record { pages = omega (arith, same); slot = bytes-slot b new s c is }

-- a buffer is a block with room for so many bytes
record IsBuffer (n : ℕ) (s : Slot) (b : Split Segment) : Type 0 where
  old : List ℕ
  used : b.here ≡ Used old
  room : n ≤ length old
  address : ℕ
  cut : lists.IsCut size_of (is_block_at address) first_place s.heap.segments b

buffer_at-is : (address n : ℕ) (s : Slot) → IfSome (buffer_at address n s) (IsBuffer n s)
buffer_at-is address n s = go (heap_block_at address s) (block-cuts (address - heap_start) s.heap)
  where
    at-block : (a place : ℕ) (g : Segment) → is_block_at a place g ≡ true → g ≡ Used (bytes_of g)
    at-block a place (Used bytes) e = refl
    at-block a place (Hole size) e = absurd cc

    roomy : (b : Split Segment) → lists.IsCut size_of (is_block_at (address - heap_start)) first_place s.heap.segments b → (t : Bool)
        → nat_le n (length (bytes_of b.here)) ≡ t → IfSome (cond t (Some b) None) (IsBuffer n s)
    roomy b c true e = record { old = bytes_of b.here; used = at-block _ _ b.here c.passes; room = leb-true _ _ e; address = address - heap_start; cut = c }
    roomy b c false e = tt

    go : (o : Option (Split Segment)) → IfSome o (lists.IsCut size_of (is_block_at (address - heap_start)) first_place s.heap.segments)
        → IfSome (roomy_in n o) (IsBuffer n s)
    go None c = tt
    go (Some b) c = roomy b c (nat_le n (length (bytes_of b.here))) refl

-- bytes written at an address, no more than the range that was asked for
pub written_in-kept : (x n : ℕ) (bytes : List ℕ) (s : Slot) → length bytes ≤ n → IsSlot s → IsKept s (written_in x bytes (buffer_at x n s) s)
written_in-kept x n bytes s few is = go (buffer_at x n s) (buffer_at-is x n s)
  where
    go : (o : Option (Split Segment)) → IfSome o (IsBuffer n s) → IsKept s (written_in x bytes o s)
    go (Some b) w = heap_bytes-kept b w.old 0 bytes s is w.cut w.used (let room = w.room in omega (arith, few, room))
    go None w =
        written_around-kept x bytes s (flex_around x (length bytes) s) is
        (first_at-cuts weight (λ place b. is_inside x (length bytes) (place + 8) (length b.bytes)) (flex_start s) s.blocks)

-- bytes written at an address, into the block that holds them
pub written_held-kept : (x : ℕ) (bytes : List ℕ) (s : Slot) → IsSlot s → IsKept s (written_held x bytes s)
written_held-kept x bytes s is =
    written_around-kept x bytes s (flex_around x (length bytes) s) is
    (first_at-cuts weight (λ place b. is_inside x (length bytes) (place + 8) (length b.bytes)) (flex_start s) s.blocks)

-- a slot that takes no more pages has room
pub kept-roomed : (free : ℕ) (old new : Slot) → IsKept old new → IsRoomed free old new
kept-roomed free old new kept = record { room = omega (arith, kept.pages); slot = kept.slot }

-- the buffer goes
pub without_buffer-kept : (address : ℕ) (s : Slot) → IsSlot s → IsKept s (without_buffer address s)
without_buffer-kept address s is = go (slot_release-grants 0 address s is)
  where
    go : {r : Granted Slot} → OnGrant (λ (new : Slot). IsRoomed 0 s new) r → IsKept s (result_or s r)
    go (granted w) = record { pages = omega (arith, w.room); slot = w.slot }
    go refused = kept-same s is
