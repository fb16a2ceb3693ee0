-- Slots with their bytes renamed: each call does to the renamed slot the same.
use Rattle.rh_laws.proofs.Common.{◌≡◌, ℕ, zero, suc, ◌+◌, ◌-◌, Bool, true, false, cond, List, [], ◌∷◌, ◌++◌, length, map, refl, sym, ap, ◌∙◌, length-map}
use Rattle.rh_laws.proofs.Common.{map-append, take-map, drop-map, Option, Some, None, is_some, ◌==◌, ◌&&◌, ◌||◌, nat_le, nat_lt, ℤ, pos, negsuc, take, drop}
use Rattle.rh_laws.proofs.Common.{option_map, NoBlock, NotABlock, lacks_pages, moved, total, Split, written, zeros, Segment, Used, Heap, Placed, bytes_of}
use Rattle.rh_laws.proofs.Common.{place_after, block_around, claim_growing, new_size, resize_need, resize_growing, fitted, Slot, Flex, flex_weight, Follows}
use Rattle.rh_laws.proofs.Common.{heap_start, slot_pages, flex_address, block_of, heap_block_at, lacks_room, length_with, with_placed, slot_alloc, slot_block}
use Rattle.rh_laws.proofs.Common.{slot_free, slot_extend, slot_mid, slot_put, slot_claim, slot_release, slot_resize, with_heap_bytes, buffer_at, written_in}
use Rattle.rh_defs.specs.SlotImage.{heap_place}
use Rattle.rh_defs.specs.Pieces.{pages_for, is_inside}
use Rattle.rh_defs.specs.Slot.{weight, slot_length, flex_start, is_used, flex_around, holds, with_block_bytes, without, with_heap, opened_at, taken_out}
use Rattle.rh_defs.specs.Slot.{is_stuck}
use Rattle.rh_defs.specs.Places.{roomy_in, written_heap, written_around, written_held, bytes_in_heap, bytes_around, bytes_held, first_bytes, free_from}
use Rattle.rh_laws.specs.Renaming.{renamed_block, renamed_segment, renamed_heap, renamed_slot}
use Rattle.rh_laws.proofs.RenamedParts.{By, follows-by, follows-test, found-by, total-map, cut_by, first_at-map, zeros-map, fitted-map, written-map}
use Rattle.rh_laws.proofs.RenamedHeaps.{renamed_cut, renamed_placed, room-renamed, bytes-renamed, place-renamed, block_at-renamed, block_around-renamed}
use Rattle.rh_laws.proofs.RenamedHeaps.{need-renamed, released-renamed, resize_need-renamed, new_size-renamed, claim-renamed, resize-renamed}

-- a cut of a slot's blocks with their bytes renamed
abbrev pub renamed_here : (ℕ → ℕ) → Split Flex → Split Flex
renamed_here f b = cut_by (renamed_block f) b

-- a slot with its bytes renamed, and an address
abbrev pub renamed_given : (ℕ → ℕ) → Slot × ℕ → Slot × ℕ
renamed_given f p = (renamed_slot f p.0, p.1)

pub some-map : {A : Type 0} (g : A → A) (o : Option A) → is_some (option_map g o) ≡ is_some o
some-map g None = refl
some-map g (Some x) = refl

module _ (f : ℕ → ℕ) where
  abbrev one : Flex → Flex
  one b = renamed_block f b

  abbrev slot_of : Slot → List Flex → Slot
  slot_of s blocks = record { heap = renamed_heap f s.heap; blocks = blocks; budging = s.budging }

  weight-renamed : (b : Flex) → weight (renamed_block f b) ≡ weight b
  weight-renamed b = ap flex_weight (length-map b.bytes f)

  pub weights-renamed : (blocks : List Flex) → total weight (map (renamed_block f) blocks) ≡ total weight blocks
  weights-renamed blocks = total-map weight one weight-renamed blocks

  pub length-renamed : (s : Slot) → slot_length (renamed_slot f s) ≡ slot_length s
  length-renamed s = ap (λ n. heap_place + s.heap.end + n) (weights-renamed s.blocks)

  pub pages-renamed : (s : Slot) → slot_pages (renamed_slot f s) ≡ slot_pages s
  pages-renamed s = ap pages_for (length-renamed s)

  pub address-renamed : (s : Slot) (below : List Flex) → flex_address (renamed_slot f s) (map (renamed_block f) below) ≡ flex_address s below
  address-renamed s below = ap (λ n. flex_start s + n + 8) (weights-renamed below)

  -- ---- finding

  pub block_of-renamed : (k : ℕ) (s : Slot) → block_of k (renamed_slot f s) ≡ option_map (renamed_here f) (block_of k s)
  block_of-renamed k s = first_at-map weight (λ _ b. b.anchor == k) one weight-renamed (λ p b. refl) _ s.blocks

  pub used-renamed : (k : ℕ) (s : Slot) → is_used k (renamed_slot f s) ≡ is_used k s
  used-renamed k s = ap is_some (block_of-renamed k s) ∙ some-map (renamed_here f) (block_of k s)

  pub flex_around-renamed : (x n : ℕ) (s : Slot) → flex_around x n (renamed_slot f s) ≡ option_map (renamed_here f) (flex_around x n s)
  flex_around-renamed x n s = first_at-map weight (λ place b. is_inside x n (place + 8) (length b.bytes)) one weight-renamed (λ p b. ap
      (is_inside x n (p + 8)) (length-map b.bytes f)) _ s.blocks

  pub heap_block_at-renamed : (address : ℕ) (s : Slot) → heap_block_at address (renamed_slot f s) ≡ option_map (renamed_cut f) (heap_block_at address s)
  heap_block_at-renamed address s = block_at-renamed f (address - heap_start) s.heap

  pub holds-renamed : (x n : ℕ) (s : Slot) → holds x n (renamed_slot f s) ≡ holds x n s
  holds-renamed x n s =
      ap (λ o. is_some o || (nat_le heap_start x && is_some (block_around (x - heap_start) n (renamed_heap f s.heap)))) (flex_around-renamed x n s)
      ∙ ap (λ b. b || (nat_le heap_start x && is_some (block_around (x - heap_start) n (renamed_heap f s.heap)))) (some-map (renamed_here f)
      (flex_around x n s))
      ∙ ap (λ o. is_some (flex_around x n s) || (nat_le heap_start x && is_some o)) (block_around-renamed f (x - heap_start) n s.heap)
      ∙ ap (λ b. is_some (flex_around x n s) || (nat_le heap_start x && b)) (some-map (renamed_cut f) (block_around (x - heap_start) n s.heap))

  pub free_from-renamed : (k rest : ℕ) (s : Slot) → free_from k rest (renamed_slot f s) ≡ free_from k rest s
  free_from-renamed k zero s = refl
  free_from-renamed k (suc rest) s =
      ap (λ b. cond b (free_from (k + 1) rest (renamed_slot f s)) (Some k)) (used-renamed k s)
      ∙ ap (λ o. cond (is_used k s) o (Some k)) (free_from-renamed (k + 1) rest s)

  -- ---- edits

  with_bytes-renamed : (b : Split Flex) (bytes : List ℕ) (s : Slot) → with_block_bytes (renamed_here f b) (map f bytes) (renamed_slot f s)
      ≡ renamed_slot f (with_block_bytes b bytes s)
  with_bytes-renamed b bytes s = ap (slot_of s) (sym (map-append one b.before (record { anchor = b.here.anchor; bytes = bytes } ∷ b.after)))

  without-renamed : (b : Split Flex) (s : Slot) → without (renamed_here f b) (renamed_slot f s) ≡ renamed_slot f (without b s)
  without-renamed b s = ap (slot_of s) (sym (map-append one b.before b.after))

  -- ---- rooms

  room-alike : (free w : ℕ) (s : Slot) → lacks_room free (slot_length (renamed_slot f s) + w) (renamed_slot f s) ≡ lacks_room free (slot_length s + w) s
  room-alike free w s = ap (λ l. nat_lt free (pages_for (l + w) - pages_for l)) (length-renamed s)

  room-within : (free n : ℕ) (b : Split Flex) (s : Slot) → lacks_room free (length_with (renamed_here f b) n (renamed_slot f s)) (renamed_slot f s)
      ≡ lacks_room free (length_with b n s) s
  room-within free n b s =
      ap (λ l. nat_lt free (pages_for ((l + flex_weight n) - weight (one b.here)) - pages_for l)) (length-renamed s)
      ∙ ap (λ w. nat_lt free (pages_for ((slot_length s + flex_weight n) - w) - pages_for (slot_length s))) (weight-renamed b.here)

  -- ---- calls

  pub slot_block-renamed : (k : ℕ) (s : Slot) → Follows (By (renamed_here f)) (slot_block k s) (slot_block k (renamed_slot f s))
  unfolding slot_block
  slot_block-renamed k s = found-by (renamed_here f) (block_of k s) _ NoBlock (block_of-renamed k s)

  pub slot_free-renamed : (k : ℕ) (s : Slot) → Follows (By (renamed_slot f)) (slot_free k s) (slot_free k (renamed_slot f s))
  unfolding slot_free
  slot_free-renamed k s = follows-by _ _ (slot_block-renamed k s) λ b. Follows.both (without-renamed b s)

  pub slot_put-renamed : (k offset : ℕ) (bytes : List ℕ) (s : Slot) → Follows (By (renamed_slot f)) (slot_put k offset bytes s) (slot_put k offset
      (map f bytes) (renamed_slot f s))
  unfolding slot_put
  slot_put-renamed k offset bytes s =
      follows-by _ _ (slot_block-renamed k s) λ b.
      follows-test _ _ _ _ _ (ap (λ n. nat_lt n (offset + length (map f bytes))) (length-map b.here.bytes f) ∙ ap (λ n. nat_lt (length b.here.bytes)
      (offset + n)) (length-map bytes f))
      (Follows.both (ap (λ l. with_block_bytes (renamed_here f b) l (renamed_slot f s)) (written-map f b.here.bytes offset bytes) ∙ with_bytes-renamed b
      (written b.here.bytes offset bytes) s))

  pub slot_release-renamed : (address : ℕ) (s : Slot) → Follows (By (renamed_slot f)) (slot_release address s) (slot_release address (renamed_slot f s))
  unfolding slot_release
  slot_release-renamed address s =
      follows-by _ _ (found-by (renamed_cut f) (heap_block_at address s) _ NotABlock (heap_block_at-renamed address s)) λ b.
      Follows.both (ap (λ (h : Heap). with_heap h (renamed_slot f s)) (released-renamed f b s.heap))

  -- ---- places

  pub with_heap_bytes-renamed : (b : Split Segment) (offset : ℕ) (bytes : List ℕ) (s : Slot) → with_heap_bytes (renamed_cut f b) offset
      (map f bytes) (renamed_slot f s) ≡ renamed_slot f (with_heap_bytes b offset bytes s)
  with_heap_bytes-renamed b offset bytes s =
      ap (λ l. heap_slot (map (renamed_segment f) b.before ++ Used (written l offset (map f bytes)) ∷ map (renamed_segment f) b.after)) (bytes-renamed f b.here)
      ∙ ap (λ l. heap_slot (map (renamed_segment f) b.before ++ Used l ∷ map (renamed_segment f) b.after)) (written-map f (bytes_of b.here) offset bytes)
      ∙ ap heap_slot (sym (map-append (renamed_segment f) b.before (Used (written (bytes_of b.here) offset bytes) ∷ b.after)))
    where
      heap_slot : List Segment → Slot
      heap_slot ss = with_heap (record { segments = ss; end = s.heap.end }) (renamed_slot f s)

  pub buffer_at-renamed : (address n : ℕ) (s : Slot) → buffer_at address n (renamed_slot f s) ≡ option_map (renamed_cut f) (buffer_at address n s)
  buffer_at-renamed address n s = ap (roomy_in n) (heap_block_at-renamed address s) ∙ go (heap_block_at address s)
    where
      chosen : (t : Bool) (b : Split Segment) → cond t (Some (renamed_cut f b)) None ≡ option_map (renamed_cut f) (cond t (Some b) None)
      chosen true b = refl
      chosen false b = refl

      go : (o : Option (Split Segment)) → roomy_in n (option_map (renamed_cut f) o) ≡ option_map (renamed_cut f) (roomy_in n o)
      go None = refl
      go (Some b) = ap (λ m. cond (nat_le n m) (Some (renamed_cut f b)) None) (room-renamed f b.here) ∙ chosen (nat_le n (length (bytes_of b.here))) b

  written_heap-renamed : (x : ℕ) (bytes : List ℕ) (o : Option (Split Segment)) (s : Slot) → written_heap x (map f bytes) (option_map
      (renamed_cut f) o) (renamed_slot f s) ≡ renamed_slot f (written_heap x bytes o s)
  written_heap-renamed x bytes None s = refl
  written_heap-renamed x bytes (Some b) s =
      ap (λ p. with_heap_bytes (renamed_cut f b) (x - (heap_start + p + 4)) (map f bytes) (renamed_slot f s)) (place-renamed f b.before)
      ∙ with_heap_bytes-renamed b (x - (heap_start + place_after b.before + 4)) bytes s

  written_around-renamed : (x : ℕ) (bytes : List ℕ) (o : Option (Split Flex)) (s : Slot) → written_around x (map f bytes) (option_map
      (renamed_here f) o) (renamed_slot f s) ≡ renamed_slot f (written_around x bytes o s)
  written_around-renamed x bytes None s =
      ap (λ n. written_heap x (map f bytes) (block_around (x - heap_start) n (renamed_heap f s.heap)) (renamed_slot f s)) (length-map bytes f)
      ∙ ap (λ o. written_heap x (map f bytes) o (renamed_slot f s)) (block_around-renamed f (x - heap_start) (length bytes) s.heap)
      ∙ written_heap-renamed x bytes (block_around (x - heap_start) (length bytes) s.heap) s
  written_around-renamed x bytes (Some b) s =
      ap (λ a. with_block_bytes (renamed_here f b) (written (map f b.here.bytes) (x - a) (map f bytes)) (renamed_slot f s)) (address-renamed s b.before)
      ∙ ap (λ l. with_block_bytes (renamed_here f b) l (renamed_slot f s)) (written-map f b.here.bytes (x - flex_address s b.before) bytes)
      ∙ with_bytes-renamed b (written b.here.bytes (x - flex_address s b.before) bytes) s

  pub written_held-renamed : (x : ℕ) (bytes : List ℕ) (s : Slot) → written_held x (map f bytes) (renamed_slot f s) ≡ renamed_slot f (written_held x bytes s)
  written_held-renamed x bytes s =
      ap (λ n. written_around x (map f bytes) (flex_around x n (renamed_slot f s)) (renamed_slot f s)) (length-map bytes f)
      ∙ ap (λ o. written_around x (map f bytes) o (renamed_slot f s)) (flex_around-renamed x (length bytes) s)
      ∙ written_around-renamed x bytes (flex_around x (length bytes) s) s

  pub written_in-renamed : (x : ℕ) (bytes : List ℕ) (o : Option (Split Segment)) (s : Slot) → written_in x (map f bytes) (option_map
      (renamed_cut f) o) (renamed_slot f s) ≡ renamed_slot f (written_in x bytes o s)
  written_in-renamed x bytes (Some b) s = with_heap_bytes-renamed b 0 bytes s
  written_in-renamed x bytes None s = written_held-renamed x bytes s

  -- bytes that are read at an address
  heap_bytes-renamed : (x n : ℕ) (o : Option (Split Segment)) → bytes_in_heap x n (option_map (renamed_cut f) o) ≡ map f (bytes_in_heap x n o)
  heap_bytes-renamed x n None = refl
  heap_bytes-renamed x n (Some b) =
      ap (λ p. take n (drop (x - (heap_start + p + 4)) (bytes_of (renamed_segment f b.here)))) (place-renamed f b.before)
      ∙ ap (λ l. take n (drop (x - (heap_start + place_after b.before + 4)) l)) (bytes-renamed f b.here)
      ∙ ap (take n) (drop-map f (x - (heap_start + place_after b.before + 4)) (bytes_of b.here))
      ∙ take-map f n (drop (x - (heap_start + place_after b.before + 4)) (bytes_of b.here))

  bytes_around-renamed : (x n : ℕ) (s : Slot) (o : Option (Split Flex)) → bytes_around x n (renamed_slot f s) (option_map (renamed_here f) o)
      ≡ map f (bytes_around x n s o)
  bytes_around-renamed x n s None =
      ap (bytes_in_heap x n) (block_around-renamed f (x - heap_start) n s.heap)
      ∙ heap_bytes-renamed x n (block_around (x - heap_start) n s.heap)
  bytes_around-renamed x n s (Some b) =
      ap (λ a. take n (drop (x - a) (map f b.here.bytes))) (address-renamed s b.before)
      ∙ ap (take n) (drop-map f (x - flex_address s b.before) b.here.bytes)
      ∙ take-map f n (drop (x - flex_address s b.before) b.here.bytes)

  pub bytes_held-renamed : (x n : ℕ) (s : Slot) → bytes_held x n (renamed_slot f s) ≡ map f (bytes_held x n s)
  bytes_held-renamed x n s =
      ap (bytes_around x n (renamed_slot f s)) (flex_around-renamed x n s) ∙ bytes_around-renamed x n s (flex_around x n s)

  pub first_bytes-renamed : (n : ℕ) (o : Option (Split Segment)) → first_bytes n (option_map (renamed_cut f) o) ≡ map f (first_bytes n o)
  first_bytes-renamed n None = refl
  first_bytes-renamed n (Some b) = ap (take n) (bytes-renamed f b.here) ∙ take-map f n (bytes_of b.here)

-- ---- where 0 stays 0

module _ (f : ℕ → ℕ) (zero-is : f 0 ≡ 0) where
  pub slot_alloc-renamed : (free k n : ℕ) (s : Slot) → Follows (By (renamed_given f)) (slot_alloc free k n s) (slot_alloc free k n (renamed_slot f s))
  unfolding slot_alloc
  slot_alloc-renamed free k n s =
      follows-test _ _ _ _ _ (used-renamed f k s)
      (follows-test _ _ _ _ _ (room-alike f free (flex_weight n) s)
      (Follows.both (
      ap (λ bytes. given (map (renamed_block f) s.blocks ++ record { anchor = k; bytes = bytes } ∷ []) (flex_address (renamed_slot f s) (map
      (renamed_block f) s.blocks))) (sym (zeros-map f zero-is n))
      ∙ ap (λ blocks. given blocks (flex_address (renamed_slot f s) (map (renamed_block f) s.blocks))) (sym (map-append (renamed_block f) s.blocks
      (record { anchor = k; bytes = zeros n } ∷ [])))
      ∙ ap (given (map (renamed_block f) (s.blocks ++ record { anchor = k; bytes = zeros n } ∷ []))) (address-renamed f s s.blocks)
      )))
    where
      given : List Flex → ℕ → Slot × ℕ
      given blocks address = (record { heap = renamed_heap f s.heap; blocks = blocks; budging = s.budging }, address)

  pub slot_extend-renamed : (free k n : ℕ) (s : Slot) → Follows (By (renamed_slot f)) (slot_extend free k n s) (slot_extend free k n (renamed_slot f s))
  unfolding slot_extend
  slot_extend-renamed free k n s =
      follows-by _ _ (slot_block-renamed f k s) λ b.
      follows-test _ _ _ _ _ (room-within f free n b s)
      (Follows.both (ap (λ l. with_block_bytes (renamed_here f b) l (renamed_slot f s)) (fitted-map f zero-is n b.here.bytes) ∙ with_bytes-renamed f b
      (fitted n b.here.bytes) s))

  opened-map : (offset : ℕ) (by : ℤ) (bytes : List ℕ) → opened_at offset by (map f bytes) ≡ map f (opened_at offset by bytes)
  opened-map offset (pos by) bytes =
      ap (λ l. l ++ (zeros by ++ drop offset (map f bytes))) (take-map f offset bytes)
      ∙ ap (λ l. map f (take offset bytes) ++ (zeros by ++ l)) (drop-map f offset bytes)
      ∙ ap (λ l. map f (take offset bytes) ++ (l ++ map f (drop offset bytes))) (sym (zeros-map f zero-is by))
      ∙ ap (λ l. map f (take offset bytes) ++ l) (sym (map-append f (zeros by) (drop offset bytes)))
      ∙ sym (map-append f (take offset bytes) (zeros by ++ drop offset bytes))
  opened-map offset (negsuc by) bytes =
      ap (λ l. l ++ drop offset (map f bytes)) (take-map f (offset - (by + 1)) bytes)
      ∙ ap (λ l. map f (take (offset - (by + 1)) bytes) ++ l) (drop-map f offset bytes)
      ∙ sym (map-append f (take (offset - (by + 1)) bytes) (drop offset bytes))

  pub slot_mid-renamed : (free k offset : ℕ) (by : ℤ) (s : Slot) → Follows (By (renamed_slot f)) (slot_mid free k offset by s)
      (slot_mid free k offset by (renamed_slot f s))
  unfolding slot_mid
  slot_mid-renamed free k offset by s =
      follows-by _ _ (slot_block-renamed f k s) λ b.
      follows-test _ _ _ _ _ (ap (λ n. nat_lt n offset || nat_lt offset (taken_out by)) (length-map b.here.bytes f))
      (follows-test _ _ _ _ _ (ap (λ n. lacks_room free (length_with (renamed_here f b) (moved n by) (renamed_slot f s)) (renamed_slot f s))
      (length-map b.here.bytes f) ∙ room-within f free (moved (length b.here.bytes) by) b s)
      (Follows.both (ap (λ l. with_block_bytes (renamed_here f b) l (renamed_slot f s)) (opened-map offset by b.here.bytes) ∙ with_bytes-renamed f b
      (opened_at offset by b.here.bytes) s)))

  given-renamed : (p q : Placed) (s : Slot) → q ≡ renamed_placed f p → with_placed q (renamed_slot f s) ≡ renamed_given f (with_placed p s)
  given-renamed p q s e = ap (λ (r : Placed). with_placed r (renamed_slot f s)) e

  pub slot_claim-renamed : (free n : ℕ) (s : Slot) → Follows (By (renamed_given f)) (slot_claim free n s) (slot_claim free n (renamed_slot f s))
  unfolding slot_claim
  slot_claim-renamed free n s =
      follows-test _ _ _ _ _ refl
      (follows-test _ _ _ _ _ (ap (λ m. is_stuck m s) (need-renamed f n s.heap))
      (follows-test _ _ _ _ _ (ap (lacks_pages free) (need-renamed f n s.heap))
      (Follows.both (given-renamed (claim_growing n s.heap) _ s (claim-renamed f zero-is n s.heap)))))

  pub slot_resize-renamed : (free address : ℕ) (delta : ℤ) (s : Slot) → Follows (By (renamed_given f)) (slot_resize free address delta s)
      (slot_resize free address delta (renamed_slot f s))
  unfolding slot_resize
  slot_resize-renamed free address delta s =
      follows-by _ _ (found-by (renamed_cut f) (heap_block_at address s) _ NotABlock (heap_block_at-renamed f address s)) λ b.
      follows-test _ _ _ _ _ (ap (λ n. n == 0) (new_size-renamed f delta b))
      (follows-test _ _ _ _ _ (ap (λ m. is_stuck m s) (short b))
      (follows-test _ _ _ _ _ (ap (lacks_pages free) (short b))
      (Follows.both (given-renamed (resize_growing (new_size delta b) b s.heap) _ s (
      ap (λ n. resize_growing n (renamed_cut f b) (renamed_heap f s.heap)) (new_size-renamed f delta b) ∙ resize-renamed f zero-is (new_size delta b) b s.heap
      )))))
    where
      short : (b : Split Segment) → resize_need (new_size delta (renamed_cut f b)) (renamed_cut f b) (renamed_heap f s.heap)
          ≡ resize_need (new_size delta b) b s.heap
      short b = ap (λ n. resize_need n (renamed_cut f b) (renamed_heap f s.heap)) (new_size-renamed f delta b) ∙ resize_need-renamed f
          (new_size delta b) b s.heap
