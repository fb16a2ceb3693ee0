-- The module area: a heap that is as long as its area, and takes free pages where it is too short. Read Chain and Heap
-- first. n is a number of bytes, h the heap before the call, free the number of free pages, b a cut at the block with
-- an address. `-` of naturals stops at 0: *changed_length* is 0, below each base, where more bytes would go than there
-- are, and a change takes no free pages where the area doesn't get longer. `_ ← refuse_if ..` counts for its refusal
-- alone.
use Rattle.std.specs.Prelude.{◌≡◌, ℕ, ◌+◌, ◌-◌, ◌%◌, ℤ, pos, negsuc, nat_lt, ◌==◌, Ok}
use Rattle.rh_defs.specs.declared.refusal.Refusal.TheVariants.{NotABlock, BadSize, ExcessiveShrink, NoRoom}
use Rattle.rh_defs.specs.Chain.{Granted, ◌>>=◌, refuse_if, found_or}
use Rattle.rh_defs.specs.Pieces.{round_up, page_size, pages_for, lacks_pages}
use Rattle.rh_defs.specs.Heap.{Heap, IsHeap, as_granted, base, block_at, need, claim_growing, released, new_size, resize_need, resize_growing}

-- a heap that fills whole pages, as the module area's does
pub record FillsPages (h : Heap) : Type 0 where
  pub heap : IsHeap h
  pub whole : h.end % page_size ≡ 0

-- a signed amount without its sign
abbrev pub magnitude : ℤ → ℕ
magnitude (pos n) = n
magnitude (negsuc n) = n + 1

-- the bytes that an area gets or loses by an amount: whole pages
abbrev pub whole_pages : ℤ → ℕ
whole_pages delta = round_up page_size (magnitude delta)

-- an area's length after the change; 0 where it would lose more than it has
abbrev pub changed_length : ℕ → ℤ → ℕ
changed_length n (pos by) = n + whole_pages (pos by)
changed_length n (negsuc by) = n - whole_pages (negsuc by)

-- a block of n zeros: the heap, and the block's address
unfoldable pub module_claim : ℕ → ℕ → Heap → Granted (Heap × ℕ)
module_claim free n h = do
  _ ← refuse_if (n == 0) BadSize
  _ ← refuse_if (lacks_pages free (need n h)) NoRoom
  Ok (as_granted (claim_growing n h))

-- the block at an address away
unfoldable pub module_free : ℕ → Heap → Granted Heap
module_free address h = do
  b ← found_or (block_at address h) NotABlock
  Ok (released b h)

-- delta bytes more in the block at an address
unfoldable pub module_resize : ℕ → ℕ → ℤ → Heap → Granted (Heap × ℕ)
module_resize free address delta h = do
  b ← found_or (block_at address h) NotABlock
  _ ← refuse_if (new_size delta b == 0) BadSize
  _ ← refuse_if (lacks_pages free (resize_need (new_size delta b) b h)) NoRoom
  Ok (as_granted (resize_growing (new_size delta b) b h))

-- the area longer or shorter by whole pages: the heap, and the bytes moved
unfoldable pub module_change : ℕ → ℤ → Heap → Granted (Heap × ℕ)
module_change free delta h = do
  _ ← refuse_if (nat_lt (changed_length h.end delta) (base h)) ExcessiveShrink
  _ ← refuse_if (lacks_pages free (changed_length h.end delta - h.end)) NoRoom
  Ok (record h { end = changed_length h.end delta }, whole_pages delta)

-- the pages that a claim of n bytes would take
unfoldable pub module_need_pages : ℕ → Heap → Granted ℕ
module_need_pages n h = do
  _ ← refuse_if (n == 0) BadSize
  Ok (pages_for (need n h))
