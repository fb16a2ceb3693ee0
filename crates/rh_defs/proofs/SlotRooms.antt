-- How many bytes and pages a slot takes after an edit, by numbers.
use Rattle.rh_defs.proofs.Common.{◌≡◌, ℕ, ◌+◌, ◌-◌, ◌≤◌, List, [], ◌∷◌, ◌++◌, length, ap, arith, length-append, length-take, length-drop, length-replicate, ℤ}
use Rattle.rh_defs.proofs.Common.{pos, negsuc, pages_for, moved, zeros, total, Split, Heap, fitted, raised, Slot, Flex, weight, flex_weight, slot_length}
use Rattle.rh_defs.proofs.Common.{slot_pages, with_heap}
use Rattle.rh_defs.specs.Slot.{with_block, with_block_bytes, length_with, opened_at, taken_out}
use Rattle.rh_defs.proofs.Cuts.{total-append}

-- one more block
pub length-with_block : (k : ℕ) (bytes : List ℕ) (s : Slot) → slot_length (with_block k bytes s) ≡ slot_length s + flex_weight (length bytes)
length-with_block k bytes s = omega (arith, total-append weight s.blocks (record { anchor = k; bytes = bytes } ∷ []))

pub length-with_zeros : (k n : ℕ) (s : Slot) → slot_length (with_block k (zeros n) s) ≡ slot_length s + flex_weight n
length-with_zeros k n s = omega (arith, total-append weight s.blocks (record { anchor = k; bytes = zeros n } ∷ []), length-replicate {A = ℕ} n 0)

-- other bytes in a block
pub length-with_bytes : (b : Split Flex) (bytes : List ℕ) (s : Slot) → s.blocks ≡ b.before ++ b.here ∷ b.after
    → slot_length (with_block_bytes b bytes s) ≡ length_with b (length bytes) s
length-with_bytes b bytes s whole =
    omega (
      arith,
      total-append weight b.before (record { anchor = b.here.anchor; bytes = bytes } ∷ b.after),
      total-append weight b.before (b.here ∷ b.after),
      ap (total weight) whole,
    )

-- a longer C heap: the pages of what it grew by
pub pages-with_heap : (shortage : ℕ) (h : Heap) (s : Slot) → h.end ≡ (raised shortage s.heap).end
    → slot_pages (with_heap h s) ≡ slot_pages s + pages_for shortage
pages-with_heap shortage h s e = omega (arith, e)

-- ---- lengths of bytes

pub length-fitted : (n : ℕ) (bytes : List ℕ) → length (fitted n bytes) ≡ n
length-fitted n bytes = simp (length-append, length-take) (omega (arith, length-replicate {A = ℕ} (n - length bytes) 0))

-- zeros put in, or bytes taken out, inside the block
pub length-opened_at : (offset : ℕ) (by : ℤ) (bytes : List ℕ) → offset ≤ length bytes → taken_out by ≤ offset
    → length (opened_at offset by bytes) ≡ moved (length bytes) by
length-opened_at offset (pos by) bytes inside out = simp (length-append, length-take, length-drop) (omega (arith, length-replicate {A = ℕ} by 0))
length-opened_at offset (negsuc by) bytes inside out = simp (length-append, length-take, length-drop) (omega arith)
