-- Worked bytes, and worked writes at addresses: the definitions compute them.
use Rattle.rh_lent_slot.proofs.Common.{◌≡◌, refl, ℕ, true, List, [], ◌∷◌, ◌++◌, length}
use Rattle.rh_lent_slot.proofs.Common.{take, Ok, Err, sym, ap, ◌∙◌, new_slot, BadRange, first_pages, lent_memory_in}
use Rattle.rh_lent_slot.proofs.Common.{pages_memory_over, free_in, slot_write}
use Rattle.std.proofs.Math.Seq.{take-append_seam}
use Rattle.rh_defs.specs.Chain.{result_or}
use Rattle.rh_defs.specs.Heap.{Used}
use Rattle.rh_defs.specs.Slot.{Slot, slot_read}
use Rattle.rh_defs.specs.Inner.Computing.{computing_chain, computing_slot}
use Rattle.rh_defs.proofs.SlotRows.{Alloc, Put, Claim, slot_after, hello}

-- three pages and 100 bytes, of which a slot has one page
pub two_free : (b : List ℕ) → length b ≡ 12388 → free_in b (record { pages = 1; budge = true; slides = 0 }) ≡ 2
two_free b e = rw e refl

pub three_pages : (b : List ℕ) → length b ≡ 12388 → (lent_memory_in b 1 7).pages ≡ 3
unfolding pages_memory_over
three_pages b e = rw e refl

-- a page and more: the first page
pub one_page : (b c : List ℕ) → length b ≡ 4096 → first_pages 1 (b ++ c) ≡ b
one_page b c e = ap (λ k. take k (b ++ c)) (sym e) ∙ take-append_seam b c

-- a slot with `hello` at &9008, and a block of 12 zeros at &8114 of its C heap
abbrev pub filled : Slot
filled = slot_after new_slot (Alloc 0 5 ∷ Put 0 0 hello ∷ Claim 10 ∷ [])

pub written_in_flex : slot_read 0 0 5 (result_or filled (slot_write 0x9009 (1 ∷ 2 ∷ []) filled))
    ≡ Ok (104 ∷ 1 ∷ 2 ∷ 108 ∷ 111 ∷ [])
unfolding computing_slot computing_chain slot_write
written_in_flex = refl

pub written_past_flex : slot_write 0x900C (1 ∷ 2 ∷ []) filled ≡ Err BadRange
unfolding computing_slot computing_chain slot_write
written_past_flex = refl

pub written_in_heap : (result_or filled (slot_write 0x811E (1 ∷ 2 ∷ []) filled)).heap.segments
    ≡ Used (0 ∷ 0 ∷ 0 ∷ 0 ∷ 0 ∷ 0 ∷ 0 ∷ 0 ∷ 0 ∷ 0 ∷ 1 ∷ 2 ∷ []) ∷ []
unfolding computing_slot computing_chain slot_write
written_in_heap = refl

pub written_past_heap : slot_write 0x811F (1 ∷ 2 ∷ []) filled ≡ Err BadRange
unfolding computing_slot computing_chain slot_write
written_past_heap = refl
