-- Worked slots and module areas: the definitions compute these answers.
use Rattle.rh_defs.proofs.Common.{◌≡◌, refl, ℕ, ◌-◌, ◌/◌, ℤ, pos, negsuc, Bool, true, false, List, [], ◌∷◌, map, Ok, Err, NotABlock, BadSize, NoRoom, Granted}
use Rattle.rh_defs.proofs.Common.{answer_of, left_of, page_size, Heap, Slot, slot_pages, module_claim, module_free, module_resize, module_change}
use Rattle.rh_defs.specs.declared.refusal.Refusal.TheVariants.{AnchorInUse, BadRange, NoBudge, ExcessiveShrink}
use Rattle.rh_defs.specs.declared.question.BlockItem.{BlockItem}
use Rattle.rh_defs.specs.Heap.{empty_heap}
use Rattle.rh_defs.specs.Slot.{new_slot, slot_alloc, slot_free, slot_extend, slot_mid, slot_put, slot_read, slot_claim, slot_release, slot_resize}
use Rattle.rh_defs.specs.Slot.{slot_take_pages, holds}
use Rattle.rh_defs.specs.Questions.{block_items}
use Rattle.rh_defs.specs.Inner.Computing.{computing_chain, computing_slot, computing_module}

pub data Call : Type 0 where
  Alloc : (k n : ℕ) → Call
  Free : (k : ℕ) → Call
  Extend : (k n : ℕ) → Call
  Mid : (k offset : ℕ) → ℤ → Call
  Put : (k offset : ℕ) → List ℕ → Call
  Claim : ℕ → Call
  Release : ℕ → Call
  Resize : ℕ → ℤ → Call
  Budge : Bool → Call

-- a call that only changes something answers 0
abbrev pub done : {A : Type 0} → A → Granted A → A × Granted ℕ
done old (Ok new) = (new, Ok 0)
done old (Err refusal) = (old, Err refusal)

abbrev pub answered : {A : Type 0} → A → Granted (A × ℕ) → A × Granted ℕ
answered old granted = (left_of old granted, answer_of granted)

-- a call on the one slot of a pool of 64 pages, of which the module area has one
abbrev pub free : Slot → ℕ
free s = 63 - slot_pages s

abbrev pub called : Slot → Call → Slot × Granted ℕ
called s (Alloc k n) = answered s (slot_alloc (free s) k n s)
called s (Free k) = done s (slot_free k s)
called s (Extend k n) = done s (slot_extend (free s) k n s)
called s (Mid k offset by) = done s (slot_mid (free s) k offset by s)
called s (Put k offset bytes) = done s (slot_put k offset bytes s)
called s (Claim n) = answered s (slot_claim (free s) n s)
called s (Release address) = done s (slot_release address s)
called s (Resize address delta) = answered s (slot_resize (free s) address delta s)
called s (Budge on) = (record s { budging = on }, Ok 0)

abbrev pub slot_after : Slot → List Call → Slot
slot_after s [] = s
slot_after s (c ∷ calls) = slot_after (called s c).0 calls

abbrev pub answers : Slot → List Call → List (Granted ℕ)
answers s [] = []
answers s (c ∷ calls) = (called s c).1 ∷ answers (called s c).0 calls

abbrev pub block : ℕ → ℕ → ℕ → BlockItem
block k address size = record { anchor = k; address = address; size = size }

-- `hello` and `world`
abbrev pub hello : List ℕ
hello = 104 ∷ 101 ∷ 108 ∷ 108 ∷ 111 ∷ []

abbrev pub world : List ℕ
world = 119 ∷ 111 ∷ 114 ∷ 108 ∷ 100 ∷ []

-- the C heap grows, and the flex block gives way
abbrev pub budging : List Call
budging = Alloc 0 5 ∷ Put 0 0 hello ∷ Claim 4000 ∷ []

pub budging_answers : answers new_slot budging ≡ Ok 0x9008 ∷ Ok 0 ∷ Ok 0x8114 ∷ []
unfolding computing_slot computing_chain
budging_answers = refl

pub budging_blocks : block_items (slot_after new_slot budging) ≡ block 0 0xA008 5 ∷ []
unfolding computing_slot computing_chain
budging_blocks = refl

pub budging_bytes : slot_read 0 0 5 (slot_after new_slot budging) ≡ Ok hello
unfolding computing_slot computing_chain
budging_bytes = refl

pub budging_off : answers new_slot (Alloc 0 5 ∷ Put 0 0 hello ∷ Budge false ∷ Claim 4000 ∷ []) ≡ Ok 0x9008 ∷ Ok 0 ∷ Ok 0 ∷ Err NoBudge ∷ []
unfolding computing_slot computing_chain
budging_off = refl

-- blocks slide down, and bytes are taken out and put in
abbrev pub sliding : List Call
sliding = Alloc 0 5 ∷ Alloc 1 5 ∷ Alloc 1 5 ∷ Put 1 0 world ∷ Free 0 ∷ Mid 1 2 (negsuc 1) ∷ []

pub sliding_answers : answers new_slot sliding ≡ Ok 0x9008 ∷ Ok 0x9018 ∷ Err AnchorInUse ∷ Ok 0 ∷ Ok 0 ∷ Ok 0 ∷ []
unfolding computing_slot computing_chain
sliding_answers = refl

pub sliding_blocks : block_items (slot_after new_slot sliding) ≡ block 1 0x9008 3 ∷ []
unfolding computing_slot computing_chain
sliding_blocks = refl

pub sliding_bytes : slot_read 1 0 3 (slot_after new_slot sliding) ≡ Ok (114 ∷ 108 ∷ 100 ∷ [])
unfolding computing_slot computing_chain
sliding_bytes = refl

pub sliding_on : answers (slot_after new_slot sliding) (Mid 1 1 (negsuc 1) ∷ Mid 1 3 (pos 2) ∷ Mid 1 6 (pos 1) ∷ []) ≡ Err BadRange ∷ Ok 0 ∷ Err BadRange ∷ []
unfolding computing_slot computing_chain
sliding_on = refl

pub sliding_end : slot_read 1 0 5 (slot_after (slot_after new_slot sliding) (Mid 1 3 (pos 2) ∷ [])) ≡ Ok (114 ∷ 108 ∷ 100 ∷ 0 ∷ 0 ∷ [])
unfolding computing_slot computing_chain
sliding_end = refl

-- the C heap's blocks get other sizes
pub resizing : answers new_slot (Claim 10 ∷ Claim 10 ∷ Resize 0x8114 (pos 1) ∷ Resize 0x8134 (pos 8) ∷ Resize 0x8124 (negsuc 11) ∷ Resize 0x8124 (negsuc 0)
    ∷ Resize 0x8124 (negsuc 7) ∷ Resize 0x8124 (pos 8) ∷ Claim 0 ∷ [])
    ≡ Ok 0x8114 ∷ Ok 0x8124 ∷ Ok 0x8134 ∷ Ok 0x8134 ∷ Err BadSize ∷ Ok 0x8124 ∷ Ok 0x8124 ∷ Ok 0x8124 ∷ Err BadSize ∷ []
unfolding computing_slot computing_chain
resizing = refl

-- a block grows and shrinks below another
abbrev pub extending : List Call
extending = Alloc 0 5 ∷ Alloc 1 5 ∷ Extend 0 9 ∷ []

pub extending_blocks : block_items (slot_after new_slot extending) ≡ block 0 0x9008 9 ∷ block 1 0x901C 5 ∷ []
unfolding computing_slot computing_chain
extending_blocks = refl

pub extending_end : block_items (slot_after (slot_after new_slot extending) (Extend 0 2 ∷ [])) ≡ block 0 0x9008 2 ∷ block 1 0x9014 5 ∷ []
unfolding computing_slot computing_chain
extending_end = refl

-- ranges: whole in a flex block, past its end, whole in a block of the C heap, in a hole's place
pub held : map (λ (r : ℕ × ℕ). holds r.0 r.1 (slot_after new_slot (Alloc 0 5 ∷ Claim 10 ∷ [])))
    ((0x9008, 5) ∷ (0x9009, 5) ∷ (0x9007, 1) ∷ (0x8114, 12) ∷ (0x8114, 13) ∷ (0x8113, 1) ∷ [])
    ≡ true ∷ false ∷ false ∷ true ∷ false ∷ false ∷ []
unfolding computing_slot computing_chain
held = refl

-- sizes that no pool holds are refused, before a block of such a size is thought of
pub huge : answers new_slot (Alloc 0 2147483647 ∷ Alloc 0 5 ∷ Extend 0 2147483647 ∷ Mid 0 5 (pos 2147483647) ∷ Claim 2147483647 ∷ Claim 10 ∷ Resize 0x8114
    (pos 2147483647) ∷ [])
    ≡ Err NoRoom ∷ Ok 0x9008 ∷ Err NoRoom ∷ Err NoRoom ∷ Err NoRoom ∷ Ok 0x8114 ∷ Err NoRoom ∷ []
unfolding computing_slot computing_chain
huge = refl

pub huge_taking : slot_take_pages 2147483647 new_slot ≡ Ok 524289
unfolding computing_slot computing_chain
huge_taking = refl

-- ---- the module area

pub data ModuleCall : Type 0 where
  ModuleClaim : ℕ → ModuleCall
  ModuleFree : ℕ → ModuleCall
  ModuleResize : ℕ → ℤ → ModuleCall
  Change : ℤ → ModuleCall

-- a call on the module area of a pool of 8 pages of which no other area has one
abbrev pub module_called : Heap → ModuleCall → Heap × Granted ℕ
module_called h (ModuleClaim n) = answered h (module_claim (8 - h.end / page_size) n h)
module_called h (ModuleFree address) = done h (module_free address h)
module_called h (ModuleResize address delta) = answered h (module_resize (8 - h.end / page_size) address delta h)
module_called h (Change delta) = answered h (module_change (8 - h.end / page_size) delta h)

abbrev pub module_answers : Heap → List ModuleCall → List (Granted ℕ)
module_answers h [] = []
module_answers h (c ∷ calls) = (module_called h c).1 ∷ module_answers (module_called h c).0 calls

pub huge_module_blocks : module_answers (empty_heap 4096) (ModuleClaim 2147483647 ∷ ModuleClaim 10 ∷ ModuleResize 0x14 (pos 2147483647) ∷ [])
    ≡ Err NoRoom ∷ Ok 0x14 ∷ Err NoRoom ∷ []
unfolding computing_module computing_chain
huge_module_blocks = refl

-- blocks that make the area grow, and an area that shrinks
pub module_blocks : module_answers (empty_heap 4096) (ModuleClaim 4076 ∷ ModuleClaim 1 ∷ Change (negsuc 4095) ∷ ModuleFree 0x1004 ∷ Change (negsuc 4095)
    ∷ ModuleFree 0x1004
    ∷ ModuleResize 0x14 (pos 4096) ∷ ModuleResize 0x14 (negsuc 8171) ∷ ModuleClaim 0 ∷ ModuleClaim 2147483647 ∷ [])
    ≡ Ok 0x14 ∷ Ok 0x1004 ∷ Err ExcessiveShrink ∷ Ok 0 ∷ Ok 4096 ∷ Err NotABlock ∷ Ok 0x14 ∷ Err BadSize ∷ Err BadSize ∷ Err NoRoom ∷ []
unfolding computing_module computing_chain
module_blocks = refl
