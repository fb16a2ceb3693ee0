-- The status of bytes that may have a slot, by what its calls test.
use Rattle.std.proofs.Common.{◌≡◌, ◌≢◌, ℕ, List, length, arith}
use Rattle.std.proofs.lemmas.Bool.Decides.{nat_tests}
use Rattle.rh_defs.specs.declared.heap.HeapFault.TheVariants as heap
use Rattle.rh_lent_slot.specs.LentSlotChecks.{pages_fault_of}
use Rattle.rh_lent_slot.specs.declared.slot.LentSlot.{LentSlot}
use Rattle.rh_slot.specs.declared.image.SlotFault.{SlotFault}
use Rattle.rh_slot.specs.declared.image.SlotFault.TheVariants as fault
use Rattle.vf_flex.specs.SlotStatus.{fault_status, found_status, image_status, slot_status}

module _ (b : List ℕ) (s : LentSlot) where
  -- where the pages lie in the bytes the status is that of their first fault
  pub looked_at : slot_status (length b) s ≡ 0 → image_status b s ≡ found_status (pages_fault_of b s)
  unfolding image_status
  looked_at e = grind (arith, nat_tests)

  pub passed_over : slot_status (length b) s ≢ 0 → slot_status (length b) s ≡ image_status b s
  unfolding image_status
  passed_over e = grind (arith, nat_tests)

-- no fault has the status of what is done
pub not_done : (f : SlotFault) → fault_status f ≢ 0
not_done fault.BadLength e = absurd cc
not_done (fault.BadHeap heap.BadDescriptor) e = absurd cc
not_done (fault.BadHeap heap.BadLink) e = absurd cc
not_done (fault.BadHeap heap.BadSize) e = absurd cc
not_done fault.BadSize e = absurd cc
not_done fault.BadAnchor e = absurd cc
not_done fault.SparePage e = absurd cc
