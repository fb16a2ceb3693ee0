use Rattle.rh_slot.proofs.Common.{sym, ap, ◌∙◌, fault_of}
use Rattle.rh_slot.specs.declared.image.SlotFault.TheVariants.{BadHeap}
use Rattle.rh_slot.proofs.ImageLaws.{fault-length, fault-heap, refused}
use Rattle.rh_slot.proofs.image.check.Goals as goal

pub returns-then-not-has_length-clause-fault : goal.returns-then-not-has_length-clause-fault
returns-then-not-has_length-clause-fault c = sym (fault-length _ (sym c.if-not-has_length.ensures))

pub returns-in-Err-clause-ok : goal.returns-in-Err-clause-ok
returns-in-Err-clause-ok c =
    refused _ (BadHeap c.in-Err.fault) (fault-heap _ c.in-Err.fault (sym c.if-not-has_length.ensures)
    (ap fault_of (sym c.heap_bytes.ensures) ∙ sym c.in-Err.ensures.fault))

pub returns-in-Err-clause-fault : goal.returns-in-Err-clause-fault
returns-in-Err-clause-fault c =
    sym (fault-heap _ c.in-Err.fault (sym c.if-not-has_length.ensures) (ap fault_of (sym c.heap_bytes.ensures) ∙ sym c.in-Err.ensures.fault))
