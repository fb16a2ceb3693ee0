-- What is printed of bytes that may be a slot.
use Rattle.std.specs.Prelude.{ℕ, ◌+◌, true, List, [], ◌∷◌, ◌++◌, codes, length, Option, Some, None, is_some}
use Rattle.std.specs.Fmt.{decimal}
use Rattle.rh_defs.specs.Heap.{first_place}
use Rattle.rh_defs.specs.SlotImage.{slot_of}
use Rattle.rh_defs.specs.Text.{line, ok}
use Rattle.rh_heap.specs.declared.image.Summary.{Summary}
use Rattle.rh_run.specs.Checked.{fault_name}
use Rattle.rh_session.specs.Outcome.{status_of}
use Rattle.rh_session.specs.declared.status.Status.{Status}
use Rattle.rh_slot.specs.SlotChecks.{slot_fault_of, slot_summary}
use Rattle.rh_slot.specs.declared.image.SlotFault.{SlotFault}
use Rattle.rh_slot.specs.declared.image.SlotFault.TheVariants.{BadLength, BadHeap, BadSize, BadAnchor, SparePage}
use Rattle.rh_slot.specs.declared.image.SlotSummary.{SlotSummary}

-- a fault's name as it is printed: behind that of a C heap that is none stands the heap's own fault
abbrev pub slot_fault_name : SlotFault → List ℕ
slot_fault_name BadLength = codes "BadLength"
slot_fault_name (BadHeap fault) = codes "BadHeap " ++ fault_name fault
slot_fault_name BadSize = codes "BadSize"
slot_fault_name BadAnchor = codes "BadAnchor"
slot_fault_name SparePage = codes "SparePage"

-- the line of a fault
abbrev pub slot_fault_line : SlotFault → List ℕ
slot_fault_line fault = line (codes "bad") (slot_fault_name fault ∷ [])

-- the bytes of a heap with these sums: of its descriptor, its segments and its top
abbrev pub heap_length : Summary → ℕ
heap_length s = first_place + s.used_bytes + s.hole_bytes + s.top

-- the line of a slot's sums: BLOCKS, BYTES, HEAP, UNUSED
abbrev pub slot_sums_line : SlotSummary → List ℕ
slot_sums_line s =
    ok (decimal s.blocks ∷ decimal s.bytes ∷ decimal (heap_length s.heap) ∷ decimal s.unused ∷ [])

-- the first fault, or else what a slot consists of
abbrev pub checked_slot_line : Option SlotFault → SlotSummary → List ℕ
checked_slot_line None sums = slot_sums_line sums
checked_slot_line (Some fault) sums = slot_fault_line fault

-- the line of some bytes
abbrev pub slot_image_line : List ℕ → List ℕ
slot_image_line image =
    checked_slot_line (slot_fault_of image) (slot_summary (length image) (slot_of true image))

-- clean exactly where the bytes are a slot
abbrev pub slot_image_status : List ℕ → Status
slot_image_status image = status_of (is_some (slot_fault_of image))
