-- Statuses: how a call ended, as a number.
use Rattle.std.specs.Prelude.{ℕ, ◌-◌, ◌/◌, ◌==◌, nat_le, nat_lt, ◌&&◌, if◌then◌else◌, List, length, Option, Some, None, Ok, Err}
use Rattle.rh_defs.specs.Chain.{Granted, answer_of}
use Rattle.rh_defs.specs.Slot.{Slot, anchor_count, slot_start}
use Rattle.rh_defs.specs.declared.heap.HeapFault.{HeapFault}
use Rattle.rh_defs.specs.declared.heap.HeapFault.TheVariants as heap
use Rattle.rh_defs.specs.declared.refusal.Refusal.{Refusal}
use Rattle.rh_defs.specs.declared.refusal.Refusal.TheVariants.{NoBlock, AnchorInUse, NotABlock, BadRange, BadSize, NoBudge, NoRoom}
use Rattle.rh_defs.specs.declared.sizes.TheConstants.{PAGE}
use Rattle.rh_lent_slot.specs.LentSlotChecks.{pages_fault_of}
use Rattle.rh_lent_slot.specs.declared.slot.LentSlot.{LentSlot}
use Rattle.rh_slot.specs.declared.image.SlotFault.{SlotFault}
use Rattle.rh_slot.specs.declared.image.SlotFault.TheVariants as fault
use Rattle.rh_slot.specs.declared.image.TheConstants.{LONGEST_SLOT}

-- the status of a refusal: its number in the one order of all refusals; the last is for those that no slot has
abbrev pub refusal_status : Refusal → ℕ
refusal_status NoBlock = 6
refusal_status AnchorInUse = 7
refusal_status NotABlock = 8
refusal_status BadRange = 13
refusal_status BadSize = 14
refusal_status NoBudge = 19
refusal_status NoRoom = 20
refusal_status _ = 63

-- no slot has so many bytes
abbrev pub bad_length : ℕ
bad_length = 33

-- the bytes are fewer than the slot's
abbrev pub short : ℕ
short = 34

-- no slot has this anchor
abbrev pub bad_anchor : ℕ
bad_anchor = 38

-- no slot was started
abbrev pub no_slot : ℕ
no_slot = 39

-- the status of a fault of the C heap: that of a heap
abbrev pub heap_fault_status : HeapFault → ℕ
heap_fault_status heap.BadDescriptor = 35
heap_fault_status heap.BadLink = 36
heap_fault_status heap.BadSize = 37

-- the status of a fault
abbrev pub fault_status : SlotFault → ℕ
fault_status fault.BadLength = bad_length
fault_status (fault.BadHeap f) = heap_fault_status f
fault_status fault.BadSize = 40
fault_status fault.BadAnchor = 41
fault_status fault.SparePage = 42

-- the status of the first fault, 0 where there is none
abbrev pub found_status : Option SlotFault → ℕ
found_status None = 0
found_status (Some f) = fault_status f

-- the status of an answer
abbrev pub answer_status : {A : Type 0} → Granted A → ℕ
answer_status (Ok x) = 0
answer_status (Err refusal) = refusal_status refusal

-- the number that is answered, or the old one
abbrev pub answer_or : Granted ℕ → ℕ → ℕ
answer_or (Ok n) old = n
answer_or (Err refusal) old = old

-- the address that is answered as a place, or the old place
abbrev pub place_or : Granted ℕ → ℕ → ℕ
place_or (Ok address) old = address - slot_start
place_or (Err refusal) old = old

-- the status of a call that is granted this
abbrev pub status_of : {A : Type 0} → Granted (Slot × A) → ℕ
status_of granted = answer_status (answer_of granted)

-- 0 where so many bytes may have a slot: from a page up to 28 MiB
unfoldable pub length_status : ℕ → ℕ
length_status n = if nat_le PAGE n && nat_le n LONGEST_SLOT then 0 else bad_length

-- 0 where the pages of a slot that was started lie in so many bytes
unfoldable pub slot_status : ℕ → LentSlot → ℕ
slot_status n s =
    if length_status n == 0 then
    (if s.pages == 0 then no_slot else if nat_lt (n / PAGE) s.pages then short else 0)
    else length_status n

-- 0 where besides the slot has this anchor
unfoldable pub anchor_status : ℕ → LentSlot → ℕ → ℕ
anchor_status n s k =
    if slot_status n s == 0 then (if nat_lt k anchor_count then 0 else bad_anchor) else slot_status n s

-- 0 where besides a place lies in the bytes; no block begins elsewhere
unfoldable pub place_status : ℕ → LentSlot → ℕ → ℕ
place_status n s x =
    if slot_status n s == 0 then (if nat_lt x n then 0 else refusal_status NotABlock) else slot_status n s

-- ---- what a call answers that trusts no bytes

-- 0 where besides the pages of the slot spell one; else their first fault
unfoldable pub image_status : List ℕ → LentSlot → ℕ
image_status b s =
    if slot_status (length b) s == 0 then found_status (pages_fault_of b s) else slot_status (length b) s

-- 0 where besides the slot has this anchor
unfoldable pub checked_anchor_status : List ℕ → LentSlot → ℕ → ℕ
checked_anchor_status b s k = if image_status b s == 0 then anchor_status (length b) s k else image_status b s

-- 0 where besides a place lies in the bytes
unfoldable pub checked_place_status : List ℕ → LentSlot → ℕ → ℕ
checked_place_status b s x = if image_status b s == 0 then place_status (length b) s x else image_status b s
