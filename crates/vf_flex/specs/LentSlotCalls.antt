-- What a call on a slot is given, what it is granted by the rules, and what it leaves.
use Rattle.std.specs.Prelude.{◌≡◌, ◌≢◌, ℕ, ◌+◌, ◌-◌, ◌^◌, nat_lt, if◌then◌else◌, ℤ, pos, negsuc, List, length, ok_or}
use Rattle.rh_defs.specs.Chain.{Granted, no_answer, answer_of}
use Rattle.rh_defs.specs.Heap.{block_size}
use Rattle.rh_defs.specs.Slot.{Slot, heap_start, slot_start, slot_alloc, slot_free, slot_extend, slot_mid, slot_put, slot_claim, slot_release, slot_resize}
use Rattle.rh_defs.specs.declared.refusal.Refusal.TheVariants.{NotABlock}
use Rattle.rh_lent_slot.specs.Slots.{IsSlotBytes, LeavesSlot, free_in, lent_slot_in}
use Rattle.rh_lent_slot.specs.declared.slot.LentSlot.{LentSlot}
use Rattle.vf_flex.specs.SlotStatus.{slot_status}

-- where the slot's pages lie in the bytes, they spell a slot
abbrev pub AreLeft : List ℕ → LentSlot → Type 0
AreLeft b s = slot_status (length b) s ≡ 0 → IsSlotBytes b s

-- a call on the slot s of bytes b that is granted this leaves the slot t of bytes c
abbrev pub LeavesLentSlot : {A : Type 0} → List ℕ → List ℕ → LentSlot → LentSlot → Granted (Slot × A) → Type 0
LeavesLentSlot b c s t granted = LeavesSlot b c s t granted (answer_of granted)

-- what is wrong with what a call is given, where it isn't 0, is the status, and all stays
abbrev pub RefusesInput : List ℕ → List ℕ → LentSlot → LentSlot → ℕ → ℕ → Type 0
RefusesInput b c s t wrong status = wrong ≢ 0 → (status ≡ wrong) × (c ≡ b) × (t ≡ s)

-- a number of bytes, or the greatest that 32 bits hold where it has more bits: no slot has room for either
abbrev pub nearest : ℕ → ℕ
nearest n = if nat_lt n (2 ^ 32) then n else 2 ^ 32 - 1

-- an amount up or down, or the nearest that 32 bits with a sign hold
abbrev pub nearest_amount : ℤ → ℤ
nearest_amount (pos n) = pos (if nat_lt n (2 ^ 31) then n else 2 ^ 31 - 1)
nearest_amount (negsuc n) = negsuc (if nat_lt n (2 ^ 31) then n else 2 ^ 31 - 1)

-- ---- what each call is granted, on the slot s of bytes b

abbrev pub alloc_granted : List ℕ → LentSlot → ℕ → ℕ → Granted (Slot × ℕ)
alloc_granted b s k n = slot_alloc (free_in b s) k (nearest n) (lent_slot_in b s)

abbrev pub free_granted : List ℕ → LentSlot → ℕ → Granted (Slot × Unit {0})
free_granted b s k = no_answer (slot_free k (lent_slot_in b s))

abbrev pub extend_granted : List ℕ → LentSlot → ℕ → ℕ → Granted (Slot × Unit {0})
extend_granted b s k n = no_answer (slot_extend (free_in b s) k (nearest n) (lent_slot_in b s))

abbrev pub mid_granted : List ℕ → LentSlot → ℕ → ℕ → ℤ → Granted (Slot × Unit {0})
mid_granted b s k offset by = no_answer (slot_mid (free_in b s) k offset (nearest_amount by) (lent_slot_in b s))

abbrev pub put_granted : List ℕ → LentSlot → ℕ → ℕ → List ℕ → Granted (Slot × Unit {0})
put_granted b s k offset from = no_answer (slot_put k offset from (lent_slot_in b s))

abbrev pub claim_granted : List ℕ → LentSlot → ℕ → Granted (Slot × ℕ)
claim_granted b s n = slot_claim (free_in b s) (nearest n) (lent_slot_in b s)

abbrev pub release_granted : List ℕ → LentSlot → ℕ → Granted (Slot × Unit {0})
release_granted b s place = no_answer (slot_release (slot_start + place) (lent_slot_in b s))

abbrev pub resize_granted : List ℕ → LentSlot → ℕ → ℤ → Granted (Slot × ℕ)
resize_granted b s place delta =
    slot_resize (free_in b s) (slot_start + place) (nearest_amount delta) (lent_slot_in b s)

-- the number of bytes of the C heap's block at a place
abbrev pub size_at : ℕ → Slot → Granted ℕ
size_at place s = ok_or (block_size (slot_start + place - heap_start) s.heap) NotABlock
