-- Where the blocks of a slot begin in its bytes.
use Rattle.std.specs.Prelude.{ℕ, zero, suc, ◌+◌, nat_lt, if◌then◌else◌, List, [], ◌∷◌}
use Rattle.rh_defs.specs.Slot.{Slot, slot_address}
use Rattle.rh_defs.specs.declared.sizes.TheConstants.{ANCHORS}
use Rattle.vf_flex.specs.SlotStatus.{place_or}

-- the place of the first byte of the anchor's block, 0 where it has none; a slot has no anchor behind its last
abbrev pub place_of : Slot → ℕ → ℕ
place_of s anchor = if nat_lt anchor ANCHORS then place_or (slot_address anchor s) 0 else 0

-- those of n anchors from this one on
unfoldable pub places_from : Slot → ℕ → ℕ → List ℕ
places_from s anchor zero = []
places_from s anchor (suc n) = place_of s anchor ∷ places_from s (anchor + 1) n
