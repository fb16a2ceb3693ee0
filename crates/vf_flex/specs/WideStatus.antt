-- What a call on a wide slot is given, and what is wrong with that.
use Rattle.std.specs.Prelude.{◌≡◌, ◌≢◌, ℕ, ◌*◌, ◌==◌, nat_le, nat_lt, ◌&&◌, if◌then◌else◌, List, length, Option}
use Rattle.rh_defs.specs.Chain.{Granted, outcome_of}
use Rattle.rh_defs.specs.declared.refusal.Refusal.TheVariants.{NoRoom}
use Rattle.rh_defs.specs.declared.sizes.TheConstants.{ANCHORS}
use Rattle.rh_store.specs.Limits.{area_limit}
use Rattle.rh_wide_slot.specs.WideCalls.{LeavesWide}
use Rattle.rh_wide_slot.specs.WideSlots.{IsWideSlot, row_place}
use Rattle.rh_wide_slot.specs.declared.slot.TheConstants.{MOST_ANCHORS}
use Rattle.rh_wide_slot.specs.declared.slot.WideSlot.{WideSlot}
use Rattle.vf_flex.specs.SlotStatus.{bad_anchor, bad_length, no_slot, refusal_status, short}

-- 0 where a wide slot of so many anchors may begin in so many bytes: 512 bytes to 1 GiB, with 64 to 4,096 anchors
unfoldable pub start_with_status : ℕ → ℕ → ℕ
start_with_status n anchors =
    if nat_le (8 * ANCHORS) n && nat_le n area_limit then
    (if nat_le ANCHORS anchors && nat_le anchors MOST_ANCHORS then
    (if nat_lt n (8 * anchors) then refusal_status NoRoom else 0)
    else bad_anchor)
    else bad_length

-- 0 where a wide slot that was started lies in so many bytes
unfoldable pub wide_status : ℕ → WideSlot → ℕ
wide_status n s =
    if nat_le (8 * ANCHORS) n && nat_le n area_limit then
    (if s.anchors == 0 then no_slot else if nat_lt n s.top then short else 0)
    else bad_length

-- 0 where besides the slot has this anchor
unfoldable pub wide_anchor_status : ℕ → WideSlot → ℕ → ℕ
wide_anchor_status n s k =
    if wide_status n s == 0 then (if nat_lt k s.anchors then 0 else bad_anchor) else wide_status n s

-- where the slot lies in the bytes, they hold it
abbrev pub AreWide : List ℕ → WideSlot → Type 0
AreWide b s = wide_status (length b) s ≡ 0 → IsWideSlot b s

-- what is wrong with what a call is given, where it isn't 0, is the status, and all stays
abbrev pub RefusesWide : List ℕ → List ℕ → WideSlot → WideSlot → ℕ → ℕ → Type 0
RefusesWide b c s t wrong status = wrong ≢ 0 → (status ≡ wrong) × (c ≡ b) × (t ≡ s)

-- a call on an anchor's block that is granted this leaves the slot t of bytes c
abbrev pub LeavesAs : List ℕ → List ℕ → WideSlot → WideSlot → ℕ → Granted (Option (List ℕ)) → Type 0
LeavesAs b c s t k granted = LeavesWide b c s t k granted (outcome_of granted)

-- the place of the first byte of an anchor's block, 0 where it has none; a slot has no anchor behind its last
abbrev pub wide_place_at : List ℕ → WideSlot → ℕ → ℕ
wide_place_at b s k = if nat_lt k s.anchors then row_place b k else 0
