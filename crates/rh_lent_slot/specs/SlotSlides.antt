-- How often blocks have slid: the anchor words before a call beside those after.
use Rattle.std.specs.Prelude.{◌≡◌, ℕ, zero, suc, ◌+◌, ◌*◌, ◌%◌, ◌^◌, ◌==◌, Bool, false, not, ◌&&◌, ◌||◌, if◌then◌else◌, List}
use Rattle.rh_defs.specs.Bytes.{word}
use Rattle.rh_defs.specs.declared.sizes.TheConstants.{ANCHORS, WORD}
use Rattle.rh_lent_slot.specs.Slots.{lent_slot_bytes}
use Rattle.rh_lent_slot.specs.declared.slot.LentSlot.{LentSlot}

-- the anchor has a block in both, and its word leads to another place in the second
abbrev pub has_slid : List ℕ → List ℕ → ℕ → Bool
has_slid b c k = not (word b (WORD * k) == 0) && not (word c (WORD * k) == 0) && not (word b (WORD * k) == word c (WORD * k))

-- that is so of one of the first n anchors
unfoldable pub any_slid : ℕ → List ℕ → List ℕ → Bool
any_slid zero b c = false
any_slid (suc n) b c = any_slid n b c || has_slid b c n

-- so many slides, and one more where a block has slid; behind the last number of 32 bits comes 0
unfoldable pub slides_after : ℕ → List ℕ → List ℕ → ℕ
slides_after n b c = if any_slid ANCHORS b c then (n + 1) % 2 ^ 32 else n

-- a call on the slot s of bytes b that leaves the slot t of bytes c counts whether a block has slid
abbrev pub CountsSlides : List ℕ → List ℕ → LentSlot → LentSlot → Type 0
CountsSlides b c s t = t.slides ≡ slides_after s.slides (lent_slot_bytes b s) (lent_slot_bytes c t)
