-- A worked block that is read where its header stands: the definitions compute it.
use Rattle.rh_slot.proofs.Common.{◌≡◌, refl, [], ◌∷◌, word, row_item}

-- a header that names the anchor word at &8004, and 5 bytes
pub item_at_the_start : row_item (0x04 ∷ 0x80 ∷ 0 ∷ 0 ∷ 5 ∷ 0 ∷ 0 ∷ 0 ∷ []) 0 ≡ record { anchor = 1; address = 0x8008; size = 5 }
unfolding word
item_at_the_start = refl
