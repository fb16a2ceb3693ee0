-- Worked calls: the definitions compute them.
use Rattle.rh_wide_slot.proofs.Common.{◌≡◌, refl, ℕ, List, [], ◌∷◌, Some, None, Ok, Err, wide_weight}
use Rattle.std.specs.Prelude.{pos, negsuc}
use Rattle.rh_defs.specs.declared.refusal.Refusal.TheVariants.{AnchorInUse, BadRange, NoBlock, NoRoom}
use Rattle.rh_defs.specs.Inner.Computing.{computing_chain}
unfoldable use Rattle.rh_wide_slot.specs.WideCalls.{wide_alloc, wide_free, wide_extend, wide_mid, wide_put, wide_read, wide_size}

-- 7 bytes take 8, and 8 bytes 16
pub weighs_7 : wide_weight 7 ≡ 8
weighs_7 = refl

pub weighs_8 : wide_weight 8 ≡ 16
weighs_8 = refl

pub alloc_3 : wide_alloc 8 3 None ≡ Ok (Some (0 ∷ 0 ∷ 0 ∷ []))
unfolding wide_alloc computing_chain
alloc_3 = refl

pub alloc_8 : wide_alloc 8 8 None ≡ Err NoRoom
unfolding wide_alloc computing_chain
alloc_8 = refl

pub alloc_twice : wide_alloc 80 3 (Some []) ≡ Err AnchorInUse
unfolding wide_alloc computing_chain
alloc_twice = refl

pub free_none : wide_free None ≡ Err NoBlock
unfolding wide_free computing_chain
free_none = refl

-- 7 bytes become 8, which take 8 bytes more, and 2, which take none
pub extend_more : wide_extend 8 4 (Some (1 ∷ 2 ∷ [])) ≡ Ok (Some (1 ∷ 2 ∷ 0 ∷ 0 ∷ []))
unfolding wide_extend computing_chain
extend_more = refl

pub extend_full : wide_extend 7 8 (Some (1 ∷ 2 ∷ [])) ≡ Err NoRoom
unfolding wide_extend computing_chain
extend_full = refl

pub extend_less : wide_extend 0 1 (Some (1 ∷ 2 ∷ [])) ≡ Ok (Some (1 ∷ []))
unfolding wide_extend computing_chain
extend_less = refl

pub mid_in : wide_mid 0 1 (pos 2) (Some (1 ∷ 2 ∷ [])) ≡ Ok (Some (1 ∷ 0 ∷ 0 ∷ 2 ∷ []))
unfolding wide_mid computing_chain
mid_in = refl

pub mid_out : wide_mid 0 2 (negsuc 0) (Some (1 ∷ 2 ∷ 3 ∷ [])) ≡ Ok (Some (1 ∷ 3 ∷ []))
unfolding wide_mid computing_chain
mid_out = refl

pub mid_past : wide_mid 0 3 (pos 0) (Some (1 ∷ 2 ∷ [])) ≡ Err BadRange
unfolding wide_mid computing_chain
mid_past = refl

pub put_2 : wide_put 1 (8 ∷ 9 ∷ []) (Some (1 ∷ 2 ∷ 3 ∷ [])) ≡ Ok (Some (1 ∷ 8 ∷ 9 ∷ []))
unfolding wide_put computing_chain
put_2 = refl

pub put_past : wide_put 2 (8 ∷ 9 ∷ []) (Some (1 ∷ 2 ∷ 3 ∷ [])) ≡ Err BadRange
unfolding wide_put computing_chain
put_past = refl

pub read_2 : wide_read 1 2 (Some (1 ∷ 2 ∷ 3 ∷ [])) ≡ Ok (2 ∷ 3 ∷ [])
unfolding wide_read computing_chain
read_2 = refl

pub size_3 : wide_size (Some (1 ∷ 2 ∷ 3 ∷ [])) ≡ Ok 3
unfolding wide_size computing_chain
size_3 = refl

-- two anchors' words and two bytes: the first anchor's block is those, the second has none
abbrev pub two_anchors : List ℕ
two_anchors = 16 ∷ 0 ∷ 0 ∷ 0 ∷ 2 ∷ 0 ∷ 0 ∷ 0 ∷ 0 ∷ 0 ∷ 0 ∷ 0 ∷ 0 ∷ 0 ∷ 0 ∷ 0 ∷ 104 ∷ 105 ∷ []
