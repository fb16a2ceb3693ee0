-- Worked blocks of a heap by their addresses: the definitions compute these answers.
use Rattle.rh_defs.proofs.Common.{◌≡◌, refl, [], ◌∷◌, Some, None, Ok, with_part, zeros, Used, Hole, Heap, block_room, block_bytes, poked, module_claim}
use Rattle.rh_defs.proofs.Common.{module_free}
use Rattle.rh_defs.specs.Inner.Computing.{computing_chain, computing_module}

-- a block at address 20, a hole at place 24, a block at address 36, and a top of 8 bytes
abbrev pub two_blocks : Heap
two_blocks = record { segments = Used (1 ∷ 2 ∷ 3 ∷ 4 ∷ []) ∷ Hole 8 ∷ Used (5 ∷ 6 ∷ 7 ∷ 8 ∷ []) ∷ []; end = 48 }

pub bytes_by_address : (block_bytes 20 two_blocks ≡ Some (1 ∷ 2 ∷ 3 ∷ 4 ∷ [])) × (block_bytes 36 two_blocks ≡ Some (5 ∷ 6 ∷ 7 ∷ 8 ∷ []))
bytes_by_address = (refl, refl)

-- a hole, or a place inside a block, is no block's address
pub no_bytes : (block_bytes 28 two_blocks ≡ None) × (block_bytes 37 two_blocks ≡ None)
no_bytes = (refl, refl)

-- a claim of 3 bytes fills the hole with a block of 4 zeros
pub claimed : module_claim 0 3 two_blocks ≡ Ok
    (record two_blocks { segments = Used (1 ∷ 2 ∷ 3 ∷ 4 ∷ []) ∷ Used (0 ∷ 0 ∷ 0 ∷ 0 ∷ []) ∷ Used (5 ∷ 6 ∷ 7 ∷ 8 ∷ []) ∷ [] }, 28)
unfolding computing_chain computing_module
claimed = refl

pub claimed_zeros : zeros (block_room 3) ≡ 0 ∷ 0 ∷ 0 ∷ 0 ∷ []
claimed_zeros = refl

-- the first block goes, and the hole behind it joins its place
pub freed : module_free 20 two_blocks ≡ Ok (record two_blocks { segments = Hole 16 ∷ Used (5 ∷ 6 ∷ 7 ∷ 8 ∷ []) ∷ [] })
unfolding computing_chain computing_module
freed = refl

-- two bytes from offset 1 on
pub written : poked 36 1 (9 ∷ 10 ∷ []) two_blocks ≡ record two_blocks { segments = Used (1 ∷ 2 ∷ 3 ∷ 4 ∷ []) ∷ Hole 8 ∷ Used (5 ∷ 9 ∷ 10 ∷ 8 ∷ []) ∷ [] }
unfolding with_part
written = refl
