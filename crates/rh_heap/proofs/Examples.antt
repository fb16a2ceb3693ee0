-- Worked lists of a heap's segments: the definitions compute these.
use Rattle.std.specs.Prelude.{◌≡◌, refl, [], ◌∷◌, true, false}
use Rattle.rh_defs.proofs.BlockRows.{two_blocks}
use Rattle.rh_heap.specs.Listed.{segments_from}

-- from the hole at place 24 on
pub from_the_hole : segments_from 24 two_blocks ≡ record { place = 24; size = 8; used = false } ∷ record { place = 32; size = 8; used = true } ∷ []
from_the_hole = refl

-- no segment begins inside a block, or at the top
pub from_nowhere : (segments_from 20 two_blocks ≡ []) × (segments_from 40 two_blocks ≡ [])
from_nowhere = (refl, refl)
