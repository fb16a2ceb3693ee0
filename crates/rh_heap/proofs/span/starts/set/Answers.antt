use Rattle.std.proofs.Common.{refl, arith}
use Rattle.std.specs.Int.{w64}
use Rattle.std.proofs.lemmas.Nat.Bits.{bit_at_set_same, bit_at_set_other}
use Rattle.rh_heap.proofs.BitLaws.{became}
use Rattle.rh_heap.proofs.span.starts.set.Goals as goal

pub returns-clause-bits : goal.returns-clause-bits
returns-clause-bits c = became _ _ _ _ _ _ c.requires.lane refl c.requires.within (bit_at_set_same w64 _ _ (omega arith))
    (λ m l ne. bit_at_set_other w64 _ _ (omega arith) m ne)
