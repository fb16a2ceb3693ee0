use Rattle.std.proofs.Common.{refl, arith}
use Rattle.std.specs.Int.{w64}
use Rattle.std.proofs.lemmas.Nat.Bits.{bit_at_clear_same, bit_at_clear_other}
use Rattle.rh_heap.proofs.BitLaws.{became}
use Rattle.rh_heap.proofs.span.starts.clear.Goals as goal

pub returns-then-at-starts-clause-bits : goal.returns-then-at-starts-clause-bits
returns-then-at-starts-clause-bits c = became _ _ _ _ _ _ c.requires.lane refl c.if-at-starts.true (bit_at_clear_same w64 _ _ (omega arith))
    (λ m l ne. bit_at_clear_other w64 _ _ (omega arith) m l ne)
