use Rattle.std.proofs.Common.{sym, arith}
use Rattle.rh_slot.proofs.ImageLaws.{no_block}
use Rattle.rh_slot.proofs.image.begins.Goals as goal

pub returns-then-image-place : goal.returns-then-image-place
returns-then-image-place c = let e = c.if-image-place.true in sym (no_block _ _ (omega arith))
