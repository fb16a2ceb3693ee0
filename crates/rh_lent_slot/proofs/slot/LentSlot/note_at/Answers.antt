use Rattle.std.proofs.Common.{arith}
use Rattle.rh_slot.proofs.ImageLaws.{no_block}
use Rattle.rh_lent_slot.proofs.slot.LentSlot.note_at.Goals as goal

pub returns-then-image-place : goal.returns-then-image-place
returns-then-image-place c = no_block _ _ (let e = c.if-image-place.true in omega arith)
