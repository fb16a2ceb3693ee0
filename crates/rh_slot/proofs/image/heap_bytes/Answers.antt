use Rattle.rh_slot.proofs.ImageLaws.{all_behind}
use Rattle.rh_slot.proofs.image.heap_bytes.Goals as goal

pub returns-then-behind-len : goal.returns-then-behind-len
returns-then-behind-len c = all_behind _ _ c.word_in-len.ensures c.if-behind-len.true
