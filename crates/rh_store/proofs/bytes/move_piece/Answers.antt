use Rattle.std.proofs.Common.{◌∙◌, arith}
use Rattle.rh_store.proofs.Slices.{slid}
use Rattle.rh_store.proofs.bytes.move_piece.Goals as goal

pub returns-in_default : goal.returns-in_default
returns-in_default c = c.copy_within.ensures.after ∙ slid _ _ _ _ _ (omega arith) c.requires.source c.requires.target
