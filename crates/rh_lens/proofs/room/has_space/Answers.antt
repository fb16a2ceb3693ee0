use Rattle.std.proofs.Common.{length, arith}
use Rattle.rh_lens.proofs.ByteLemmas.{has-letters}
use Rattle.rh_lens.proofs.room.has_space.Goals as goal

pub returns-clause-value : goal.returns-clause-value
returns-clause-value c = rw c.letters_in.ensures (has-letters (length c.args.text.now) c.args.width (omega arith))
