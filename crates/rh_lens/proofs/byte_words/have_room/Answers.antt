use Rattle.rh_lens.proofs.ByteLemmas.{pairs-room}
use Rattle.rh_lens.proofs.byte_words.have_room.Goals as goal

pub returns-clause-value : goal.returns-clause-value
returns-clause-value c = rw c.saturating_sub.ensures (pairs-room c.args.width c.args.bytes.now)
