use Rattle.rh_lens.proofs.WordRoom.{has-room, have-room}
use Rattle.rh_lens.proofs.laws.words_law.Goals as goal

pub returns : goal.returns
returns c = record { words = has-room; cells = have-room }
