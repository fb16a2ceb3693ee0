use Rattle.rh_lens.proofs.Whole.{left-out-none}
use Rattle.rh_lens.proofs.laws.whole_law.Goals as goal

pub returns : goal.returns
returns c = λ pool handle ref files commands from ranged.
    left-out-none _ (c.tiles_law.ensures pool handle ref files commands from ranged)
