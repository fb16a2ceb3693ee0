use Rattle.rh_script.proofs.Common.{arith, ◌∙◌, take_all, bytes_of_named}
use Rattle.rh_script.proofs.read.read_whole.Goals as goal

pub returns : goal.returns
returns g c = c.read_block.ensures ∙ take_all _ (bytes_of_named c.args.name.now c.args.anchor c.args.world.now.desk) (omega (arith, c.requires.whole))
