use Rattle.rh_script.proofs.ReadLemmas.{part_held}
use Rattle.rh_script.proofs.read.read_held.Goals as goal

pub returns : goal.returns
returns g c = part_held _ c.read_part-read.result _ c.args.to.now _ c.args.offset c.requires.held.read c.read_part-read.ensures
