use Rattle.std.proofs.Common.{length}
use Rattle.rh_script.proofs.ReadLemmas.{reads_part, answered_part}
use Rattle.rh_script.proofs.read.read_block.Goals as goal

pub returns : goal.returns
returns g c =
    answered_part _ _ _ c.args.to.now _ c.args.offset c.show-size.ensures
    (reads_part c.args.world.now.desk c.args.name.now c.args.anchor c.args.offset (length c.args.to.now)) c.requires.within
