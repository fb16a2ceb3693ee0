use Rattle.std.proofs.Common.{sym}
use Rattle.rh_defs.proofs.BytesLaws.{part-range}
use Rattle.rh_store.proofs.bytes.part_of.Goals as goal

pub returns : goal.returns
returns c = sym (part-range c.args.b.now c.args.at c.args.n c.requires)
