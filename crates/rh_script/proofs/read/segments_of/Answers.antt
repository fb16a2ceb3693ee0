use Rattle.std.proofs.Common.{◌∙◌, arith}
use Rattle.rh_script.proofs.ReadLemmas.{segments_read, no_segments, named_is_slot, named_is_short}
use Rattle.rh_script.proofs.read.segments_of.Goals as goal

pub returns-in-Ok-clause-items : goal.returns-in-Ok-clause-items
returns-in-Ok-clause-items g c = segments_read c.args.world.now.desk c.args.name.now c.args.place _ c.in-Ok.ensures.ok

pub returns-in-Ok-clause-heap : goal.returns-in-Ok-clause-heap
returns-in-Ok-clause-heap g c = (named_is_slot c.args.name.now c.args.world.now.desk c.recall_spelling.ensures.desk.slots).heap

pub returns-in-Ok-clause-short : goal.returns-in-Ok-clause-short
returns-in-Ok-clause-short g c = omega (arith, named_is_short c.args.name.now c.args.world.now.desk c.recall_spelling.ensures.desk)

pub returns-in-Err-clause-items : goal.returns-in-Err-clause-items
returns-in-Err-clause-items g c =
    c.clear.ensures ∙ no_segments c.args.world.now.desk c.args.name.now c.args.place _ c.in-Err.ensures.err.0

pub returns-in-Err-clause-heap : goal.returns-in-Err-clause-heap
returns-in-Err-clause-heap g c = (named_is_slot c.args.name.now c.args.world.now.desk c.recall_spelling.ensures.desk.slots).heap

pub returns-in-Err-clause-short : goal.returns-in-Err-clause-short
returns-in-Err-clause-short g c =
    omega (arith, named_is_short c.args.name.now c.args.world.now.desk c.recall_spelling.ensures.desk)
