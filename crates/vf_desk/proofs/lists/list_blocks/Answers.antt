use Rattle.std.proofs.Common.{refl, sym}
use Rattle.vf_desk.proofs.FillLaws.{filled-none}
use Rattle.vf_desk.proofs.ListLaws.{blocks-listed, no-blocks-listed}
use Rattle.vf_desk.proofs.lists.list_blocks.Goals as goal

pub returns-in-Ok-clause-list : goal.returns-in-Ok-clause-list
returns-in-Ok-clause-list c =
    rw (blocks-listed c.args.world.now.desk c.args.name.now _ c.in-Ok.ensures.ok, ← c.deref.ensures.0) c.fill.ensures

pub returns-in-Ok-clause-count : goal.returns-in-Ok-clause-count
returns-in-Ok-clause-count c =
    rw (blocks-listed c.args.world.now.desk c.args.name.now _ c.in-Ok.ensures.ok) c.len.ensures.value

pub returns-in-Err-clause-list : goal.returns-in-Err-clause-list
returns-in-Err-clause-list c =
    rw (no-blocks-listed c.args.world.now.desk c.args.name.now _ c.in-Err.ensures.err.0) (sym (filled-none c.args.to.now))

pub returns-in-Err-clause-count : goal.returns-in-Err-clause-count
returns-in-Err-clause-count c =
    rw (no-blocks-listed c.args.world.now.desk c.args.name.now _ c.in-Err.ensures.err.0) refl
