use Rattle.rh_tasks.proofs.Common.{err_from_is_err_and, refl, sym, begins, ends}
use Rattle.rh_tasks.specs.BlockBytes.{anchor_at}
use Rattle.rh_tasks.proofs.BlockWrites.{anchor-low}
use Rattle.rh_tasks.proofs.world.World.anchor_at.Goals as goal

pub returns-in_err-blocks_of-clause-is : goal.returns-in_err-blocks_of-clause-is
unfolding anchor_at
returns-in_err-blocks_of-clause-is g c =
    let p = err_from_is_err_and c.from_residual.result c.from_residual.ensures.1 in
    rw (p.1, p.2) (sym (ends _ c.in_err-blocks_of.ensures.err.0))

pub returns-clause-is : goal.returns-clause-is
unfolding anchor_at
returns-clause-is g c = rw (c.anchor_in.ensures, c.deref.ensures.0) (sym (begins _ c.in_ok-blocks_of.ensures.ok refl))

pub returns-clause-low : goal.returns-clause-low
returns-clause-low g c =
    rw (c.anchor_in.ensures, c.deref.ensures.0) (anchor-low _ c.args.name.now c.args.address _ c.recall_spelling.ensures.desk c.in_ok-blocks_of.ensures.ok)
