use Rattle.rh_tasks.proofs.Common.{refl, err_from_is_err_and}
use Rattle.rh_tasks.proofs.SightLaws.{blocks-are, no-blocks}
use Rattle.rh_tasks.proofs.TransferBlocks.{place-is, place-none, seat-of}
use Rattle.rh_tasks.proofs.world.World.blocks_in.Goals as goal

pub returns-in_err-i-clause-err : goal.returns-in_err-i-clause-err
returns-in_err-i-clause-err g c =
    let p = err_from_is_err_and c.from_residual.result c.from_residual.ensures.1 in
    let e = place-none _ c.with_handle.result c.in_err-i.ensures.value c.with_handle.ensures in
    rw (p.1, p.2, e.0, ← c.self.view_is) (no-blocks c.self.invariant _ e.1, refl)

pub returns-clause-ok : goal.returns-clause-ok
returns-clause-ok g c =
    let a = seat-of _ _ _ _ (place-is _ c.with_handle.result c.in_ok-i.ensures.value c.with_handle.ensures) c.index.ensures in
    rw (← c.self.view_is, c.list.ensures) (blocks-are c.self.invariant a)
