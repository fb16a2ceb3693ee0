use Rattle.rh_tasks.proofs.Common.{List, refl, Ok, err_from_is_err_and, BlockItem, Granted, block_items, ends, nobody}
use Rattle.rh_tasks.specs.WorldLists.{blocks_of}
use Rattle.rh_tasks.proofs.QuestionLaws.{of-slot}
use Rattle.rh_tasks.proofs.world.World.blocks_of.Goals as goal

pub returns-in_err-slot-clause-err : goal.returns-in_err-slot-clause-err
unfolding blocks_of
returns-in_err-slot-clause-err g c =
    let p = err_from_is_err_and c.from_residual.result c.from_residual.ensures.1 in
    rw (p.1, p.2, c.in_err-slot.ensures.err.0, ← c.self.view_is) (ends _ (nobody _ _ _ _ _ _ c.in_err-slot.ensures.err.1), refl)

pub returns-clause-ok : goal.returns-clause-ok
unfolding blocks_of
returns-clause-ok g c =
    rw (← c.self.view_is, c.list.ensures) (of-slot c.self.invariant c.in_ok-slot.ensures.ok (λ s. let r : Granted (List BlockItem) = Ok (block_items s) in r))
