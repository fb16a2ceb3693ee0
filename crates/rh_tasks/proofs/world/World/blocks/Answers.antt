use Rattle.rh_tasks.proofs.Common.{ℕ, sym, arith, length, slice_get, Option, Ok, err_from_is_err_and, BlockItem, Granted, block_items, ends, nobody, owned}
use Rattle.rh_defs.specs.Questions.{blocks_at}
use Rattle.rh_tasks.proofs.QuestionLaws.{of-slot}
use Rattle.rh_tasks.proofs.Readers.{few-blocks}
use Rattle.rh_tasks.proofs.world.World.blocks.Goals as goal

pub returns-in_err-slot : goal.returns-in_err-slot
unfolding blocks_at
returns-in_err-slot g c =
    let p = err_from_is_err_and c.from_residual.result c.from_residual.ensures.1 in
    rw (p.1, p.2, c.in_err-slot.ensures.err.0, ← c.self.view_is) (sym (ends _ (nobody _ _ _ _ _ _ c.in_err-slot.ensures.err.1)))

pub overflow_cast-count : goal.overflow_cast-count
overflow_cast-count g c =
    omega (
      arith,
      c.count-count.ensures,
      few-blocks (owned c.self.invariant c.in_ok-slot.ensures.ok) (g.met.S.Words.small c.self.inside.store c.in_ok-slot.slot.area.0),
    )

pub returns : goal.returns
unfolding blocks_at
returns g c =
    rw (← c.self.view_is, c.count-count.ensures, c.block.ensures)
    (sym (of-slot c.self.invariant c.in_ok-slot.ensures.ok (λ s. let r : Granted (ℕ × Option BlockItem) =
    Ok (length s.blocks, slice_get (block_items s) c.args.i) in r)))
