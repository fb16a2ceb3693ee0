use Rattle.rh_tasks.proofs.Common.{ap, sym, ◌∙◌, Ok, Granted, Option, ℕ, refl, err_from_is_err_and, begins, ends}
use Rattle.rh_tasks.specs.BlockBytes.{block_written}
use Rattle.rh_tasks.proofs.Ranges.{put-any}
use Rattle.rh_tasks.proofs.world.World.write_block.Goals as goal

pub returns-in_err-found : goal.returns-in_err-found
unfolding block_written
returns-in_err-found g c =
    let p = err_from_is_err_and c.from_residual.result c.from_residual.ensures.1 in
    rw (p.1, p.2) (ends _ (sym c.in_err-found.ensures.is), refl)

pub put-requires : goal.put-requires
put-requires g c = put-any c.args.name.now 0 c.in-Some.anchor c.args.offset c.args.bytes.now c.requires (rw (c.in-Some.is) at c.in_ok-found.ensures.low)

pub returns-in-Some : goal.returns-in-Some
unfolding block_written
returns-in-Some g c =
    rw (begins _ (sym c.in_ok-found.ensures.is ∙ ap (λ (o : Option ℕ). let r : Granted (Option ℕ) = Ok o in r) c.in-Some.is) refl) c.put.ensures

pub returns-in-None : goal.returns-in-None
unfolding block_written
returns-in-None g c =
    rw (begins _ (sym c.in_ok-found.ensures.is ∙ ap (λ (o : Option ℕ). let r : Granted (Option ℕ) = Ok o in r) c.in-None.is) refl) c.write_heap.ensures
