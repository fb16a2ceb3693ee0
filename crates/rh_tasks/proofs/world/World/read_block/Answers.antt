use Rattle.rh_tasks.proofs.Common.{ap, sym, ◌∙◌, Ok, Granted, Option, ℕ, refl, err_from_is_err_and, begins, ends}
use Rattle.rh_tasks.specs.BlockBytes.{block_shown}
use Rattle.rh_tasks.proofs.Readers.{if-err}
use Rattle.rh_tasks.proofs.world.World.read_block.Goals as goal

pub returns-in_err-found : goal.returns-in_err-found
unfolding block_shown
returns-in_err-found g c =
    let p = err_from_is_err_and c.from_residual.result c.from_residual.ensures.1 in
    rw (p.1, p.2) (if-err _ _ (ends _ (sym c.in_err-found.ensures.is)) (refl, refl))

pub show-requires : goal.show-requires
show-requires g c = rw (c.in-Some.is) at c.in_ok-found.ensures.low

pub returns-in-Some : goal.returns-in-Some
unfolding block_shown
returns-in-Some g c =
    rw (begins _ (sym c.in_ok-found.ensures.is ∙ ap (λ (o : Option ℕ). let r : Granted (Option ℕ) = Ok o in r) c.in-Some.is) refl) c.show.ensures

pub returns-in-None : goal.returns-in-None
unfolding block_shown
returns-in-None g c =
    rw (begins _ (sym c.in_ok-found.ensures.is ∙ ap (λ (o : Option ℕ). let r : Granted (Option ℕ) = Ok o in r) c.in-None.is) refl) c.read_heap.ensures
