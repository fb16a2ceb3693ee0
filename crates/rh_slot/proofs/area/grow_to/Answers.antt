use Rattle.std.proofs.Common.{arith}
use Rattle.rh_slot.proofs.AreaLaws.{Resized-grown, on_ok, zeros-grown}
use Rattle.rh_slot.proofs.area.grow_to.Goals as goal

pub returns-clause-ok : goal.returns-clause-ok
returns-clause-ok g c = on_ok c.grow.result c.grow.ensures.ok c.grow.ensures.room (λ e r.
    Resized-grown _ _ _ _ _ e r (omega (arith, c.len-pages.ensures, c.pages_for.ensures, c.requires.more, g.met.S.Paged.whole c.args.store.now c.args.area.0)))

pub returns-clause-zeros : goal.returns-clause-zeros
returns-clause-zeros g c = on_ok c.grow.result c.grow.ensures.ok c.grow.ensures.room (λ e r. zeros-grown _ _ _ _ e)
