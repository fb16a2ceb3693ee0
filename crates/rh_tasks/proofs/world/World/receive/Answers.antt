use Rattle.rh_tasks.proofs.Common.{sym, ◌∙◌, reordered-refl}
use Rattle.rh_tasks.proofs.Tables.{taken-raw, taken-played}
use Rattle.rh_tasks.proofs.world.World.receive.Goals as goal

pub returns-then-is_raw : goal.returns-then-is_raw
returns-then-is_raw g c = λ t m for.
    let own = rw (← c.self.view_is) at for in
    rw (← c.self.view_is) (taken-raw c.self.invariant (sym c.index-seat.ensures) own c.args.code (sym c.is_raw.ensures ∙ c.if-is_raw.true) (reordered-refl _))

pub returns : goal.returns
returns g c = λ t m for.
    let own = rw (← c.self.view_is) at for in
    let h = rw (← c.self.view_is) at c.handle.ensures in
    rw (← c.self.view_is) (taken-played c.self.invariant (sym c.index-seat.ensures) own c.args.code (sym c.is_raw.ensures ∙ c.if-is_raw.false) (h t m own))
