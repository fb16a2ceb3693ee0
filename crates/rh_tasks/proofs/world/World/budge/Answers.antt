use Rattle.rh_tasks.proofs.Common.{refl, ap, sym, err_from_is_err_and, ends, nobody}
use Rattle.rh_defs.specs.Commands.{budge}
use Rattle.rh_tasks.proofs.Budges.{Flagged, budge-done, budge-world}
use Rattle.rh_tasks.proofs.world.World.budge.Goals as goal

pub returns-in_err-i : goal.returns-in_err-i
unfolding budge
returns-in_err-i g c =
    let p = err_from_is_err_and c.from_residual.result c.from_residual.ensures.1 in
    rw (p.1, p.2, c.in_err-i.ensures.err.0, ← c.self.view_is) (ends _ (nobody _ _ _ _ _ _ c.in_err-i.ensures.err.1), refl)

pub invariant_of-self : goal.invariant_of-self
invariant_of-self g c =
    let m = g.S.Words.memory c.self.inside.store in
    let flag : Flagged m c.index_mut-seat.result.now.slot c.set_budge-was.new.self c.args.on c.set_budge-was.result =
    record { area = ap (λ x. x.area.0) c.set_budge-was.ensures.slot; still = c.set_budge-was.ensures.still m; spelled = c.set_budge-was.ensures.spelled m } in
    budge-world {s = c.index_mut-seat.result.now} c.self.invariant (record { at = c.in_ok-i.ensures.ok; is = sym c.index_mut-seat.ensures.value }) flag
    c.requires

pub returns : goal.returns
returns g c =
    let m = g.S.Words.memory c.self.inside.store in
    let flag : Flagged m c.index_mut-seat.result.now.slot c.set_budge-was.new.self c.args.on c.set_budge-was.result =
    record { area = ap (λ x. x.area.0) c.set_budge-was.ensures.slot; still = c.set_budge-was.ensures.still m; spelled = c.set_budge-was.ensures.spelled m } in
    rw (← c.self.view_is) (budge-done {s = c.index_mut-seat.result.now} c.self.invariant
    (record { at = c.in_ok-i.ensures.ok; is = sym c.index_mut-seat.ensures.value }) flag)
