use Rattle.rh_tasks.proofs.Common.{refl, sym, err_from_is_err_and, task_of, FoundSeat, begins, ends, nobody, named-is}
use Rattle.rh_defs.specs.Questions.{status_at}
use Rattle.rh_tasks.proofs.world.World.status.Goals as goal

pub returns-in_err-i-clause-err : goal.returns-in_err-i-clause-err
unfolding status_at
returns-in_err-i-clause-err g c =
    let p = err_from_is_err_and c.from_residual.result c.from_residual.ensures.1 in
    rw (p.1, p.2, c.in_err-i.ensures.err.0, ← c.self.view_is) (ends _ (nobody _ _ _ _ _ _ c.in_err-i.ensures.err.1))

pub returns-clause-ok : goal.returns-clause-ok
unfolding status_at task_of
returns-clause-ok g c =
    let f : FoundSeat c.args.name.now c.self.inside.seats.items c.in_ok-i.i c.index-seat.result.now =
    record { at = c.in_ok-i.ensures.ok; is = sym c.index-seat.ensures } in
    rw (← c.self.view_is, c.records.ensures.value, c.records-2.ensures.value) (begins _ (named-is _ _ _ _ f) refl)
