use Rattle.rh_tasks.proofs.Common.{ap, sym, err_from_is_err_and, kept_of, shown_of, done-refused, Sits}
use Rattle.rh_tasks.proofs.Cancels.{gives-up, gives-none, taking-stay, taking-world}
use Rattle.rh_tasks.proofs.Chains.{done}
use Rattle.rh_tasks.proofs.SeatRecords.{sits-in}
use Rattle.rh_tasks.proofs.world.World.give_up.Goals as goal
use Rattle.rh_tasks.proofs.world.World.give_up.Goals.{After-index_mut-seat}
use Rattle.rh_tasks.proofs.world.World.give_up.Given as given

-- the seat at the place
seat_at : (g : given.Over) (c : After-index_mut-seat g) → Sits c.self.inside.seats.items c.args.i c.index_mut-seat.result.now
seat_at g c = sits-in c.self.invariant (rw (← c.self.view_is) at c.requires) (sym c.index_mut-seat.ensures.value)

pub invariant_of-self : goal.invariant_of-self
invariant_of-self g c = taking-world c.self.invariant (seat_at g (goal.at.invariant_of-self g c).After-index_mut-seat) c.args.id _

pub returns-in_err-cancel : goal.returns-in_err-cancel
returns-in_err-cancel g c =
    let at = seat_at g (goal.at.returns-in_err-cancel g c).After-index_mut-seat in
    let p = err_from_is_err_and c.from_residual.result c.from_residual.ensures.1 in
    let refused = done-refused _ c.in_err-cancel.ensures.answer in
    rw (p.1, p.2, ← c.self.view_is) (λ t there. (
      gives-none c.self.invariant at c.args.id refused t there,
      ap (λ seats. shown_of (g.S.Words.memory c.self.inside.store) seats c.self.inside.made.items (g.F.NamedFiles.contents c.self.inside.files)
          (kept_of c.self.inside.next c.self.inside.queue c.self.inside.scrap))
          (taking-stay c.self.invariant at c.args.id refused c.in_err-cancel.ensures.records),
    ))

pub invariant_of-self-2 : goal.invariant_of-self-2
invariant_of-self-2 g c = taking-world c.self.invariant (seat_at g (goal.at.invariant_of-self-2 g c).After-index_mut-seat) c.args.id _

pub returns : goal.returns
returns g c =
    let at = seat_at g (goal.at.returns g c).After-index_mut-seat in
    rw (← c.self.view_is) (λ t there. gives-up c.self.invariant at c.args.id (done _ _ c.in_ok-cancel.ensures.answer c.in_ok-cancel.ensures.records) t there)
