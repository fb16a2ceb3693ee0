use Rattle.rh_tasks.proofs.Common.{refl, ap, sym, err_from_is_err_and, kept_of, shown_of, FoundSeat, ends, done-refused, nobody}
use Rattle.rh_defs.specs.Commands.{cancel_out}
use Rattle.rh_tasks.proofs.Chains.{done}
use Rattle.rh_tasks.proofs.Cancels.{sending-stay, sending-world, cancel_out-done, cancel_out-refused}
use Rattle.rh_tasks.proofs.world.World.cancel_out.Goals as goal
use Rattle.rh_tasks.proofs.world.World.cancel_out.Goals.{After-index_mut-seat}
use Rattle.rh_tasks.proofs.world.World.cancel_out.Given as given

-- the seat that is found
found : (g : given.Over) (c : After-index_mut-seat g) → FoundSeat c.args.name.now c.self.inside.seats.items c.in_ok-i.i c.index_mut-seat.result.now
found g c = record { at = c.in_ok-i.ensures.ok; is = sym c.index_mut-seat.ensures.value }

pub returns-in_err-i : goal.returns-in_err-i
unfolding cancel_out
returns-in_err-i g c =
    let p = err_from_is_err_and c.from_residual.result c.from_residual.ensures.1 in
    rw (p.1, p.2, c.in_err-i.ensures.err.0, ← c.self.view_is) (ends _ (nobody _ _ _ _ _ _ c.in_err-i.ensures.err.1), refl)

pub invariant_of-self : goal.invariant_of-self
invariant_of-self g c = sending-world c.self.invariant (found g (goal.at.invariant_of-self g c).After-index_mut-seat) _

pub returns-in_err-cancel : goal.returns-in_err-cancel
returns-in_err-cancel g c =
    let f = found g (goal.at.returns-in_err-cancel g c).After-index_mut-seat in
    let p = err_from_is_err_and c.from_residual-in_err-cancel.result c.from_residual-in_err-cancel.ensures.1 in
    let refused = done-refused _ c.in_err-cancel.ensures.answer in
    rw (p.1, p.2, ← c.self.view_is) (
      cancel_out-refused c.self.invariant f c.args.id refused,
      ap (λ seats. shown_of (g.S.Words.memory c.self.inside.store) seats c.self.inside.made.items (g.F.NamedFiles.contents c.self.inside.files)
          (kept_of c.self.inside.next c.self.inside.queue c.self.inside.scrap))
          (sending-stay c.self.invariant f c.args.id refused c.in_err-cancel.ensures.records),
    )

pub invariant_of-self-2 : goal.invariant_of-self-2
invariant_of-self-2 g c = sending-world c.self.invariant (found g (goal.at.invariant_of-self-2 g c).After-index_mut-seat) _

pub returns : goal.returns
returns g c =
    let f = found g (goal.at.returns g c).After-index_mut-seat in
    rw (← c.self.view_is) (cancel_out-done c.self.invariant f c.args.id (done _ _ c.in_ok-cancel.ensures.answer c.in_ok-cancel.ensures.records))
