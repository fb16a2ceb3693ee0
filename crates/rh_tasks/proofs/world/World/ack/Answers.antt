use Rattle.rh_tasks.proofs.Common.{refl, sym, ◌∙◌, err_from_is_err_and, FoundSeat, ends, nobody, sits}
use Rattle.rh_defs.specs.RawCommands.{ack}
use Rattle.rh_tasks.proofs.Acks.{ack-refused, ack-world, ack-done}
use Rattle.rh_tasks.proofs.Takes.{seat-live, spells-after}
use Rattle.rh_tasks.proofs.world.World.ack.Goals as goal

pub returns-in_err-i : goal.returns-in_err-i
unfolding ack
returns-in_err-i g c =
    let p = err_from_is_err_and c.from_residual.result c.from_residual.ensures.1 in
    rw (p.1, p.2, c.in_err-i.ensures.err.0, ← c.self.view_is) (ends _ (nobody _ _ _ _ _ _ c.in_err-i.ensures.err.1), refl)

pub returns-then-not-is_raw : goal.returns-then-not-is_raw
returns-then-not-is_raw g c =
    let f : FoundSeat c.args.name.now c.self.inside.seats.items c.in_ok-i.i c.index-seat.result.now =
    record { at = c.in_ok-i.ensures.ok; is = sym c.index-seat.ensures } in
    rw (← c.self.view_is) (ack-refused c.self.invariant f (sym c.is_raw.ensures ∙ c.if-not-is_raw.true), refl)

pub put_down-answered-requires-clause-live : goal.put_down-answered-requires-clause-live
put_down-answered-requires-clause-live g c =
    let f : FoundSeat c.args.name.now c.self.inside.seats.items c.in_ok-i.i c.index-seat.result.now =
    record { at = c.in_ok-i.ensures.ok; is = sym c.index-seat.ensures } in
    seat-live c.self.invariant (sits f)

pub invariant_of-self : goal.invariant_of-self
invariant_of-self g c =
    let f : FoundSeat c.args.name.now c.self.inside.seats.items c.in_ok-i.i c.index-seat.result.now =
    record { at = c.in_ok-i.ensures.ok; is = sym c.index-seat.ensures } in
    let l = c.put_down-answered.ensures.leaves in
    let scrap = c.kept_scrap-self-inside.ensures _ (spells-after c.self.invariant (sits f) l) in
    rw scrap (ack-world c.self.invariant f (sym c.is_raw.ensures ∙ c.if-not-is_raw.false) l)

pub returns : goal.returns
returns g c =
    let f : FoundSeat c.args.name.now c.self.inside.seats.items c.in_ok-i.i c.index-seat.result.now =
    record { at = c.in_ok-i.ensures.ok; is = sym c.index-seat.ensures } in
    let l = c.put_down-answered.ensures.leaves in
    let scrap = c.kept_scrap-self-inside.ensures _ (spells-after c.self.invariant (sits f) l) in
    rw (← c.self.view_is, scrap, c.unwrap_or.ensures)
    (ack-done c.self.invariant f (sym c.is_raw.ensures ∙ c.if-not-is_raw.false) l c.put_down-answered.result c.put_down-answered.ensures.answer)
