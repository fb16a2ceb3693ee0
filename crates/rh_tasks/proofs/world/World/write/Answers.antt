use Rattle.rh_tasks.proofs.Common.{refl, sym, err_from_is_err_and, FoundSeat, ends, nobody, sits}
use Rattle.rh_defs.specs.RawCommands.{write}
use Rattle.rh_tasks.proofs.RawWrites.{write-outside, write-played, write-done, write-world}
use Rattle.rh_tasks.proofs.Slides.{seat-slot}
use Rattle.rh_tasks.proofs.world.World.write.Goals as goal

pub returns-in_err-i : goal.returns-in_err-i
unfolding write
returns-in_err-i g c =
    let p = err_from_is_err_and c.from_residual.result c.from_residual.ensures.1 in
    rw (p.1, p.2, c.in_err-i.ensures.err.0, ← c.self.view_is) (ends _ (nobody _ _ _ _ _ _ c.in_err-i.ensures.err.1), refl)

pub returns-then-not-inside : goal.returns-then-not-inside
returns-then-not-inside g c =
    let f : FoundSeat c.args.name.now c.self.inside.seats.items c.in_ok-i.i c.index-seat.result.now =
    record { at = c.in_ok-i.ensures.ok; is = sym c.index-seat.ensures } in
    rw (← c.self.view_is) (write-outside c.self.invariant f c.args.address c.args.bytes.now (sym c.if-not-inside.ensures), refl)

pub returns-then-not-is_raw : goal.returns-then-not-is_raw
returns-then-not-is_raw g c =
    let f : FoundSeat c.args.name.now c.self.inside.seats.items c.in_ok-i.i c.index-seat.result.now =
    record { at = c.in_ok-i.ensures.ok; is = sym c.index-seat.ensures } in
    rw (← c.self.view_is)
    (write-played c.self.invariant f c.args.address c.args.bytes.now (sym c.if-not-inside.ensures) (sym c.if-not-is_raw.ensures), refl)

pub write_at-requires-clause-slot : goal.write_at-requires-clause-slot
write_at-requires-clause-slot g c =
    let f : FoundSeat c.args.name.now c.self.inside.seats.items c.in_ok-i.i c.index-seat.result.now =
    record { at = c.in_ok-i.ensures.ok; is = sym c.index-seat.ensures } in
    seat-slot c.self.invariant (sits f)

pub invariant_of-self : goal.invariant_of-self
invariant_of-self g c =
    let f : FoundSeat c.args.name.now c.self.inside.seats.items c.in_ok-i.i c.index-seat.result.now =
    record { at = c.in_ok-i.ensures.ok; is = sym c.index-seat.ensures } in
    write-world c.self.invariant f c.args.address c.args.bytes.now (sym c.if-not-inside.ensures) c.write_at.ensures

pub returns : goal.returns
returns g c =
    let f : FoundSeat c.args.name.now c.self.inside.seats.items c.in_ok-i.i c.index-seat.result.now =
    record { at = c.in_ok-i.ensures.ok; is = sym c.index-seat.ensures } in
    rw (← c.self.view_is)
    (write-done c.self.invariant f c.args.address c.args.bytes.now (sym c.if-not-inside.ensures) c.write_at.ensures (sym c.if-not-is_raw.ensures))
