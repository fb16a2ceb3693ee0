use Rattle.rh_tasks.proofs.Common.{refl, sym, ◌∙◌, err_from_is_err_and, FoundSeat, ends, nobody, sits}
use Rattle.rh_defs.specs.RawCommands.{transfer}
use Rattle.rh_tasks.proofs.Finding.{found-in}
use Rattle.rh_tasks.proofs.Polls.{place-in, task-there}
use Rattle.rh_tasks.proofs.RawWrites.{own-apart, own-range, transfer-bad, transfer-done, transfer-nobody, transfer-nothing, transfer-played}
use Rattle.rh_tasks.proofs.Slides.{seat-slot}
use Rattle.rh_tasks.proofs.TransferBlocks.{apart, held-part, moved-keeps, no-task, place-is, place-none, reach, seat-of}
use Rattle.rh_tasks.proofs.world.World.transfer.Goals as goal

pub returns-in_err-i : goal.returns-in_err-i
unfolding transfer
returns-in_err-i g c =
    let p = err_from_is_err_and c.from_residual.result c.from_residual.ensures.1 in
    rw (p.1, p.2, c.in_err-i.ensures.err.0, ← c.self.view_is) (ends _ (nobody _ _ _ _ _ _ c.in_err-i.ensures.err.1), refl)

pub is_bad_move-requires : goal.is_bad_move-requires
is_bad_move-requires g c =
    let f = found-in c.in_ok-i.ensures.ok in
    rw (← c.self.view_is) (place-in c.self.invariant f.1)

pub returns-then-is_bad_move : goal.returns-then-is_bad_move
returns-then-is_bad_move g c =
    let f = found-in c.in_ok-i.ensures.ok in
    let bad = (rw (← c.self.view_is) at c.is_bad_move.ensures) _ (task-there c.self.invariant f.1) in
    rw (← c.self.view_is)
    (transfer-bad c.self.invariant f.1 c.args.address c.args.to c.args.place c.args.n (sym bad ∙ c.if-is_bad_move.true), refl)

pub returns-in_err-j : goal.returns-in_err-j
returns-in_err-j g c =
    let f = found-in c.in_ok-i.ensures.ok in
    let good = (rw (← c.self.view_is) at c.is_bad_move.ensures) _ (task-there c.self.invariant f.1) in
    let p = err_from_is_err_and c.from_residual-in_err-j.result c.from_residual-in_err-j.ensures.1 in
    let e = place-none _ c.with_handle.result c.in_err-j.ensures.value c.with_handle.ensures in
    rw (p.1, p.2, e.0, ← c.self.view_is)
    (transfer-nobody c.self.invariant f.1 _ _ _ _ (sym good ∙ c.if-is_bad_move.false) (no-task c.self.invariant _ e.1), refl)

pub returns-then-not-is_raw : goal.returns-then-not-is_raw
returns-then-not-is_raw g c =
    let f : FoundSeat c.args.name.now c.self.inside.seats.items c.in_ok-i.i c.index-seat.result.now =
    record { at = c.in_ok-i.ensures.ok; is = sym c.index-seat.ensures } in
    let good = (rw (← c.self.view_is) at c.is_bad_move.ensures) _ (task-there c.self.invariant f) in
    let b = seat-of _ _ _ _ (place-is _ c.with_handle.result c.in_ok-j.ensures.value c.with_handle.ensures) c.index.ensures in
    rw (← c.self.view_is)
    (transfer-played c.self.invariant f _ _ _ _ (sym good ∙ c.if-is_bad_move.false) b (sym c.if-not-is_raw.ensures), refl)

pub inside-requires : goal.inside-requires
inside-requires g c =
    let b = seat-of _ _ _ _ (place-is _ c.with_handle.result c.in_ok-j.ensures.value c.with_handle.ensures) c.index.ensures in
    record { slot = seat-slot c.self.invariant b.at }

pub returns-then-not-inside : goal.returns-then-not-inside
returns-then-not-inside g c =
    let f : FoundSeat c.args.name.now c.self.inside.seats.items c.in_ok-i.i c.index-seat.result.now =
    record { at = c.in_ok-i.ensures.ok; is = sym c.index-seat.ensures } in
    let good = (rw (← c.self.view_is) at c.is_bad_move.ensures) _ (task-there c.self.invariant f) in
    let b = seat-of _ _ _ _ (place-is _ c.with_handle.result c.in_ok-j.ensures.value c.with_handle.ensures) c.index.ensures in
    rw (← c.self.view_is)
    (transfer-nothing c.self.invariant f _ _ _ _ (sym good ∙ c.if-is_bad_move.false) b (sym c.if-not-is_raw.ensures) (sym c.if-not-inside.ensures))

pub write_from-requires-clause-slot : goal.write_from-requires-clause-slot
write_from-requires-clause-slot g c =
    let f : FoundSeat c.args.name.now c.self.inside.seats.items c.in_ok-i.i c.index-seat.result.now =
    record { at = c.in_ok-i.ensures.ok; is = sym c.index-seat.ensures } in
    let good = (rw (← c.self.view_is) at c.is_bad_move.ensures) _ (task-there c.self.invariant f) in
    let b = seat-of _ _ _ _ (place-is _ c.with_handle.result c.in_ok-j.ensures.value c.with_handle.ensures) c.index.ensures in
    seat-slot c.self.invariant b.at

pub write_from-requires-clause-opened : goal.write_from-requires-clause-opened
write_from-requires-clause-opened g c =
    let f : FoundSeat c.args.name.now c.self.inside.seats.items c.in_ok-i.i c.index-seat.result.now =
    record { at = c.in_ok-i.ensures.ok; is = sym c.index-seat.ensures } in
    let good = (rw (← c.self.view_is) at c.is_bad_move.ensures) _ (task-there c.self.invariant f) in
    (seat-slot c.self.invariant (sits f)).opened

pub overflow_sub-x : goal.overflow_sub-x
overflow_sub-x g c =
    let f : FoundSeat c.args.name.now c.self.inside.seats.items c.in_ok-i.i c.index-seat.result.now =
    record { at = c.in_ok-i.ensures.ok; is = sym c.index-seat.ensures } in
    let good = (rw (← c.self.view_is) at c.is_bad_move.ensures) _ (task-there c.self.invariant f) in
    let own = own-range c.self.invariant f _ _ _ _ (sym good ∙ c.if-is_bad_move.false) in
    (held-part _ c.index-seat.result.now.slot _ _ (seat-slot c.self.invariant (sits f)) own).0

pub write_from-requires-clause-source : goal.write_from-requires-clause-source
write_from-requires-clause-source g c =
    let f : FoundSeat c.args.name.now c.self.inside.seats.items c.in_ok-i.i c.index-seat.result.now =
    record { at = c.in_ok-i.ensures.ok; is = sym c.index-seat.ensures } in
    let good = (rw (← c.self.view_is) at c.is_bad_move.ensures) _ (task-there c.self.invariant f) in
    let own = own-range c.self.invariant f _ _ _ _ (sym good ∙ c.if-is_bad_move.false) in
    (held-part _ c.index-seat.result.now.slot _ _ (seat-slot c.self.invariant (sits f)) own).1.high

pub write_from-requires-clause-reach : goal.write_from-requires-clause-reach
write_from-requires-clause-reach g c =
    let f : FoundSeat c.args.name.now c.self.inside.seats.items c.in_ok-i.i c.index-seat.result.now =
    record { at = c.in_ok-i.ensures.ok; is = sym c.index-seat.ensures } in
    let good = (rw (← c.self.view_is) at c.is_bad_move.ensures) _ (task-there c.self.invariant f) in
    let b = seat-of _ _ _ _ (place-is _ c.with_handle.result c.in_ok-j.ensures.value c.with_handle.ensures) c.index.ensures in
    let own = own-range c.self.invariant f _ _ _ _ (sym good ∙ c.if-is_bad_move.false) in
    reach c.self.invariant _ _ _ (record { at = sits f; handle = refl }) b own (sym c.if-not-inside.ensures)

pub write_from-requires-clause-apart : goal.write_from-requires-clause-apart
write_from-requires-clause-apart g c =
    let f : FoundSeat c.args.name.now c.self.inside.seats.items c.in_ok-i.i c.index-seat.result.now =
    record { at = c.in_ok-i.ensures.ok; is = sym c.index-seat.ensures } in
    let good = (rw (← c.self.view_is) at c.is_bad_move.ensures) _ (task-there c.self.invariant f) in
    let b = seat-of _ _ _ _ (place-is _ c.with_handle.result c.in_ok-j.ensures.value c.with_handle.ensures) c.index.ensures in
    let own = own-range c.self.invariant f _ _ _ _ (sym good ∙ c.if-is_bad_move.false) in
    let free = own-apart c.self.invariant f _ _ _ _ (sym good ∙ c.if-is_bad_move.false) in
    apart c.self.invariant _ _ _ (record { at = sits f; handle = refl }) b own (sym c.if-not-inside.ensures) free

pub invariant_of-self : goal.invariant_of-self
invariant_of-self g c =
    let f : FoundSeat c.args.name.now c.self.inside.seats.items c.in_ok-i.i c.index-seat.result.now =
    record { at = c.in_ok-i.ensures.ok; is = sym c.index-seat.ensures } in
    let good = (rw (← c.self.view_is) at c.is_bad_move.ensures) _ (task-there c.self.invariant f) in
    let b = seat-of _ _ _ _ (place-is _ c.with_handle.result c.in_ok-j.ensures.value c.with_handle.ensures) c.index.ensures in
    let own = own-range c.self.invariant f _ _ _ _ (sym good ∙ c.if-is_bad_move.false) in
    let free = own-apart c.self.invariant f _ _ _ _ (sym good ∙ c.if-is_bad_move.false) in
    moved-keeps c.self.invariant _ _ _ (record { at = sits f; handle = refl }) b own (sym c.if-not-inside.ensures) free c.write_from.ensures

pub returns : goal.returns
returns g c =
    let f : FoundSeat c.args.name.now c.self.inside.seats.items c.in_ok-i.i c.index-seat.result.now =
    record { at = c.in_ok-i.ensures.ok; is = sym c.index-seat.ensures } in
    let good = (rw (← c.self.view_is) at c.is_bad_move.ensures) _ (task-there c.self.invariant f) in
    let b = seat-of _ _ _ _ (place-is _ c.with_handle.result c.in_ok-j.ensures.value c.with_handle.ensures) c.index.ensures in
    rw (← c.self.view_is)
    (transfer-done c.self.invariant f _ _ _ _ (sym good ∙ c.if-is_bad_move.false) b (sym c.if-not-is_raw.ensures) c.write_from.ensures)
