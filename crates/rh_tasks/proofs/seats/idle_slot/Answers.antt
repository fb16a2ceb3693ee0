use Rattle.rh_tasks.proofs.Common.{refl, sym, ◌∙◌, err_from_is_err_and, idle_block, HasSlot, FoundSeat, all-at, sits}
use Rattle.rh_tasks.proofs.Looks.{looked-none, looked-at, block-missing, block-busy, block-idle}
use Rattle.rh_tasks.proofs.seats.idle_slot.Goals as goal

pub returns-in_err-i-clause-err : goal.returns-in_err-i-clause-err
returns-in_err-i-clause-err g c =
    let p = err_from_is_err_and c.from_residual.result c.from_residual.ensures.1 in
    rw (p.1, p.2, c.in_err-i.ensures.err.0) (looked-none (idle_block c.args.anchor) _ _ _ c.in_err-i.ensures.err.1)

pub size-requires-clause-slot : goal.size-requires-clause-slot
size-requires-clause-slot g c =
    let m = g.S.Words.memory c.args.store.now in
    let f : FoundSeat c.args.name.now c.args.seats.now.items c.in_ok-i.i c.index-seat.result.now =
    record { at = c.in_ok-i.ensures.ok; is = sym c.index-seat.ensures } in
    all-at (HasSlot m) c.args.seats.now.items c.in_ok-i.i c.index-seat.result.now c.requires.slots (sits f)

pub returns-in_err-size-clause-err : goal.returns-in_err-size-clause-err
returns-in_err-size-clause-err g c =
    let p = err_from_is_err_and c.from_residual-in_err-size.result c.from_residual-in_err-size.ensures.1 in
    let m = g.S.Words.memory c.args.store.now in
    let s = c.index-seat.result.now in
    let f : FoundSeat c.args.name.now c.args.seats.now.items c.in_ok-i.i s = record { at = c.in_ok-i.ensures.ok; is = sym c.index-seat.ensures } in
    rw (p.1, p.2) (looked-at (idle_block c.args.anchor) m f (block-missing m s c.args.anchor c.in_err-size.ensures))

pub returns-then-is_busy_block-clause-err : goal.returns-then-is_busy_block-clause-err
returns-then-is_busy_block-clause-err g c =
    let m = g.S.Words.memory c.args.store.now in
    let s = c.index-seat.result.now in
    let f : FoundSeat c.args.name.now c.args.seats.now.items c.in_ok-i.i s = record { at = c.in_ok-i.ensures.ok; is = sym c.index-seat.ensures } in
    looked-at (idle_block c.args.anchor) m f (block-busy m s c.args.anchor c.in_ok-size.ensures (sym c.is_busy_block.ensures ∙ c.if-is_busy_block.true))

pub returns-clause-ok : goal.returns-clause-ok
returns-clause-ok g c =
    let m = g.S.Words.memory c.args.store.now in
    let s = c.index-seat.result.now in record {
      owns = record { place = c.in_ok-i.i; seat = s; found = record { at = c.in_ok-i.ensures.ok; is = sym c.index-seat.ensures }; slot_is = refl };
      granted = block-idle m s c.args.anchor c.in_ok-size.ensures (sym c.is_busy_block.ensures ∙ c.if-is_busy_block.false);
    }
