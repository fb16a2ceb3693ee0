use Rattle.rh_tasks.proofs.Common.{refl, sym, ◌∙◌, err_from_is_err_and, idle_buffer, HasSlot, FoundSeat, all-at, sits}
use Rattle.rh_tasks.proofs.Looks.{looked-none, looked-at, buffer-missing, buffer-busy}
use Rattle.rh_tasks.proofs.seats.idle_heap.Goals as goal

pub returns-in_err-i-clause-err : goal.returns-in_err-i-clause-err
returns-in_err-i-clause-err g c =
    let p = err_from_is_err_and c.from_residual.result c.from_residual.ensures.1 in
    rw (p.1, p.2, c.in_err-i.ensures.err.0) (looked-none (idle_buffer c.args.address) _ _ _ c.in_err-i.ensures.err.1)

pub returns-then-not-is_busy_buffer-clause-ok : goal.returns-then-not-is_busy_buffer-clause-ok
returns-then-not-is_busy_buffer-clause-ok g c =
    record {
      owns = record {
        place = c.in_ok-i.i;
        seat = c.index-seat.result.now;
        found = record { at = c.in_ok-i.ensures.ok; is = sym c.index-seat.ensures };
        slot_is = refl;
      };
      idle = sym c.is_busy_buffer.ensures ∙ c.if-not-is_busy_buffer.true;
    }

pub block_size-requires : goal.block_size-requires
block_size-requires g c =
    let m = g.S.Words.memory c.args.store.now in
    let f : FoundSeat c.args.name.now c.args.seats.now.items c.in_ok-i.i c.index-seat.result.now =
    record { at = c.in_ok-i.ensures.ok; is = sym c.index-seat.ensures } in
    record { slot = all-at (HasSlot m) c.args.seats.now.items c.in_ok-i.i c.index-seat.result.now c.requires (sits f) }

pub returns-in_err-block_size-clause-err : goal.returns-in_err-block_size-clause-err
returns-in_err-block_size-clause-err g c =
    let p = err_from_is_err_and c.from_residual-in_err-block_size.result c.from_residual-in_err-block_size.ensures.1 in
    let m = g.S.Words.memory c.args.store.now in
    let s = c.index-seat.result.now in
    let f : FoundSeat c.args.name.now c.args.seats.now.items c.in_ok-i.i s = record { at = c.in_ok-i.ensures.ok; is = sym c.index-seat.ensures } in
    rw (p.1, p.2) (looked-at (idle_buffer c.args.address) m f (buffer-missing m s c.args.address c.in_err-block_size.ensures))

pub returns-clause-err : goal.returns-clause-err
returns-clause-err g c =
    let m = g.S.Words.memory c.args.store.now in
    let s = c.index-seat.result.now in
    let f : FoundSeat c.args.name.now c.args.seats.now.items c.in_ok-i.i s = record { at = c.in_ok-i.ensures.ok; is = sym c.index-seat.ensures } in
    looked-at (idle_buffer c.args.address) m f (buffer-busy m s c.args.address c.in_ok-block_size.ensures
    (sym c.is_busy_buffer.ensures ∙ c.if-not-is_busy_buffer.false))
