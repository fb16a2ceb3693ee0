use Rattle.rh_tasks.proofs.Common.{refl, sym, ◌∙◌, arith, err_from_is_err_and, HasSlot, FoundSeat, source_block, all-at, sits}
use Rattle.rh_tasks.proofs.Looks.{looked-none, looked-at, block-missing}
use Rattle.rh_tasks.proofs.Readers.{small-size}
use Rattle.rh_tasks.proofs.Saves.{source-is, source-missing}
use Rattle.rh_tasks.proofs.saving.idle_source.Goals as goal

pub returns-in_err-i-clause-err : goal.returns-in_err-i-clause-err
returns-in_err-i-clause-err g c =
    let p = err_from_is_err_and c.from_residual.result c.from_residual.ensures.1 in
    rw (p.1, p.2, c.in_err-i.ensures.err.0) (looked-none (source_block c.args.anchor) _ _ _ c.in_err-i.ensures.err.1)

pub returns-in_err-size-clause-err : goal.returns-in_err-size-clause-err
returns-in_err-size-clause-err g c =
    let p = err_from_is_err_and c.from_residual-in_err-size.result c.from_residual-in_err-size.ensures.1 in
    let m = g.S.Words.memory c.args.store.now in
    let s = c.index-seat.result.now in
    let f : FoundSeat c.args.name.now c.args.seats.now.items c.in_ok-i.i s = record { at = c.in_ok-i.ensures.ok; is = sym c.index-seat.ensures } in
    rw (p.1, p.2) (looked-at (source_block c.args.anchor) m f (source-missing m s c.args.anchor (block-missing m s c.args.anchor c.in_err-size.ensures)))

pub overflow_cast-size : goal.overflow_cast-size
overflow_cast-size g c =
    let m = g.S.Words.memory c.args.store.now in
    let s = c.index-seat.result.now in
    let f : FoundSeat c.args.name.now c.args.seats.now.items c.in_ok-i.i s = record { at = c.in_ok-i.ensures.ok; is = sym c.index-seat.ensures } in
    let has = all-at (HasSlot m) c.args.seats.now.items c.in_ok-i.i s c.requires.slots (sits f) in
    omega (arith, small-size has (g.met.S.Words.small c.args.store.now s.slot.area.0) c.args.anchor c.in_ok-size.field-0 c.in_ok-size.ensures)

pub returns-then-is_busy-clause-err : goal.returns-then-is_busy-clause-err
returns-then-is_busy-clause-err g c =
    let m = g.S.Words.memory c.args.store.now in
    let s = c.index-seat.result.now in
    let f : FoundSeat c.args.name.now c.args.seats.now.items c.in_ok-i.i s = record { at = c.in_ok-i.ensures.ok; is = sym c.index-seat.ensures } in
    let busy = sym c.is_busy_block-is_busy.ensures ∙ c.if-is_busy.true in
    looked-at (source_block c.args.anchor) m f (source-is m s c.args.anchor _ c.in_ok-size.ensures ∙ rw busy refl)

pub returns-then-is_full-clause-err : goal.returns-then-is_full-clause-err
returns-then-is_full-clause-err g c =
    let m = g.S.Words.memory c.args.store.now in
    let s = c.index-seat.result.now in
    let f : FoundSeat c.args.name.now c.args.seats.now.items c.in_ok-i.i s = record { at = c.in_ok-i.ensures.ok; is = sym c.index-seat.ensures } in
    let busy = sym c.is_busy_block-is_busy.ensures ∙ c.if-is_busy.false in
    let full = sym c.is_full.ensures ∙ c.if-is_full.true in
    looked-at (source_block c.args.anchor) m f (source-is m s c.args.anchor _ c.in_ok-size.ensures ∙ rw (busy, full) refl)

pub returns-clause-ok : goal.returns-clause-ok
returns-clause-ok g c =
    let m = g.S.Words.memory c.args.store.now in
    let s = c.index-seat.result.now in
    let busy = sym c.is_busy_block-is_busy.ensures ∙ c.if-is_busy.false in
    let full = sym c.is_full.ensures ∙ c.if-is_full.false in record {
      seat = s;
      found = record { at = c.in_ok-i.ensures.ok; is = sym c.index-seat.ensures };
      given = source-is m s c.args.anchor _ c.in_ok-size.ensures ∙ rw (busy, full) refl;
    }
