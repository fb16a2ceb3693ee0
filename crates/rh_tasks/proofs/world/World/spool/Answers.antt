use Rattle.rh_tasks.proofs.Common.{◌≡◌, refl, sym, err_from_is_err_and, FoundSeat, ends, nobody, sits}
use Rattle.rh_defs.specs.RawCommands.{spool}
use Rattle.rh_tasks.proofs.Fetches.{one-member}
use Rattle.rh_tasks.proofs.ScrapTransfers.{sends-ok}
use Rattle.rh_tasks.proofs.Slides.{seat-slot}
use Rattle.rh_tasks.proofs.Spools.{spool-at, spool-block, spool-busy, spool-done, spool-full, spool-inside, spool-missing, spool-more, spool-room}
use Rattle.rh_tasks.proofs.Spools.{spool-wrong, spools}
use Rattle.rh_tasks.proofs.world.World.spool.Goals as goal

pub returns-in_err-i : goal.returns-in_err-i
unfolding spool
returns-in_err-i g c =
    let p = err_from_is_err_and c.from_residual.result c.from_residual.ensures.1 in
    rw (p.1, p.2, c.in_err-i.ensures.err.0, ← c.self.view_is) (ends _ (nobody _ _ _ _ _ _ c.in_err-i.ensures.err.1), refl)

pub document_size-requires : goal.document_size-requires
document_size-requires g c =
    let w = c.self.invariant in
    let f : FoundSeat c.args.name.now c.self.inside.seats.items c.in_ok-i.i c.index-seat.result.now =
    record { at = c.in_ok-i.ensures.ok; is = sym c.index-seat.ensures } in
    seat-slot w (sits f)

pub returns-in_err-size : goal.returns-in_err-size
returns-in_err-size g c =
    let w = c.self.invariant in
    let f : FoundSeat c.args.name.now c.self.inside.seats.items c.in_ok-i.i c.index-seat.result.now =
    record { at = c.in_ok-i.ensures.ok; is = sym c.index-seat.ensures } in
    let p = err_from_is_err_and c.from_residual-in_err-size.result c.from_residual-in_err-size.ensures.1 in
    rw (p.1, p.2, ← c.self.view_is) (spool-missing w f c.args.anchor c.args.to c.args.your_ref c.in_err-size.ensures, refl)

pub returns-then-is_some : goal.returns-then-is_some
returns-then-is_some g c =
    let w = c.self.invariant in
    let f : FoundSeat c.args.name.now c.self.inside.seats.items c.in_ok-i.i c.index-seat.result.now =
    record { at = c.in_ok-i.ensures.ok; is = sym c.index-seat.ensures } in
    rw (← c.self.view_is) (spool-busy w f c.args.anchor c.args.to c.args.your_ref c.in_ok-size.ensures (sym c.if-is_some.ensures), refl)

pub returns-in_err-wider : goal.returns-in_err-wider
returns-in_err-wider g c =
    let w = c.self.invariant in
    let f : FoundSeat c.args.name.now c.self.inside.seats.items c.in_ok-i.i c.index-seat.result.now =
    record { at = c.in_ok-i.ensures.ok; is = sym c.index-seat.ensures } in
    let p = err_from_is_err_and c.from_residual-in_err-wider.result c.from_residual-in_err-wider.ensures.1 in
    let full = rw (← c.self.view_is, c.spool_letter-letter.ensures) at c.in_err-wider.ensures in
    rw (p.1, p.2, ← c.self.view_is) (spool-full w f c.args.anchor c.args.to c.args.your_ref c.in_ok-size.ensures (sym c.if-is_some.ensures) full, refl)

pub returns-in-Some : goal.returns-in-Some
returns-in-Some g c =
    let w = c.self.invariant in
    let f : FoundSeat c.args.name.now c.self.inside.seats.items c.in_ok-i.i c.index-seat.result.now =
    record { at = c.in_ok-i.ensures.ok; is = sym c.index-seat.ensures } in
    let same : c.index-seat-2.result.now ≡ c.index-seat.result.now =
    sym (one-member c.self.inside.seats.items c.in_ok-i.i c.index-seat.result.now c.index-seat-2.result.now (sits f) (sym c.index-seat-2.ensures)) in
    let room = rw (← c.self.view_is, c.spool_letter-letter.ensures) at c.in_ok-wider.ensures in
    let why = rw (c.next_ref.ensures, same) at c.in-Some.ensures in
    rw (← c.self.view_is) (spool-wrong w f c.args.anchor c.args.to c.args.your_ref c.in_ok-size.ensures (sym c.if-is_some.ensures) room why, refl)

pub widen_scrap-requires : goal.widen_scrap-requires
widen_scrap-requires g c =
    let w = c.self.invariant in
    let f : FoundSeat c.args.name.now c.self.inside.seats.items c.in_ok-i.i c.index-seat.result.now =
    record { at = c.in_ok-i.ensures.ok; is = sym c.index-seat.ensures } in
    let room = rw (← c.self.view_is, c.spool_letter-letter.ensures) at c.in_ok-wider.ensures in
    rw (← c.self.view_is) (spool-more w f c.args.anchor c.args.to c.args.your_ref c.in_ok-size.ensures (sym c.if-is_some.ensures) room)

pub send_from-requires : goal.send_from-requires
send_from-requires g c =
    let w = c.self.invariant in
    let f : FoundSeat c.args.name.now c.self.inside.seats.items c.in_ok-i.i c.index-seat.result.now =
    record { at = c.in_ok-i.ensures.ok; is = sym c.index-seat.ensures } in
    let room = rw (← c.self.view_is, c.spool_letter-letter.ensures) at c.in_ok-wider.ensures in
    let now = rw (← c.self.view_is) at c.widen_scrap.ensures in
    let a = spools w f c.args.anchor c.args.to c.args.your_ref c.in_ok-size.ensures (sym c.if-is_some.ensures) room now in
    rw c.spool_letter-letter.ensures (_, (spool-at a, a.own))

pub unwrap-load-requires : goal.unwrap-load-requires
unwrap-load-requires g c =
    let w = c.self.invariant in
    let f : FoundSeat c.args.name.now c.self.inside.seats.items c.in_ok-i.i c.index-seat.result.now =
    record { at = c.in_ok-i.ensures.ok; is = sym c.index-seat.ensures } in
    let room = rw (← c.self.view_is, c.spool_letter-letter.ensures) at c.in_ok-wider.ensures in
    let now = rw (← c.self.view_is) at c.widen_scrap.ensures in
    let a = spools w f c.args.anchor c.args.to c.args.your_ref c.in_ok-size.ensures (sym c.if-is_some.ensures) room now in
    let sent = rw c.spool_letter-letter.ensures at c.send_from.ensures in
    sends-ok _ c.widen_scrap.new.self c.send_from.new.self c.send_from.result sent a.sends

pub fill_scrap-requires-clause-place : goal.fill_scrap-requires-clause-place
fill_scrap-requires-clause-place g c =
    let w = c.self.invariant in
    let f : FoundSeat c.args.name.now c.self.inside.seats.items c.in_ok-i.i c.index-seat.result.now =
    record { at = c.in_ok-i.ensures.ok; is = sym c.index-seat.ensures } in
    let room = rw (← c.self.view_is, c.spool_letter-letter.ensures) at c.in_ok-wider.ensures in
    let now = rw (← c.self.view_is) at c.widen_scrap.ensures in
    let a = spools w f c.args.anchor c.args.to c.args.your_ref c.in_ok-size.ensures (sym c.if-is_some.ensures) room now in
    let sent = rw (c.unwrap-load.ensures, c.spool_letter-letter.ensures) at c.send_from.ensures in
    spool-inside a sent.1

pub fill_scrap-requires-clause-room : goal.fill_scrap-requires-clause-room
fill_scrap-requires-clause-room g c =
    let w = c.self.invariant in
    let f : FoundSeat c.args.name.now c.self.inside.seats.items c.in_ok-i.i c.index-seat.result.now =
    record { at = c.in_ok-i.ensures.ok; is = sym c.index-seat.ensures } in
    let room = rw (← c.self.view_is, c.spool_letter-letter.ensures) at c.in_ok-wider.ensures in
    let now = rw (← c.self.view_is) at c.widen_scrap.ensures in
    let a = spools w f c.args.anchor c.args.to c.args.your_ref c.in_ok-size.ensures (sym c.if-is_some.ensures) room now in
    let sent = rw (c.unwrap-load.ensures, c.spool_letter-letter.ensures) at c.send_from.ensures in
    spool-room a sent.1

pub fill_scrap-requires-clause-block : goal.fill_scrap-requires-clause-block
fill_scrap-requires-clause-block g c =
    let w = c.self.invariant in
    let f : FoundSeat c.args.name.now c.self.inside.seats.items c.in_ok-i.i c.index-seat.result.now =
    record { at = c.in_ok-i.ensures.ok; is = sym c.index-seat.ensures } in
    let room = rw (← c.self.view_is, c.spool_letter-letter.ensures) at c.in_ok-wider.ensures in
    let now = rw (← c.self.view_is) at c.widen_scrap.ensures in
    let a = spools w f c.args.anchor c.args.to c.args.your_ref c.in_ok-size.ensures (sym c.if-is_some.ensures) room now in
    let sent = rw (c.unwrap-load.ensures, c.spool_letter-letter.ensures) at c.send_from.ensures in
    spool-block a sent.1

pub returns : goal.returns
returns g c =
    let w = c.self.invariant in
    let f : FoundSeat c.args.name.now c.self.inside.seats.items c.in_ok-i.i c.index-seat.result.now =
    record { at = c.in_ok-i.ensures.ok; is = sym c.index-seat.ensures } in
    let same : c.index-seat-2.result.now ≡ c.index-seat.result.now =
    sym (one-member c.self.inside.seats.items c.in_ok-i.i c.index-seat.result.now c.index-seat-2.result.now (sits f) (sym c.index-seat-2.ensures)) in
    let room = rw (← c.self.view_is, c.spool_letter-letter.ensures) at c.in_ok-wider.ensures in
    let now = rw (← c.self.view_is) at c.widen_scrap.ensures in
    let sent = rw (c.unwrap-load.ensures, c.spool_letter-letter.ensures) at c.send_from.ensures in
    let may = rw (c.next_ref.ensures, same) at c.in_default.ensures in
    rw (← c.self.view_is) (spool-done w f c.args.anchor c.args.to c.args.your_ref c.in_ok-size.ensures
    (sym c.if-is_some.ensures) room now may sent.0 sent.1 c.fill_scrap.ensures)
