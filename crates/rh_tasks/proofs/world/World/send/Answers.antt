use Rattle.rh_tasks.proofs.Common.{refl, ap, sym, ◌∙◌, err_from_is_err_and, set, FoundSeat, ends, sits, nobody}
use Rattle.rh_defs.specs.RawCommands.{send}
use Rattle.rh_tasks.proofs.RawSends.{letter, send-done, send-live, send-refused, send-wrong}
use Rattle.rh_tasks.proofs.Repeats.{answered-spells, answered-world, same-shown, seat-kept}
use Rattle.rh_tasks.proofs.world.World.send.Goals as goal

pub returns-in_err-i : goal.returns-in_err-i
unfolding send
returns-in_err-i g c =
    let p = err_from_is_err_and c.from_residual.result c.from_residual.ensures.1 in
    rw (p.1, p.2, c.in_err-i.ensures.err.0, ← c.self.view_is) (ends _ (nobody _ _ _ _ _ _ c.in_err-i.ensures.err.1), refl)

pub returns-in-Some : goal.returns-in-Some
returns-in-Some g c =
    let s = c.index_mut-seat.result.now in
    let f : FoundSeat c.args.name.now c.self.inside.seats.items c.in_ok-i.i s = record { at = c.in_ok-i.ensures.ok; is = sym c.index_mut-seat.ensures.value } in
    let wrong = rw (c.raw_letter-letter.ensures, c.body_of-body.ensures) at c.refused_after.ensures in
    let why = rw c.next_ref-next_ref.ensures at c.in-Some.ensures in
    rw (← c.self.view_is) (
      send-wrong c.self.invariant f c.args.recorded c.args.to c.args.your_ref c.args.action c.args.bytes.now why wrong,
      same-shown c.self.inside.made.items (g.F.NamedFiles.contents c.self.inside.files) c.self.inside.next c.self.inside.scrap refl
          (seat-kept c.self.invariant f) refl,
    )

pub send-requires-clause-from : goal.send-requires-clause-from
send-requires-clause-from g c =
    let s = c.index_mut-seat.result.now in
    let f : FoundSeat c.args.name.now c.self.inside.seats.items c.in_ok-i.i s = record { at = c.in_ok-i.ensures.ok; is = sym c.index_mut-seat.ensures.value } in
    rw (c.raw_letter-letter.ensures)
    (send-live c.self.invariant f c.args.recorded c.args.to c.args.your_ref c.args.action c.args.bytes.now)

pub returns-in_err-my_ref : goal.returns-in_err-my_ref
returns-in_err-my_ref g c =
    let s = c.index_mut-seat.result.now in
    let f : FoundSeat c.args.name.now c.self.inside.seats.items c.in_ok-i.i s = record { at = c.in_ok-i.ensures.ok; is = sym c.index_mut-seat.ensures.value } in
    let p = err_from_is_err_and c.from_residual-in_err-my_ref.result c.from_residual-in_err-my_ref.ensures.1 in
    let e = rw (c.raw_letter-letter.ensures, c.body_of-body.ensures) at c.in_err-my_ref.ensures in
    rw (p.1, p.2, ← c.self.view_is) (
      send-refused c.self.invariant f c.args.recorded c.args.to c.args.your_ref c.args.action c.args.bytes.now e.answer,
      same-shown c.self.inside.made.items (g.F.NamedFiles.contents c.self.inside.files) c.self.inside.next c.self.inside.scrap e.err.0
          (ap (set c.self.inside.seats.items c.in_ok-i.i) e.err.1.1 ∙ seat-kept c.self.invariant f) e.err.1.0,
    )

pub invariant_of-self-2 : goal.invariant_of-self-2
invariant_of-self-2 g c =
    let s = c.index_mut-seat.result.now in
    let f : FoundSeat c.args.name.now c.self.inside.seats.items c.in_ok-i.i s = record { at = c.in_ok-i.ensures.ok; is = sym c.index_mut-seat.ensures.value } in
    let e = rw (c.raw_letter-letter.ensures, c.body_of-body.ensures) at c.in_ok-my_ref.ensures in
    let own = letter c.self.invariant f c.args.recorded c.args.to c.args.your_ref c.args.action c.args.bytes.now in
    let scrap = c.kept_scrap-self-inside.ensures _ (answered-spells c.self.invariant (sits f) own refl c.in_ok-my_ref.my_ref e.answer e.leaves) in
    rw (scrap, e.ok) (answered-world c.self.invariant (sits f) own refl c.in_ok-my_ref.my_ref e.answer e.leaves)

pub returns : goal.returns
returns g c =
    let s = c.index_mut-seat.result.now in
    let f : FoundSeat c.args.name.now c.self.inside.seats.items c.in_ok-i.i s = record { at = c.in_ok-i.ensures.ok; is = sym c.index_mut-seat.ensures.value } in
    let e = rw (c.raw_letter-letter.ensures, c.body_of-body.ensures) at c.in_ok-my_ref.ensures in
    let own = letter c.self.invariant f c.args.recorded c.args.to c.args.your_ref c.args.action c.args.bytes.now in
    let scrap = c.kept_scrap-self-inside.ensures _ (answered-spells c.self.invariant (sits f) own refl c.in_ok-my_ref.my_ref e.answer e.leaves) in
    let may = rw c.next_ref-next_ref.ensures at c.in_default.ensures in
    rw (← c.self.view_is, scrap, e.ok)
    (send-done c.self.invariant f c.args.recorded c.args.to c.args.your_ref c.args.action c.args.bytes.now may c.in_ok-my_ref.my_ref e.answer e.leaves)
