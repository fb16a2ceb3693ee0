use Rattle.rh_tasks.proofs.Common.{refl, ap, sym, ◌∙◌, err_from_is_err_and, set, FoundSeat, ends, sits, nobody}
use Rattle.rh_defs.specs.Commands.{repeat}
use Rattle.rh_tasks.proofs.Repeats.{same-shown, seat-kept, from-live, again-own, repeat-nothing, repeat-refused, repeat-world, repeat-done, repeat-answered}
use Rattle.rh_tasks.proofs.Repeats.{answered-spells, answered-world}
use Rattle.rh_tasks.proofs.world.World.repeat.Goals as goal

pub returns-in_err-i : goal.returns-in_err-i
unfolding repeat
returns-in_err-i g c =
    let p = err_from_is_err_and c.from_residual.result c.from_residual.ensures.1 in
    rw (p.1, p.2, c.in_err-i.ensures.err.0, ← c.self.view_is) (ends _ (nobody _ _ _ _ _ _ c.in_err-i.ensures.err.1), refl)

pub returns-in_err-letter : goal.returns-in_err-letter
returns-in_err-letter g c =
    let s = c.index_mut-seat.result.now in
    let f : FoundSeat c.args.name.now c.self.inside.seats.items c.in_ok-i.i s = record { at = c.in_ok-i.ensures.ok; is = sym c.index_mut-seat.ensures.value } in
    let p = err_from_is_err_and c.from_residual-in_err-letter.result c.from_residual-in_err-letter.ensures.1 in
    rw (p.1, p.2, ← c.self.view_is) (
      repeat-nothing c.self.invariant f (sym c.in_err-letter.ensures),
      same-shown c.self.inside.made.items (g.F.NamedFiles.contents c.self.inside.files) c.self.inside.next c.self.inside.scrap refl
          (seat-kept c.self.invariant f) refl,
    )

pub send-requires-clause-from : goal.send-requires-clause-from
send-requires-clause-from g c =
    let s = c.index_mut-seat.result.now in
    let f : FoundSeat c.args.name.now c.self.inside.seats.items c.in_ok-i.i s = record { at = c.in_ok-i.ensures.ok; is = sym c.index_mut-seat.ensures.value } in
    from-live c.self.invariant (sits f) c.in_ok-letter.letter (again-own c.self.invariant f c.in_ok-letter.letter (sym c.in_ok-letter.ensures))

pub returns-in_err-my_ref : goal.returns-in_err-my_ref
returns-in_err-my_ref g c =
    let s = c.index_mut-seat.result.now in
    let f : FoundSeat c.args.name.now c.self.inside.seats.items c.in_ok-i.i s = record { at = c.in_ok-i.ensures.ok; is = sym c.index_mut-seat.ensures.value } in
    let p = err_from_is_err_and c.from_residual-in_err-my_ref.result c.from_residual-in_err-my_ref.ensures.1 in
    let e = c.in_err-my_ref.ensures in
    rw (p.1, p.2, ← c.self.view_is) (
      repeat-refused c.self.invariant f c.in_ok-letter.letter (sym c.in_ok-letter.ensures) e.answer,
      same-shown c.self.inside.made.items (g.F.NamedFiles.contents c.self.inside.files) c.self.inside.next c.self.inside.scrap e.err.0
          (ap (set c.self.inside.seats.items c.in_ok-i.i) e.err.1.1 ∙ seat-kept c.self.invariant f) e.err.1.0,
    )

pub invariant_of-self-then-not-is_raw : goal.invariant_of-self-then-not-is_raw
invariant_of-self-then-not-is_raw g c =
    let s = c.index_mut-seat.result.now in
    let f : FoundSeat c.args.name.now c.self.inside.seats.items c.in_ok-i.i s = record { at = c.in_ok-i.ensures.ok; is = sym c.index_mut-seat.ensures.value } in
    let e = c.in_ok-my_ref.ensures in
    let played = sym c.is_raw-is_raw.ensures ∙ c.if-not-is_raw.true in
    rw (e.ok)
    (repeat-world c.self.invariant f c.in_ok-letter.letter (sym c.in_ok-letter.ensures) c.in_ok-my_ref.my_ref e.answer e.leaves c.requires played)

pub returns-then-not-is_raw : goal.returns-then-not-is_raw
returns-then-not-is_raw g c =
    let s = c.index_mut-seat.result.now in
    let f : FoundSeat c.args.name.now c.self.inside.seats.items c.in_ok-i.i s = record { at = c.in_ok-i.ensures.ok; is = sym c.index_mut-seat.ensures.value } in
    let e = c.in_ok-my_ref.ensures in
    let played = sym c.is_raw-is_raw.ensures ∙ c.if-not-is_raw.true in
    rw (← c.self.view_is, e.ok)
    (repeat-done c.self.invariant f c.in_ok-letter.letter (sym c.in_ok-letter.ensures) c.in_ok-my_ref.my_ref e.answer e.leaves c.requires played)

pub invariant_of-self-2 : goal.invariant_of-self-2
invariant_of-self-2 g c =
    let s = c.index_mut-seat.result.now in
    let f : FoundSeat c.args.name.now c.self.inside.seats.items c.in_ok-i.i s = record { at = c.in_ok-i.ensures.ok; is = sym c.index_mut-seat.ensures.value } in
    let e = c.in_ok-my_ref.ensures in
    let letter = c.in_ok-letter.letter in
    let own = again-own c.self.invariant f letter (sym c.in_ok-letter.ensures) in
    let scrap = c.kept_scrap-self-inside.ensures _ (answered-spells c.self.invariant (sits f) letter own c.in_ok-my_ref.my_ref e.answer e.leaves) in
    rw (scrap, e.ok) (answered-world c.self.invariant (sits f) letter own c.in_ok-my_ref.my_ref e.answer e.leaves)

pub returns : goal.returns
returns g c =
    let s = c.index_mut-seat.result.now in
    let f : FoundSeat c.args.name.now c.self.inside.seats.items c.in_ok-i.i s = record { at = c.in_ok-i.ensures.ok; is = sym c.index_mut-seat.ensures.value } in
    let e = c.in_ok-my_ref.ensures in
    let letter = c.in_ok-letter.letter in
    let own = again-own c.self.invariant f letter (sym c.in_ok-letter.ensures) in
    let scrap = c.kept_scrap-self-inside.ensures _ (answered-spells c.self.invariant (sits f) letter own c.in_ok-my_ref.my_ref e.answer e.leaves) in
    rw (← c.self.view_is, scrap, e.ok)
    (repeat-answered c.self.invariant f letter (sym c.in_ok-letter.ensures) c.in_ok-my_ref.my_ref e.answer e.leaves c.requires
    (sym c.is_raw-is_raw.ensures ∙ c.if-not-is_raw.false))
