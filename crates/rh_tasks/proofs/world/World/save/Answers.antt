use Rattle.rh_tasks.proofs.Common.{refl, ap, sym, ◌∙◌, set, err_from_is_err_and, FoundSeat, source_block}
use Rattle.rh_tasks.proofs.Ranges.{save-anchor, save-leaf}
use Rattle.rh_tasks.proofs.Repeats.{same-shown, seat-kept}
use Rattle.rh_tasks.proofs.Saves.{again-found, again-given, save-stopped, save-nobody, may-open, save-refused, save-wrong, save-world, save-done, save-live}
use Rattle.rh_tasks.proofs.world.World.save.Goals as goal

pub idle_source-requires-clause-anchor : goal.idle_source-requires-clause-anchor
idle_source-requires-clause-anchor g c = save-anchor c.args.name.now c.args.anchor c.args.to.now c.args.leaf.now c.requires

pub returns-in_err-source : goal.returns-in_err-source
returns-in_err-source g c =
    let p = err_from_is_err_and c.from_residual.result c.from_residual.ensures.1 in
    rw (p.1, p.2, ← c.self.view_is)
    (save-stopped c.self.invariant c.args.anchor c.args.to.now c.args.leaf.now c.args.name.now c.in_err-source.ensures.err, refl)

pub returns-in_err-recipient : goal.returns-in_err-recipient
returns-in_err-recipient g c =
    let p = err_from_is_err_and c.from_residual-in_err-recipient.result c.from_residual-in_err-recipient.ensures.1 in
    let e = c.in_ok-source.ensures.ok in
    rw (p.1, p.2, c.in_err-recipient.ensures.err.0, ← c.self.view_is) (
      save-nobody c.self.invariant c.args.anchor c.args.to.now c.args.leaf.now e.found c.in_ok-source.source.size e.given c.in_err-recipient.ensures.err.1,
      refl,
    )

pub pathname-requires : goal.pathname-requires
pathname-requires g c = save-leaf c.args.name.now c.args.anchor c.args.to.now c.args.leaf.now c.requires

pub returns-then-is_raw : goal.returns-then-is_raw
returns-then-is_raw g c =
    let e = c.in_ok-source.ensures.ok in
    let s = c.index_mut-seat.result.now in
    let f : FoundSeat c.args.name.now c.self.inside.seats.items c.in_ok-source.source.place s = again-found e.found (sym c.index_mut-seat.ensures.value) in
    let given = again-given (source_block c.args.anchor) (g.S.Words.memory c.self.inside.store) e.found f e.given in
    let r = c.in_ok-recipient.ensures.ok in
    let x = rw (c.save_letter-letter.ensures, c.pathname.ensures) at c.refused_after.ensures in
    rw (← c.self.view_is) (
      save-wrong c.self.invariant c.args.anchor c.args.to.now c.args.leaf.now f c.in_ok-source.source.size given r.found r.is
          (sym c.is_raw.ensures ∙ c.if-is_raw.true) x,
      same-shown c.self.inside.made.items (g.F.NamedFiles.contents c.self.inside.files) c.self.inside.next c.self.inside.scrap refl
          (seat-kept c.self.invariant f) refl,
    )

pub send-requires-clause-from : goal.send-requires-clause-from
send-requires-clause-from g c =
    let e = c.in_ok-source.ensures.ok in
    let s = c.index_mut-seat.result.now in
    let f : FoundSeat c.args.name.now c.self.inside.seats.items c.in_ok-source.source.place s = again-found e.found (sym c.index_mut-seat.ensures.value) in
    let given = again-given (source_block c.args.anchor) (g.S.Words.memory c.self.inside.store) e.found f e.given in
    let r = c.in_ok-recipient.ensures.ok in
    rw (c.save_letter-letter.ensures)
    (save-live c.self.invariant c.args.anchor c.args.to.now c.args.leaf.now f c.in_ok-source.source.size given r.found r.is)

pub returns-in_err-my_ref : goal.returns-in_err-my_ref
returns-in_err-my_ref g c =
    let e = c.in_ok-source.ensures.ok in
    let s = c.index_mut-seat.result.now in
    let f : FoundSeat c.args.name.now c.self.inside.seats.items c.in_ok-source.source.place s = again-found e.found (sym c.index_mut-seat.ensures.value) in
    let given = again-given (source_block c.args.anchor) (g.S.Words.memory c.self.inside.store) e.found f e.given in
    let r = c.in_ok-recipient.ensures.ok in
    let p = err_from_is_err_and c.from_residual-in_err-my_ref.result c.from_residual-in_err-my_ref.ensures.1 in
    let x = rw (c.save_letter-letter.ensures, c.pathname.ensures) at c.in_err-my_ref.ensures in
    rw (p.1, p.2, ← c.self.view_is) (
      save-refused c.self.invariant c.args.anchor c.args.to.now c.args.leaf.now f c.in_ok-source.source.size given r.found r.is x.answer,
      same-shown c.self.inside.made.items (g.F.NamedFiles.contents c.self.inside.files) c.self.inside.next c.self.inside.scrap x.err.0
          (ap (set c.self.inside.seats.items c.in_ok-source.source.place) x.err.1.1 ∙ seat-kept c.self.invariant f) x.err.1.0,
    )

pub offered-requires : goal.offered-requires
offered-requires g c =
    let e = c.in_ok-source.ensures.ok in
    let s = c.index_mut-seat.result.now in
    let f : FoundSeat c.args.name.now c.self.inside.seats.items c.in_ok-source.source.place s = again-found e.found (sym c.index_mut-seat.ensures.value) in
    let given = again-given (source_block c.args.anchor) (g.S.Words.memory c.self.inside.store) e.found f e.given in
    let r = c.in_ok-recipient.ensures.ok in
    rw (c.in_ok-my_ref.ensures.ok) (may-open c.self.invariant c.args.anchor c.args.to.now c.args.leaf.now f c.in_ok-source.source.size given)

pub invariant_of-self-2 : goal.invariant_of-self-2
invariant_of-self-2 g c =
    let e = c.in_ok-source.ensures.ok in
    let s = c.index_mut-seat.result.now in
    let f : FoundSeat c.args.name.now c.self.inside.seats.items c.in_ok-source.source.place s = again-found e.found (sym c.index_mut-seat.ensures.value) in
    let given = again-given (source_block c.args.anchor) (g.S.Words.memory c.self.inside.store) e.found f e.given in
    let r = c.in_ok-recipient.ensures.ok in
    let x = rw (c.save_letter-letter.ensures, c.pathname.ensures) at c.in_ok-my_ref.ensures in
    rw (c.offered.ensures, x.ok) (save-world c.self.invariant c.args.anchor c.args.to.now c.args.leaf.now f c.in_ok-source.source.size given r.found r.is
    (sym c.is_raw.ensures ∙ c.if-is_raw.false) c.in_ok-my_ref.my_ref x.answer x.leaves c.requires)

pub returns : goal.returns
returns g c =
    let e = c.in_ok-source.ensures.ok in
    let s = c.index_mut-seat.result.now in
    let f : FoundSeat c.args.name.now c.self.inside.seats.items c.in_ok-source.source.place s = again-found e.found (sym c.index_mut-seat.ensures.value) in
    let given = again-given (source_block c.args.anchor) (g.S.Words.memory c.self.inside.store) e.found f e.given in
    let r = c.in_ok-recipient.ensures.ok in
    let x = rw (c.save_letter-letter.ensures, c.pathname.ensures) at c.in_ok-my_ref.ensures in
    rw (← c.self.view_is, c.offered.ensures, x.ok) (save-done c.self.invariant c.args.anchor c.args.to.now c.args.leaf.now f c.in_ok-source.source.size given
    r.found r.is (sym c.is_raw.ensures ∙ c.if-is_raw.false) c.in_ok-my_ref.my_ref x.answer x.leaves c.requires)
