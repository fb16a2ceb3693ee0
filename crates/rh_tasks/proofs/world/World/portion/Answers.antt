use Rattle.rh_tasks.proofs.Common.{◌≡◌, ◌+◌, refl, sym, ap, ◌∙◌, arith, err_from_is_err_and, flex_address, slot_in, HasSlot, task_of, all-at}
use Rattle.rh_tasks.proofs.SeatRecords.{sits-in}
use Rattle.rh_tasks.proofs.Portions.{unsized, sized, addressed, stands}
use Rattle.rh_tasks.proofs.Fetches.{seated, seat-is}
use Rattle.rh_tasks.proofs.world.World.portion.Goals as goal

pub returns-in_err-size-clause-err : goal.returns-in_err-size-clause-err
unfolding task_of
returns-in_err-size-clause-err g c =
    let p = err_from_is_err_and c.from_residual.result c.from_residual.ensures.1 in
    let m = g.S.Words.memory c.self.inside.store in
    let seats = c.self.inside.seats.items in
    let s = c.index-seat.result.now in
    rw (p.1, p.2, ← c.self.view_is) (λ t ti. rw (seat-is (seated m seats c.args.i t ti) s (sym c.index-seat.ensures))
    (unsized c.args.a.now.transfer.anchor (slot_in m s.slot) c.in_err-size.ensures))

pub address-requires-clause-anchor : goal.address-requires-clause-anchor
address-requires-clause-anchor g c =
    let m = g.S.Words.memory c.self.inside.store in
    let s = c.index-seat.result.now in
    let inside = rw (← c.self.view_is) at c.requires in
    let at = sits-in c.self.invariant inside (sym c.index-seat.ensures) in
    let has = all-at (HasSlot m) c.self.inside.seats.items c.args.i s c.self.invariant.areas.slots at in
    let z = sized c.in_ok-size.ensures in
    let there = stands has.spells.words.anchors z.block in
    omega (arith, there.small)

pub unwrap-start-requires : goal.unwrap-start-requires
unwrap-start-requires g c =
    let z = sized c.in_ok-size.ensures in
    rw (c.address.ensures, addressed z) refl

pub next_address-address-requires : goal.next_address-address-requires
next_address-address-requires g c =
    let m = g.S.Words.memory c.self.inside.store in
    let s = c.index-seat.result.now in
    let inside = rw (← c.self.view_is) at c.requires in
    let at = sits-in c.self.invariant inside (sym c.index-seat.ensures) in
    let has = all-at (HasSlot m) c.self.inside.seats.items c.args.i s c.self.invariant.areas.slots at in
    let z = sized c.in_ok-size.ensures in
    let there = stands has.spells.words.anchors z.block in
    let same : c.unwrap-start.result ≡ flex_address (slot_in m s.slot) z.cut.before =
    (let e = sym c.unwrap-start.ensures ∙ c.address.ensures ∙ addressed z in cc) in
    omega (arith, same, there.high, has.spells.words.within, g.met.S.Words.small c.self.inside.store s.slot.area.0)

pub returns-clause-ok : goal.returns-clause-ok
unfolding task_of
returns-clause-ok g c =
    let m = g.S.Words.memory c.self.inside.store in
    let seats = c.self.inside.seats.items in
    let s = c.index-seat.result.now in
    let z = sized c.in_ok-size.ensures in
    let same : c.unwrap-start.result ≡ flex_address (slot_in m s.slot) z.cut.before =
    (let e = sym c.unwrap-start.ensures ∙ c.address.ensures ∙ addressed z in cc) in
    rw (← c.self.view_is) (λ t ti. rw (seat-is (seated m seats c.args.i t ti) s (sym c.index-seat.ensures)) (record {
      source = z.cut;
      block = z.block;
      size_is = z.long;
      address_is = c.next_address-address.ensures.next ∙ ap (λ k. k + c.part-part.result.offset) same;
      part_is = c.part-part.ensures.part;
    }))
