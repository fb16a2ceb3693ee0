use Rattle.rh_tasks.proofs.Common.{ap, arith, length, ◌≤◌, ◌∙◌, Some, bytes, slot_size, slot_block, Desk, Shown, Sits}
use Rattle.rh_tasks.proofs.Buffers.{sits-there, seat-there}
use Rattle.rh_tasks.proofs.Fixed.{fixed-at, pages-of}
use Rattle.rh_tasks.proofs.Scraps.{seen-slot, source-anchor, source-given, source-high, source-inside, filled-world, filled-desk}
use Rattle.rh_tasks.proofs.world.World.fill_scrap.Goals as goal

pub address-requires-clause-anchor : goal.address-requires-clause-anchor
address-requires-clause-anchor g c =
    let s = c.index-seat.result.now in
    let at : Sits c.self.inside.seats.items c.args.i s = sits-there c.self.invariant c.self.view_is c.requires.place c.index-seat.ensures in
    let task = seat-there c.self.invariant c.self.view_is at in
    let given = ap (slot_size c.args.anchor) (seen-slot c.self.invariant c.self.view_is at task) ∙ c.requires.block _ task in
    source-anchor c.self.invariant at c.args.anchor c.args.size c.args.load given

pub unwrap-address-requires : goal.unwrap-address-requires
unwrap-address-requires g c =
    let s = c.index-seat.result.now in
    let at : Sits c.self.inside.seats.items c.args.i s = sits-there c.self.invariant c.self.view_is c.requires.place c.index-seat.ensures in
    let task = seat-there c.self.invariant c.self.view_is at in
    let given = ap (slot_size c.args.anchor) (seen-slot c.self.invariant c.self.view_is at task) ∙ c.requires.block _ task in
    source-given c.self.invariant at c.args.anchor c.args.size c.args.load given c.address.ensures

pub overflow_sub-address : goal.overflow_sub-address
overflow_sub-address g c =
    let s = c.index-seat.result.now in
    let at : Sits c.self.inside.seats.items c.args.i s = sits-there c.self.invariant c.self.view_is c.requires.place c.index-seat.ensures in
    let task = seat-there c.self.invariant c.self.view_is at in
    let given = ap (slot_size c.args.anchor) (seen-slot c.self.invariant c.self.view_is at task) ∙ c.requires.block _ task in
    let there = rw c.unwrap-address.ensures at c.address.ensures in
    source-high c.self.invariant at c.args.anchor c.args.size c.args.load given there

pub copy-requires-clause-source : goal.copy-requires-clause-source
copy-requires-clause-source g c =
    let s = c.index-seat.result.now in
    let at : Sits c.self.inside.seats.items c.args.i s = sits-there c.self.invariant c.self.view_is c.requires.place c.index-seat.ensures in
    let task = seat-there c.self.invariant c.self.view_is at in
    let given = ap (slot_size c.args.anchor) (seen-slot c.self.invariant c.self.view_is at task) ∙ c.requires.block _ task in
    let there = rw c.unwrap-address.ensures at c.address.ensures in
    source-inside c.self.invariant at c.args.anchor c.args.size c.args.load given there

pub copy-requires-clause-target : goal.copy-requires-clause-target
copy-requires-clause-target g c =
    let m = g.S.Words.memory c.self.inside.store in
    let whole = g.met.S.Paged.whole c.self.inside.store 5 in
    let fits = rw (← c.self.view_is) at c.requires.room in
    let room : c.args.size ≤ length (bytes m 5) = omega (arith, fits, fixed-at m 5 (omega arith) (λ q. absurd (omega (arith, q))), pages-of m 5 whole) in
    omega (arith, room)

pub invariant_of-self : goal.invariant_of-self
invariant_of-self g c =
    let m = g.S.Words.memory c.self.inside.store in
    let s = c.index-seat.result.now in
    let at : Sits c.self.inside.seats.items c.args.i s = sits-there c.self.invariant c.self.view_is c.requires.place c.index-seat.ensures in
    let task = seat-there c.self.invariant c.self.view_is at in
    let given = ap (slot_size c.args.anchor) (seen-slot c.self.invariant c.self.view_is at task) ∙ c.requires.block _ task in
    let there = rw c.unwrap-address.ensures at c.address.ensures in
    let whole = g.met.S.Paged.whole c.self.inside.store 5 in
    let fits = rw (← c.self.view_is) at c.requires.room in
    let room : c.args.size ≤ length (bytes m 5) = omega (arith, fits, fixed-at m 5 (omega arith) (λ q. absurd (omega (arith, q))), pages-of m 5 whole) in
    rw c.copy.ensures (filled-world c.self.invariant at c.args.anchor c.args.size c.args.load given there room whole)

pub returns : goal.returns
returns g c =
    let m = g.S.Words.memory c.self.inside.store in
    let s = c.index-seat.result.now in
    let at : Sits c.self.inside.seats.items c.args.i s = sits-there c.self.invariant c.self.view_is c.requires.place c.index-seat.ensures in
    let task = seat-there c.self.invariant c.self.view_is at in
    let given = ap (slot_size c.args.anchor) (seen-slot c.self.invariant c.self.view_is at task) ∙ c.requires.block _ task in
    let there = rw c.unwrap-address.ensures at c.address.ensures in
    let whole = g.met.S.Paged.whole c.self.inside.store 5 in
    let fits = rw (← c.self.view_is) at c.requires.room in
    let room : c.args.size ≤ length (bytes m 5) = omega (arith, fits, fixed-at m 5 (omega arith) (λ q. absurd (omega (arith, q))), pages-of m 5 whole) in
    rw c.copy.ensures (λ t b same is.
    filled-desk c.self.invariant at c.args.anchor c.args.size c.args.load given there room whole b
    (ap (slot_block c.args.anchor) (seen-slot c.self.invariant c.self.view_is at same) ∙ is)
    ∙ ap (λ (x : Shown). let e : Desk = record x.desk { scrap = Some (record { load = c.args.load; bytes = b.here.bytes }) } in e) c.self.view_is)
