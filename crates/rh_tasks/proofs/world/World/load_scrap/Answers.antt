use Rattle.rh_tasks.proofs.Common.{refl, sym, arith, err_from_is_err_and, FoundSeat, ends, nobody, sits, granted}
use Rattle.rh_defs.specs.RawCommands.{scrap}
use Rattle.rh_tasks.proofs.Addresses.{grant-of, slot_alloc-low}
use Rattle.rh_tasks.proofs.Finding.{found-in}
use Rattle.rh_tasks.proofs.Polls.{place-in, task-there}
use Rattle.rh_tasks.proofs.RawRanges.{scrap-anchor}
use Rattle.rh_tasks.proofs.ScrapLoads.{alloc-answers, scrap-below, scrap-done, scrap-inside, scrap-missing, scrap-opened, scrap-put, scrap-refused, scrap-world}
use Rattle.rh_tasks.proofs.ScrapLoads.{scrap-wrong}
use Rattle.rh_tasks.proofs.Slides.{seat-slot}
use Rattle.rh_tasks.proofs.world.World.load_scrap.Goals as goal

pub returns-in_err-i : goal.returns-in_err-i
unfolding scrap
returns-in_err-i g c =
    let p = err_from_is_err_and c.from_residual.result c.from_residual.ensures.1 in
    rw (p.1, p.2, c.in_err-i.ensures.err.0, ← c.self.view_is) (ends _ (nobody _ _ _ _ _ _ c.in_err-i.ensures.err.1), refl)

pub held_file-requires : goal.held_file-requires
held_file-requires g c =
    let f = found-in c.in_ok-i.ensures.ok in
    rw (← c.self.view_is) (place-in c.self.invariant f.1)

pub returns-in_err-size : goal.returns-in_err-size
returns-in_err-size g c =
    let w = c.self.invariant in
    let f = found-in c.in_ok-i.ensures.ok in
    let p = err_from_is_err_and c.from_residual-in_err-size.result c.from_residual-in_err-size.ensures.1 in
    let e = (rw (← c.self.view_is) at c.in_err-size.ensures) _ (task-there w f.1) in
    rw (p.1, p.2, ← c.self.view_is) (scrap-missing w f.1 c.args.anchor e, refl)

pub can_alloc-requires-clause-slot : goal.can_alloc-requires-clause-slot
can_alloc-requires-clause-slot g c =
    let w = c.self.invariant in
    let f : FoundSeat c.args.name.now c.self.inside.seats.items c.in_ok-i.i c.index-seat.result.now =
    record { at = c.in_ok-i.ensures.ok; is = sym c.index-seat.ensures } in
    seat-slot w (sits f)

pub can_alloc-requires-clause-anchor : goal.can_alloc-requires-clause-anchor
can_alloc-requires-clause-anchor g c =
    scrap-anchor c.args.name.now c.args.anchor c.requires

pub returns-in_err-can_alloc : goal.returns-in_err-can_alloc
returns-in_err-can_alloc g c =
    let w = c.self.invariant in
    let f : FoundSeat c.args.name.now c.self.inside.seats.items c.in_ok-i.i c.index-seat.result.now =
    record { at = c.in_ok-i.ensures.ok; is = sym c.index-seat.ensures } in
    let holds = (rw (← c.self.view_is) at c.in_ok-size.ensures) _ (task-there w f) in
    let p = err_from_is_err_and c.from_residual-in_err-can_alloc.result c.from_residual-in_err-can_alloc.ensures.1 in
    rw (p.1, p.2, ← c.self.view_is) (scrap-refused w f c.args.anchor holds c.in_err-can_alloc.ensures, refl)

pub returns-then-not-is_raw : goal.returns-then-not-is_raw
returns-then-not-is_raw g c =
    let w = c.self.invariant in
    let f : FoundSeat c.args.name.now c.self.inside.seats.items c.in_ok-i.i c.index-seat.result.now =
    record { at = c.in_ok-i.ensures.ok; is = sym c.index-seat.ensures } in
    let holds = (rw (← c.self.view_is) at c.in_ok-size.ensures) _ (task-there w f) in
    let own = sym c.if-not-is_raw.ensures in
    rw (← c.self.view_is) (scrap-wrong w f c.args.anchor holds c.in_ok-can_alloc.ensures own, refl)

pub alloc-requires-clause-slot : goal.alloc-requires-clause-slot
alloc-requires-clause-slot g c =
    let w = c.self.invariant in
    let f : FoundSeat c.args.name.now c.self.inside.seats.items c.in_ok-i.i c.index-seat.result.now =
    record { at = c.in_ok-i.ensures.ok; is = sym c.index-seat.ensures } in
    seat-slot w (sits f)

pub alloc-requires-clause-anchor : goal.alloc-requires-clause-anchor
alloc-requires-clause-anchor g c =
    scrap-anchor c.args.name.now c.args.anchor c.requires

pub unwrap-address-requires : goal.unwrap-address-requires
unwrap-address-requires g c =
    alloc-answers _ c.alloc.result c.alloc.ensures c.in_ok-can_alloc.ensures

pub put_from-requires-clause-slot : goal.put_from-requires-clause-slot
put_from-requires-clause-slot g c =
    let l = rw c.unwrap-address.ensures at c.alloc.ensures in
    l.still

pub put_from-requires-clause-anchor : goal.put_from-requires-clause-anchor
put_from-requires-clause-anchor g c =
    scrap-anchor c.args.name.now c.args.anchor c.requires

pub put_from-requires-clause-opened : goal.put_from-requires-clause-opened
put_from-requires-clause-opened g c =
    let w = c.self.invariant in
    let f : FoundSeat c.args.name.now c.self.inside.seats.items c.in_ok-i.i c.index-seat.result.now =
    record { at = c.in_ok-i.ensures.ok; is = sym c.index-seat.ensures } in
    let holds = (rw (← c.self.view_is) at c.in_ok-size.ensures) _ (task-there w f) in
    let l = rw c.unwrap-address.ensures at c.alloc.ensures in
    scrap-opened w f c.args.anchor holds l

pub put_from-requires-clause-source : goal.put_from-requires-clause-source
put_from-requires-clause-source g c =
    let w = c.self.invariant in
    let f : FoundSeat c.args.name.now c.self.inside.seats.items c.in_ok-i.i c.index-seat.result.now =
    record { at = c.in_ok-i.ensures.ok; is = sym c.index-seat.ensures } in
    let holds = (rw (← c.self.view_is) at c.in_ok-size.ensures) _ (task-there w f) in
    let l = rw c.unwrap-address.ensures at c.alloc.ensures in
    scrap-inside w f c.args.anchor holds l

pub put_from-requires-clause-below : goal.put_from-requires-clause-below
put_from-requires-clause-below g c =
    let w = c.self.invariant in
    let f : FoundSeat c.args.name.now c.self.inside.seats.items c.in_ok-i.i c.index-seat.result.now =
    record { at = c.in_ok-i.ensures.ok; is = sym c.index-seat.ensures } in
    let holds = (rw (← c.self.view_is) at c.in_ok-size.ensures) _ (task-there w f) in
    let l = rw c.unwrap-address.ensures at c.alloc.ensures in
    scrap-below w f c.args.anchor holds l

pub unwrap-requires : goal.unwrap-requires
unwrap-requires g c =
    let w = c.self.invariant in
    let f : FoundSeat c.args.name.now c.self.inside.seats.items c.in_ok-i.i c.index-seat.result.now =
    record { at = c.in_ok-i.ensures.ok; is = sym c.index-seat.ensures } in
    let holds = (rw (← c.self.view_is) at c.in_ok-size.ensures) _ (task-there w f) in
    let l = rw c.unwrap-address.ensures at c.alloc.ensures in
    scrap-put w f c.args.anchor holds l c.put_from.result c.put_from.ensures

pub overflow_cast-result : goal.overflow_cast-result
overflow_cast-result g c =
    let w = c.self.invariant in
    let f : FoundSeat c.args.name.now c.self.inside.seats.items c.in_ok-i.i c.index-seat.result.now =
    record { at = c.in_ok-i.ensures.ok; is = sym c.index-seat.ensures } in
    let l = rw c.unwrap-address.ensures at c.alloc.ensures in
    let is = seat-slot w (sits f) in
    let low = grant-of (slot_alloc-low _ _ _ _) (granted l) in
    omega (
      arith,
      low,
      is.spells.words.within,
      is.spells.words.heap.within,
      is.spells.words.heap.heap.fits,
      g.met.S.Words.small c.self.inside.store c.index-seat.result.now.slot.area.0,
    )

pub invariant_of-self : goal.invariant_of-self
invariant_of-self g c =
    let w = c.self.invariant in
    let f : FoundSeat c.args.name.now c.self.inside.seats.items c.in_ok-i.i c.index-seat.result.now =
    record { at = c.in_ok-i.ensures.ok; is = sym c.index-seat.ensures } in
    let holds = (rw (← c.self.view_is) at c.in_ok-size.ensures) _ (task-there w f) in
    let l = rw c.unwrap-address.ensures at c.alloc.ensures in
    let own = sym c.if-not-is_raw.ensures in
    let l2 = rw c.unwrap.ensures at c.put_from.ensures in
    scrap-world w f c.args.anchor holds l own l2 c.requires

pub returns : goal.returns
returns g c =
    let w = c.self.invariant in
    let f : FoundSeat c.args.name.now c.self.inside.seats.items c.in_ok-i.i c.index-seat.result.now =
    record { at = c.in_ok-i.ensures.ok; is = sym c.index-seat.ensures } in
    let holds = (rw (← c.self.view_is) at c.in_ok-size.ensures) _ (task-there w f) in
    let l = rw c.unwrap-address.ensures at c.alloc.ensures in
    let own = sym c.if-not-is_raw.ensures in
    let l2 = rw c.unwrap.ensures at c.put_from.ensures in
    rw (← c.self.view_is) (scrap-done w f c.args.anchor holds l own l2)
