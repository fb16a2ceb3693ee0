use Rattle.rh_tasks.proofs.Common.{refl, sym, err_from_is_err_and, HasSlot, FoundSeat, ends, all-at, nobody, sits}
use Rattle.rh_defs.specs.Commands.{kill}
use Rattle.rh_tasks.proofs.Posts.{has-entry}
use Rattle.rh_tasks.proofs.Deaths.{kill-done, kill-world, slot-open, queue-then, spells-death}
use Rattle.rh_tasks.proofs.world.World.kill.Goals as goal

pub returns-in_err-i : goal.returns-in_err-i
unfolding kill
returns-in_err-i g c =
    let p = err_from_is_err_and c.from_residual.result c.from_residual.ensures.1 in
    rw (p.1, p.2, c.in_err-i.ensures.err.0, ← c.self.view_is) (ends _ (nobody _ _ _ _ _ _ c.in_err-i.ensures.err.1), refl)

pub bounce_for_death-requires-clause-queue : goal.bounce_for_death-requires-clause-queue
bounce_for_death-requires-clause-queue g c = c.self.invariant.queue

pub bounce_for_death-requires-clause-live : goal.bounce_for_death-requires-clause-live
bounce_for_death-requires-clause-live g c =
    let f : FoundSeat c.args.name.now c.self.inside.seats.items c.in_ok-i.i c.remove-seat.result =
    record { at = c.in_ok-i.ensures.ok; is = sym c.remove-seat.ensures.value } in
    has-entry c.self.invariant (sits f)

pub end-requires : goal.end-requires
end-requires g c =
    let m = g.S.Words.memory c.self.inside.store in
    let f : FoundSeat c.args.name.now c.self.inside.seats.items c.in_ok-i.i c.remove-seat.result =
    record { at = c.in_ok-i.ensures.ok; is = sym c.remove-seat.ensures.value } in
    let has = all-at (HasSlot m) c.self.inside.seats.items c.in_ok-i.i c.remove-seat.result c.self.invariant.areas.slots (sits f) in
    let low = g.met.S.Store.numbered c.self.inside.store c.remove-seat.result.slot.area.0 has.opened in
    slot-open c.self.invariant f low c.bounce_for_death.ensures.leaves

pub kept_scrap-self-inside-requires : goal.kept_scrap-self-inside-requires
kept_scrap-self-inside-requires g c =
    let m = g.S.Words.memory c.self.inside.store in
    let f : FoundSeat c.args.name.now c.self.inside.seats.items c.in_ok-i.i c.remove-seat.result =
    record { at = c.in_ok-i.ensures.ok; is = sym c.remove-seat.ensures.value } in
    let has = all-at (HasSlot m) c.self.inside.seats.items c.in_ok-i.i c.remove-seat.result c.self.invariant.areas.slots (sits f) in
    let low = g.met.S.Store.numbered c.self.inside.store c.remove-seat.result.slot.area.0 has.opened in
    rw (c.end.ensures) (queue-then c.self.invariant f low c.bounce_for_death.ensures.leaves)

pub invariant_of-self : goal.invariant_of-self
invariant_of-self g c =
    let m = g.S.Words.memory c.self.inside.store in
    let f : FoundSeat c.args.name.now c.self.inside.seats.items c.in_ok-i.i c.remove-seat.result =
    record { at = c.in_ok-i.ensures.ok; is = sym c.remove-seat.ensures.value } in
    let has = all-at (HasSlot m) c.self.inside.seats.items c.in_ok-i.i c.remove-seat.result c.self.invariant.areas.slots (sits f) in
    let low = g.met.S.Store.numbered c.self.inside.store c.remove-seat.result.slot.area.0 has.opened in
    let l = c.bounce_for_death.ensures.leaves in
    let scrap = (rw c.end.ensures at c.kept_scrap-self-inside.ensures) _ (spells-death c.self.invariant f low l) in
    rw (scrap, c.end.ensures, c.remove-seat.ensures.items) (kill-world c.self.invariant f low l c.requires)

pub returns : goal.returns
returns g c =
    let m = g.S.Words.memory c.self.inside.store in
    let f : FoundSeat c.args.name.now c.self.inside.seats.items c.in_ok-i.i c.remove-seat.result =
    record { at = c.in_ok-i.ensures.ok; is = sym c.remove-seat.ensures.value } in
    let has = all-at (HasSlot m) c.self.inside.seats.items c.in_ok-i.i c.remove-seat.result c.self.invariant.areas.slots (sits f) in
    let low = g.met.S.Store.numbered c.self.inside.store c.remove-seat.result.slot.area.0 has.opened in
    let l = c.bounce_for_death.ensures.leaves in
    let scrap = (rw c.end.ensures at c.kept_scrap-self-inside.ensures) _ (spells-death c.self.invariant f low l) in
    rw (← c.self.view_is, scrap, c.end.ensures, c.remove-seat.ensures.items) (kill-done c.self.invariant f low l c.requires)
