use Rattle.rh_tasks.proofs.Common.{◌≡◌, refl, sym, subst, List, Ok, IsOk, Result, Refusal, Outgoing}
use Rattle.std.specs.Fn.{FnOnceReturnsAtMut}
use Rattle.rh_tasks.proofs.SeatRecords.{sits-in, sends-own, sends-as, sending-world, sending-done}
use Rattle.rh_tasks.proofs.world.World.edit_sending.Goals as goal

pub unwrap-requires : goal.unwrap-requires
unwrap-requires g c =
    let at = sits-in c.self.invariant (rw (← c.self.view_is) at c.requires.place) (sym c.index_mut-seat.ensures.value) in
    sends-own c.self.invariant at
    (λ records. (said : Result (Unit {0}) Refusal) (new : List Outgoing) → FnOnceReturnsAtMut g.E.FnOnce c.args.edit records said new → IsOk said)
    (rw (← c.self.view_is) at c.requires.taken) c.edit.result c.edit.new.arg2
    (record { shown = _; shows = refl; left = _; met = c.edit.ensures; leaves = refl })

pub invariant_of-self : goal.invariant_of-self
invariant_of-self g c =
    let at = sits-in c.self.invariant (rw (← c.self.view_is) at c.requires.place) (sym c.index_mut-seat.ensures.value) in
    sending-world c.self.invariant at (λ _. c.edit.new.arg2) refl

pub returns : goal.returns
returns g c = λ t change there only.
    let at = sits-in c.self.invariant (rw (← c.self.view_is) at c.requires.place) (sym c.index_mut-seat.ensures.value) in
    let where_is = rw (← c.self.view_is) at there in
    let records = c.index_mut-seat.result.now.sending in
    let left : FnOnceReturnsAtMut g.E.FnOnce c.args.edit records (Ok tt) c.edit.new.arg2 =
    subst (λ said. FnOnceReturnsAtMut g.E.FnOnce c.args.edit records said c.edit.new.arg2) c.unwrap.ensures
    (record { shown = _; shows = refl; left = _; met = c.edit.ensures; leaves = refl }) in
    let is = sends-as c.self.invariant at
    (λ old. (new : List Outgoing) → FnOnceReturnsAtMut g.E.FnOnce c.args.edit old (Ok tt) new → new ≡ change old) t where_is only c.edit.new.arg2 left in
    rw (← c.self.view_is) (sending-done c.self.invariant at change is t where_is)
