use Rattle.rh_tasks.proofs.Common.{◌≡◌, [], ◌∷◌, length, ap, ◌∙◌, ◌++◌, arith, Seat}
use Rattle.std.proofs.Common.{get_or}
use Rattle.rh_tasks.proofs.StandingLaws.{filled-all, filled-few, filled-more}
use Rattle.rh_tasks.proofs.standing.push_slots.Goals as goal

pub push-requires : goal.push-requires
push-requires c = (
  omega arith,
  filled-few (λ (s : Seat). s.slot.area) c.args.seats.now.items c.loop-seat.seat-index c.args.areas.now.items _ c.loop-seat.invariant
      (omega (arith, c.loop-seat-test.true, ap length c.as_slice-seat-items.ensures.value)) c.requires,
)

pub loop-seat-preserved : goal.loop-seat-preserved
loop-seat-preserved c =
    let at = c.loop-seat.seat-index in
    let seat = c.seat-item.result in
    let is : seat ≡ get_or c.args.seats.now.items at seat = cc (c.seat-item.is, c.as_slice-seat-items.ensures.value) in
    c.push.ensures.items
    ∙ ap (λ (s : Seat). c.loop-seat.areas.items ++ s.slot.area ∷ []) is
    ∙ filled-more (λ (s : Seat). s.slot.area) c.args.seats.now.items at c.args.areas.now.items _ c.loop-seat.invariant seat
    (omega (arith, c.loop-seat-test.true, ap length c.as_slice-seat-items.ensures.value))

pub returns : goal.returns
returns c = filled-all (λ (s : Seat). s.slot.area) c.args.seats.now.items c.loop-seat.seat-index c.args.areas.now.items _ c.loop-seat.invariant
    (omega (arith, c.loop-seat-test.false, ap length c.as_slice-seat-items.ensures.value))
