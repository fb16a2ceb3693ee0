use Rattle.rh_tasks.proofs.Common.{◌≡◌, ◌++◌, take, map, Seat}
use Rattle.rh_tasks.proofs.standing.push_slots.Given as goal

-- the slots so far are listed
abbrev pub invariant-loop-seat : goal.invariant-loop-seat
invariant-loop-seat l = l.areas.items ≡ l.initial.areas.items ++ map (λ (s : Seat). s.slot.area) (take l.seat-index l.seats.items)
