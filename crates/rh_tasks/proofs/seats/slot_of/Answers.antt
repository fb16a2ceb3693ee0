use Rattle.std.proofs.Common.{refl, sym}
use Rattle.rh_tasks.proofs.seats.slot_of.Goals as goal

pub returns : goal.returns
returns c = record {
  ok = record
      { place = c.in_ok-i.i; seat = c.index-seat.result.now; found = record { at = c.in_ok-i.ensures.ok; is = sym c.index-seat.ensures }; slot_is = refl };
  err = tt;
}
