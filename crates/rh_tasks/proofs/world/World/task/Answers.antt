use Rattle.rh_tasks.proofs.Common.{refl, sym, ap, ◌∙◌, arith, option_map, task_of, Sits}
use Rattle.rh_defs.specs.SlotImage.{slot_of}
use Rattle.rh_tasks.specs.View.{last_of}
use Rattle.rh_tasks.proofs.ItemLaws.{pages-slot}
use Rattle.rh_tasks.proofs.Readers.{small-end, small-free, small-largest}
use Rattle.rh_tasks.proofs.SightLaws.{no-task-there, task-live, task-there}
use Rattle.rh_tasks.proofs.Slides.{seat-slot}
use Rattle.rh_tasks.proofs.world.World.task.Goals as goal
use Rattle.rh_tasks.proofs.world.World.task.Goals.{After-index-seat}
use Rattle.rh_tasks.proofs.world.World.task.Given as given

pub returns-then-i-len-clause-task : goal.returns-then-i-len-clause-task
returns-then-i-len-clause-task g c =
    rw (← c.self.view_is, no-task-there c.self.invariant c.args.i (omega (arith, c.if-i-len.true, c.len.ensures.value))) tt

pub returns-then-i-len-clause-few : goal.returns-then-i-len-clause-few
returns-then-i-len-clause-few g c = rw (← c.self.view_is) c.self.invariant.desk.few

-- the seat that is looked at
at : (g : given.Over) (c : After-index-seat g) → Sits c.self.inside.seats.items c.args.i c.index-seat.result.now
at g c = record { inside = omega (arith, c.if-i-len.false, c.len.ensures.value); is = sym c.index-seat.ensures }

pub overflow_cast-heap : goal.overflow_cast-heap
overflow_cast-heap g c =
    let is = seat-slot c.self.invariant (at g (goal.at.overflow_cast-heap g c).After-index-seat) in
    omega (arith, c.describe-length.ensures.end, small-end is (g.met.S.Words.small c.self.inside.store c.index-seat.result.now.slot.area.0))

pub overflow_cast-heap-2 : goal.overflow_cast-heap-2
overflow_cast-heap-2 g c =
    let is = seat-slot c.self.invariant (at g (goal.at.overflow_cast-heap-2 g c).After-index-seat) in
    omega (arith, c.describe-length.ensures.largest, small-largest is (g.met.S.Words.small c.self.inside.store c.index-seat.result.now.slot.area.0))

pub overflow_cast-heap-3 : goal.overflow_cast-heap-3
overflow_cast-heap-3 g c =
    let is = seat-slot c.self.invariant (at g (goal.at.overflow_cast-heap-3 g c).After-index-seat) in
    omega (arith, c.describe-length.ensures.total, small-free is (g.met.S.Words.small c.self.inside.store c.index-seat.result.now.slot.area.0))

pub pages_in-requires : goal.pages_in-requires
pages_in-requires g c = (seat-slot c.self.invariant (at g (goal.at.pages_in-requires g c).After-index-seat)).opened

pub returns-clause-task : goal.returns-clause-task
unfolding task_of slot_of
returns-clause-task g c =
    let there = at g (goal.at.returns-clause-task g c).After-index-seat in
    let is = seat-slot c.self.invariant there in
    rw (← c.self.view_is, task-there c.self.invariant there) (record {
      handle = refl;
      name = refl;
      buffer = refl;
      manner = refl;
      pages = c.pages_in.ensures ∙ sym (pages-slot (g.S.Words.memory c.self.inside.store) c.index-seat.result.now is);
      budging = refl;
      heap = rw (c.describe-length.ensures.end, c.describe-length.ensures.largest, c.describe-length.ensures.total) refl;
      sending = c.records.ensures.value;
      taking = c.records-2.ensures.value;
      last_sent = ap (option_map last_of) c.as_ref.ensures.value;
    })

pub returns-clause-live : goal.returns-clause-live
returns-clause-live g c = rw (← c.self.view_is) (task-live c.self.invariant (at g (goal.at.returns-clause-live g c).After-index-seat))

pub returns-clause-few : goal.returns-clause-few
returns-clause-few g c = rw (← c.self.view_is) c.self.invariant.desk.few
