use Rattle.rh_tasks.proofs.Common.{sym, ◌∙◌, task_of}
use Rattle.rh_tasks.proofs.RawMoves.{bad-nobody, bad-outside, bad-own, bad-there}
use Rattle.rh_tasks.proofs.SeatRecords.{sits-in}
use Rattle.rh_tasks.proofs.Slides.{seat-at, seat-slot}
use Rattle.rh_tasks.proofs.TransferBlocks.{no-task, seat-there, task-inside}
use Rattle.rh_tasks.proofs.world.World.is_bad_move.Goals as goal

pub inside-requires : goal.inside-requires
inside-requires g c =
    let at = sits-in c.self.invariant (rw (← c.self.view_is) at c.requires) (sym c.index-seat.ensures) in
    record { slot = seat-slot c.self.invariant at }

pub returns-then-not-inside : goal.returns-then-not-inside
returns-then-not-inside g c = λ t there.
    let at = sits-in c.self.invariant (rw (← c.self.view_is) at c.requires) (sym c.index-seat.ensures) in
    let its = rw (← c.self.view_is) at there in
    rw (← c.self.view_is) (bad-outside c.self.invariant at c.args.address c.args.to c.args.place c.args.n t its (sym c.if-not-inside.ensures))

pub returns-then-do_collide : goal.returns-then-do_collide
returns-then-do_collide g c = λ t there.
    let at = sits-in c.self.invariant (rw (← c.self.view_is) at c.requires) (sym c.index-seat.ensures) in
    let its = rw (← c.self.view_is) at there in
    rw (← c.self.view_is)
    (bad-own c.self.invariant at c.args.address c.args.to c.args.place c.args.n t its (sym c.if-not-inside.ensures)
    (sym c.do_collide.ensures ∙ c.if-do_collide.true))

pub returns-in_default : goal.returns-in_default
returns-in_default g c = λ t there.
    let at = sits-in c.self.invariant (rw (← c.self.view_is) at c.requires) (sym c.index-seat.ensures) in
    let its = rw (← c.self.view_is) at there in
    rw (← c.self.view_is)
    (bad-nobody c.self.invariant at c.args.address c.args.to c.args.place c.args.n t its (sym c.if-not-inside.ensures)
    (sym c.do_collide.ensures ∙ c.if-do_collide.false)
    (no-task c.self.invariant c.args.to (sym c.in_default.ensures)))

pub is_open_to-requires-clause-target : goal.is_open_to-requires-clause-target
is_open_to-requires-clause-target g c =
    let b = seat-there _ _ _ c.index-seat.result.now (sym c.in-Some.ensures) in
    rw (← c.self.view_is) (task-inside _ b.at)

pub returns : goal.returns
unfolding task_of
returns g c = λ t there.
    let at = sits-in c.self.invariant (rw (← c.self.view_is) at c.requires) (sym c.index-seat.ensures) in
    let its = rw (← c.self.view_is) at there in
    let b = seat-there _ _ _ c.index-seat.result.now (sym c.in-Some.ensures) in
    let open_ = (rw (← c.self.view_is) at c.is_open_to.ensures) _ _ (seat-at c.self.invariant at) (seat-at c.self.invariant b.at) in
    rw (← c.self.view_is)
    (bad-there c.self.invariant at c.args.address c.args.to c.args.place c.args.n t its (sym c.if-not-inside.ensures)
    (sym c.do_collide.ensures ∙ c.if-do_collide.false) b
    c.is_open_to.result open_)
