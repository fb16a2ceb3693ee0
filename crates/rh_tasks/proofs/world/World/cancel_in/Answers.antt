use Rattle.rh_tasks.proofs.Common.{refl, sym, ◌∙◌, err_from_is_err_and, ends, nobody, task_of}
use Rattle.rh_defs.specs.Commands.{cancel_in}
use Rattle.rh_tasks.proofs.Cancels.{cancel_in-done, cancel_in-refused, cancel_in-released, there-then}
use Rattle.rh_tasks.proofs.Finding.{found-in}
use Rattle.rh_tasks.proofs.Polls.{place-in, task-there}
use Rattle.rh_tasks.proofs.ScrapTransfers.{at-inside}
use Rattle.rh_tasks.proofs.world.World.cancel_in.Goals as goal

pub returns-in_err-i : goal.returns-in_err-i
unfolding cancel_in
returns-in_err-i g c =
    let p = err_from_is_err_and c.from_residual.result c.from_residual.ensures.1 in
    rw (p.1, p.2, c.in_err-i.ensures.err.0, ← c.self.view_is) (ends _ (nobody _ _ _ _ _ _ c.in_err-i.ensures.err.1), refl)

pub released_in-released-requires : goal.released_in-released-requires
released_in-released-requires g c =
    let f = found-in c.in_ok-i.ensures.ok in
    rw (← c.self.view_is) (place-in c.self.invariant f.1)

pub give_up-requires : goal.give_up-requires
give_up-requires g c =
    let f = found-in c.in_ok-i.ensures.ok in
    rw (← c.self.view_is) (place-in c.self.invariant f.1)

pub returns-in_err-give_up : goal.returns-in_err-give_up
unfolding task_of
returns-in_err-give_up g c =
    let f = found-in c.in_ok-i.ensures.ok in
    let p = err_from_is_err_and c.from_residual-in_err-give_up.result c.from_residual-in_err-give_up.ensures.1 in
    let e = (rw (← c.self.view_is) at c.in_err-give_up.ensures) _ (task-there c.self.invariant f.1) in
    rw (p.1, p.2, ← c.self.view_is) (cancel_in-refused c.self.invariant f.1 c.args.id e.0, e.1)

pub returns-in_default : goal.returns-in_default
unfolding task_of
returns-in_default g c =
    let f = found-in c.in_ok-i.ensures.ok in
    let b = (rw (← c.self.view_is) at c.released_in-released.ensures) _ (task-there c.self.invariant f.1) in
    let e = (rw (← c.self.view_is) at c.in_ok-give_up.ensures) _ (task-there c.self.invariant f.1) in
    rw (← c.self.view_is) (cancel_in-done c.self.invariant f.1 c.args.id e.1.0 (sym b ∙ c.in_default.is) e.1.1)

pub drop_buffer-requires : goal.drop_buffer-requires
unfolding task_of
drop_buffer-requires g c =
    let f = found-in c.in_ok-i.ensures.ok in
    let e = (rw (← c.self.view_is) at c.in_ok-give_up.ensures) _ (task-there c.self.invariant f.1) in
    at-inside c.give_up.new.self.desk c.in_ok-i.i _ (there-then c.self.invariant f.1 e.0 e.1.1)

pub returns : goal.returns
unfolding task_of
returns g c =
    let f = found-in c.in_ok-i.ensures.ok in
    let b = (rw (← c.self.view_is) at c.released_in-released.ensures) _ (task-there c.self.invariant f.1) in
    let e = (rw (← c.self.view_is) at c.in_ok-give_up.ensures) _ (task-there c.self.invariant f.1) in
    let dropped = c.drop_buffer.ensures _ (there-then c.self.invariant f.1 e.0 e.1.1) in
    rw (← c.self.view_is) (cancel_in-released c.self.invariant f.1 c.args.id e.1.0 c.in-Some.buffer (sym b ∙ c.in-Some.is) e.1.1 dropped)
