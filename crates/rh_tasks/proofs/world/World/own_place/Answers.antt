use Rattle.rh_tasks.proofs.Common.{sym, ◌∙◌, err_from_is_err_and}
use Rattle.rh_tasks.proofs.Posts.{is-post}
use Rattle.rh_tasks.proofs.ModuleCommands.{own-missing, own-yours}
use Rattle.rh_tasks.proofs.world.World.own_place.Goals as goal

pub returns-then-not-is_message-clause-ok : goal.returns-then-not-is_message-clause-ok
returns-then-not-is_message-clause-ok g c =
    let is = rw (c.saturating_sub-place.ensures) at c.is_message.ensures _ (is-post c.self.invariant) in
    rw (← c.self.view_is) (c.saturating_sub-place.ensures, sym is ∙ c.if-not-is_message.true)

pub returns-in_err-block_size-clause-err : goal.returns-in_err-block_size-clause-err
returns-in_err-block_size-clause-err g c =
    let p = err_from_is_err_and c.from_residual.result c.from_residual.ensures.1 in
    let e = rw (c.saturating_sub-place.ensures) at c.in_err-block_size.ensures in
    rw (p.1, p.2, ← c.self.view_is) (own-missing c.self.invariant c.args.address e)

pub returns-clause-err : goal.returns-clause-err
returns-clause-err g c =
    let e = rw (c.saturating_sub-place.ensures) at c.in_ok-block_size.ensures in
    let is = rw (c.saturating_sub-place.ensures) at c.is_message.ensures _ (is-post c.self.invariant) in
    rw (← c.self.view_is) (own-yours c.self.invariant c.args.address e (sym is ∙ c.if-not-is_message.false))
