use Rattle.rh_tasks.proofs.Common.{refl, ◌∙◌, arith, length, err_from_is_err_and, ends, nobody, owned}
use Rattle.rh_defs.specs.Questions.{shown_at}
use Rattle.rh_tasks.proofs.QuestionLaws.{of-slot, shown_of_slot, unsized, unread, read-done}
use Rattle.rh_tasks.proofs.Readers.{if-ok, if-err, kept, small-size}
use Rattle.rh_tasks.proofs.world.World.show.Goals as goal

pub returns-in_err-slot : goal.returns-in_err-slot
unfolding shown_at
returns-in_err-slot g c =
    let p = err_from_is_err_and c.from_residual.result c.from_residual.ensures.1 in
    rw (p.1, p.2, c.in_err-slot.ensures.err.0, ← c.self.view_is) (if-err _ _ (ends _ (nobody _ _ _ _ _ _ c.in_err-slot.ensures.err.1)) (refl, refl))

pub returns-in_err-size : goal.returns-in_err-size
unfolding shown_at
returns-in_err-size g c =
    let p = err_from_is_err_and c.from_residual-in_err-size.result c.from_residual-in_err-size.ensures.1 in
    rw (p.1, p.2, ← c.self.view_is)
    (if-err _ _ (of-slot c.self.invariant c.in_ok-slot.ensures.ok (shown_of_slot c.args.anchor c.args.offset (length c.args.to.now))
    ∙ unsized c.args.anchor _ _ _ c.in_err-size.ensures) (refl, refl))

pub returns-in_err-read : goal.returns-in_err-read
unfolding shown_at
returns-in_err-read g c =
    let p = err_from_is_err_and c.from_residual-in_err-read.result c.from_residual-in_err-read.ensures.1 in
    rw (p.1, p.2, ← c.self.view_is)
    (if-err _ _ (of-slot c.self.invariant c.in_ok-slot.ensures.ok (shown_of_slot c.args.anchor c.args.offset (length c.args.to.now))
    ∙ unread c.args.anchor c.args.offset _ _ _ c.in_err-read.ensures.answer) (refl, kept _ _ _ c.in_err-read.ensures.answer c.in_err-read.ensures.bytes))

pub overflow_cast-result : goal.overflow_cast-result
overflow_cast-result g c =
    omega (
      arith,
      small-size (owned c.self.invariant c.in_ok-slot.ensures.ok) (g.met.S.Words.small c.self.inside.store c.in_ok-slot.slot.area.0) c.args.anchor
          c.in_ok-size.size c.in_ok-size.ensures,
    )

pub returns : goal.returns
unfolding shown_at
returns g c =
    rw (← c.self.view_is)
    (if-ok _ _ (of-slot c.self.invariant c.in_ok-slot.ensures.ok (shown_of_slot c.args.anchor c.args.offset (length c.args.to.now))
    ∙ read-done c.args.anchor c.args.offset _ c.in_ok-size.size _ c.args.to.now c.read.new.to c.in_ok-size.ensures c.in_ok-read.ensures.answer
    c.in_ok-read.ensures.bytes) (refl, refl))
