use Rattle.rh_tasks.proofs.Common.{ap, refl, sym, Option, Ok, err_from_is_err_and, Granted, EventCode, FoundSeat, ends, nobody, sits}
use Rattle.rh_tasks.specs.Sights.{next_message}
use Rattle.rh_tasks.proofs.Posts.{has-entry, is-post}
use Rattle.rh_tasks.proofs.Readers.{if-ok, if-err}
use Rattle.rh_tasks.proofs.SightLaws.{next-is}
use Rattle.rh_tasks.proofs.world.World.next_message.Goals as goal

pub returns-in_err-i : goal.returns-in_err-i
unfolding next_message
returns-in_err-i g c =
    let p = err_from_is_err_and c.from_residual.result c.from_residual.ensures.1 in
    rw (p.1, p.2, c.in_err-i.ensures.err.0, ← c.self.view_is) (if-err _ _ (ends _ (nobody _ _ _ _ _ _ c.in_err-i.ensures.err.1)) (refl, refl))

pub peek-code-requires-clause-live : goal.peek-code-requires-clause-live
peek-code-requires-clause-live g c =
    let f : FoundSeat c.args.name.now c.self.inside.seats.items c.in_ok-i.i c.index-seat.result.now =
    record { at = c.in_ok-i.ensures.ok; is = sym c.index-seat.ensures } in
    has-entry c.self.invariant (sits f)

pub returns : goal.returns
returns g c =
    let f : FoundSeat c.args.name.now c.self.inside.seats.items c.in_ok-i.i c.index-seat.result.now =
    record { at = c.in_ok-i.ensures.ok; is = sym c.index-seat.ensures } in
    let post = is-post c.self.invariant in
    rw (← c.self.view_is)
    (if-ok _ _ (next-is c.self.invariant f) (
      ap (λ (o : Option EventCode). let r : Granted (Option EventCode) = Ok o in r) (c.peek-code.ensures.code _ post),
      c.peek-code.ensures.message _ post,
    ))
