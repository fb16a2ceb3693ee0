use Rattle.rh_tasks.proofs.Common.{refl, sym, ◌∙◌}
use Rattle.rh_tasks.proofs.RawMoves.{no-fetch, other-fetch, some-fetch}
use Rattle.rh_tasks.proofs.ScrapTransfers.{not-false, not-true}
use Rattle.rh_tasks.proofs.SeatRecords.{sits-in}
use Rattle.rh_tasks.proofs.Takes.{seat-live}
use Rattle.rh_tasks.proofs.world.World.holds_fetch.Goals as goal

pub held-requires-clause-live : goal.held-requires-clause-live
held-requires-clause-live g c =
    let at = sits-in c.self.invariant (rw (← c.self.view_is) at c.requires) (sym c.index-seat.ensures) in
    seat-live c.self.invariant at

pub returns-in_default : goal.returns-in_default
returns-in_default g c = λ t there.
    let at = sits-in c.self.invariant (rw (← c.self.view_is) at c.requires) (sym c.index-seat.ensures) in
    let its = rw (← c.self.view_is) at there in
    rw (← c.self.view_is) (no-fetch c.self.invariant at c.args.from c.args.address c.args.n t its c.in_default.ensures refl)

pub returns-then-ne : goal.returns-then-ne
returns-then-ne g c = λ t there.
    let at = sits-in c.self.invariant (rw (← c.self.view_is) at c.requires) (sym c.index-seat.ensures) in
    let its = rw (← c.self.view_is) at there in
    rw (← c.self.view_is)
    (other-fetch c.self.invariant at c.args.from c.args.address c.args.n t its c.in-Some.message c.in-Some.ensures refl
    (not-true _ (sym c.ne.ensures ∙ c.if-ne.true)))

pub returns : goal.returns
returns g c = λ t there.
    let at = sits-in c.self.invariant (rw (← c.self.view_is) at c.requires) (sym c.index-seat.ensures) in
    let its = rw (← c.self.view_is) at there in
    rw (← c.self.view_is, c.names_range.ensures, c.read_body.ensures)
    (some-fetch c.self.invariant at c.args.from c.args.address c.args.n t its c.in-Some.message c.in-Some.ensures refl
    (not-false _ (sym c.ne.ensures ∙ c.if-ne.false)))
