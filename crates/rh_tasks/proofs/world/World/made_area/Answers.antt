use Rattle.rh_tasks.proofs.Common.{sym, arith, IsOpen, MadeArea, made_of, Sits, all-at}
use Rattle.rh_tasks.proofs.SightLaws.{made-there, no-made-there}
use Rattle.rh_tasks.proofs.world.World.made_area.Goals as goal
use Rattle.rh_tasks.proofs.world.World.made_area.Goals.{After-index-area}
use Rattle.rh_tasks.proofs.world.World.made_area.Given as given

pub returns-then-i-len-clause-area : goal.returns-then-i-len-clause-area
returns-then-i-len-clause-area g c =
    rw (← c.self.view_is) (sym (no-made-there c.self.invariant c.args.i (omega (arith, c.if-i-len.true, c.len.ensures.value))))

pub returns-then-i-len-clause-few : goal.returns-then-i-len-clause-few
returns-then-i-len-clause-few g c = rw (← c.self.view_is) c.self.invariant.desk.made.few

-- the made area that is looked at
at : (g : given.Over) (c : After-index-area g) → Sits c.self.inside.made.items c.args.i c.index-area.result.now
at g c = record { inside = omega (arith, c.if-i-len.false, c.len.ensures.value); is = sym c.index-area.ensures }

pub pages_in-requires : goal.pages_in-requires
pages_in-requires g c =
    let m = g.S.Words.memory c.self.inside.store in
    all-at (λ (a : MadeArea). IsOpen m a.area.0) c.self.inside.made.items c.args.i c.index-area.result.now c.self.invariant.areas.made_open
    (at g (goal.at.pages_in-requires g c).After-index-area)

pub returns-clause-area : goal.returns-clause-area
unfolding made_of
returns-clause-area g c =
    rw (← c.self.view_is, c.pages_in.ensures) (sym (made-there c.self.invariant (at g (goal.at.returns-clause-area g c).After-index-area)))

pub returns-clause-few : goal.returns-clause-few
returns-clause-few g c = rw (← c.self.view_is) c.self.invariant.desk.made.few
