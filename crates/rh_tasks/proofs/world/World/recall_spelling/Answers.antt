use Rattle.rh_tasks.proofs.Spelling.{is-spelled, is-apart, is-balanced}
use Rattle.rh_tasks.proofs.world.World.recall_spelling.Goals as goal

pub returns-clause-spelled : goal.returns-clause-spelled
returns-clause-spelled g c = rw (← c.self.view_is) (is-spelled c.self.invariant (record { each = g.met.S.Paged.whole c.self.inside.store }))

pub returns-clause-apart : goal.returns-clause-apart
returns-clause-apart g c = rw (← c.self.view_is) (is-apart c.self.invariant (record { each = g.met.S.Paged.whole c.self.inside.store }))

pub returns-clause-balanced : goal.returns-clause-balanced
returns-clause-balanced g c = rw (← c.self.view_is) (is-balanced c.self.invariant (record { each = g.met.S.Paged.whole c.self.inside.store }))

pub returns-clause-desk : goal.returns-clause-desk
returns-clause-desk g c = rw (← c.self.view_is) c.self.invariant.desk
