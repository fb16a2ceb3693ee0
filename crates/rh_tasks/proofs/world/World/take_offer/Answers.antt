use Rattle.rh_tasks.proofs.Common.{subst, sym, Shown}
use Rattle.rh_defs.specs.declared.reply.Outcome.TheVariants as outcome
use Rattle.rh_tasks.proofs.TakeSaves.{Ends, ends-some, ends-none}
use Rattle.rh_tasks.proofs.world.World.take_offer.Goals as goal

pub returns-in-Some : goal.returns-in-Some
returns-in-Some g c = λ t at. ends-some c.args.self.now.desk t c.args.a.now c.accept.new.self.desk c.in-Some.fetch (c.in-Some.ensures t at)

pub returns-in-None : goal.returns-in-None
returns-in-None g c = λ t at.
    subst (λ (x : Shown). Ends c.args.self.now.desk t c.args.a.now outcome.Ignored x.desk) (sym (c.in-None.ensures t at).1)
    (ends-none c.args.self.now.desk t c.args.a.now (c.in-None.ensures t at).0)
