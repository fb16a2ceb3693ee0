use Rattle.rh_laws.proofs.RefusalLaw.{always-answered, changes-nothing, ordered}
use Rattle.rh_laws.proofs.order.refusal_order_law.Goals as goal

pub returns-clause-order : goal.returns-clause-order
returns-clause-order c = ordered

pub returns-clause-answers : goal.returns-clause-answers
returns-clause-answers c = always-answered

pub returns-clause-unchanged : goal.returns-clause-unchanged
returns-clause-unchanged c = changes-nothing
