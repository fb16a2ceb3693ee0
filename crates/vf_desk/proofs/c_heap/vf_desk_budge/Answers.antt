use Rattle.vf_desk.specs.CallOutcome.{was_or}
use Rattle.vf_desk.proofs.CallLaws.{does, told_by}
use Rattle.vf_desk.proofs.c_heap.vf_desk_budge.Goals as goal

pub returns-clause-does : goal.returns-clause-does
returns-clause-does c =
    does c.args.desk.now c.budge.ensures c.step.ensures.said c.step.ensures.desk c.step.ensures.rest c.step.ensures.refused c.give_was.ensures.status

pub returns-clause-was : goal.returns-clause-was
returns-clause-was c = told_by c.args.desk.now c.budge.ensures c.step.ensures.said (λ said. was_or said c.args.was.now) c.give_was.ensures.was
