use Rattle.vf_desk.specs.CallOutcome.{number_or}
use Rattle.vf_desk.proofs.CallLaws.{does, told_by}
use Rattle.vf_desk.proofs.c_heap.vf_desk_claim.Goals as goal

pub returns-clause-does : goal.returns-clause-does
returns-clause-does c =
    does c.args.desk.now c.claim.ensures c.step.ensures.said c.step.ensures.desk c.step.ensures.rest c.step.ensures.refused c.give_number.ensures.status

pub returns-clause-address : goal.returns-clause-address
returns-clause-address c =
    told_by c.args.desk.now c.claim.ensures c.step.ensures.said (λ said. number_or said c.args.address.now) c.give_number.ensures.number
