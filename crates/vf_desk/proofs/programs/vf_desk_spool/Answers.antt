use Rattle.vf_desk.specs.CallOutcome.{number_or}
use Rattle.vf_desk.proofs.CallLaws.{does, told_by}
use Rattle.vf_desk.proofs.programs.vf_desk_spool.Goals as goal

pub returns-clause-does : goal.returns-clause-does
returns-clause-does c =
    does c.args.desk.now c.spool.ensures c.step.ensures.said c.step.ensures.desk c.step.ensures.rest c.step.ensures.refused c.give_number.ensures.status

pub returns-clause-my_ref : goal.returns-clause-my_ref
returns-clause-my_ref c =
    told_by c.args.desk.now c.spool.ensures c.step.ensures.said (λ said. number_or said c.args.my_ref.now) c.give_number.ensures.number
