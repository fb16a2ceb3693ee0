use Rattle.vf_desk.proofs.CallLaws.{behind_look, does}
use Rattle.vf_desk.proofs.programs.vf_desk_take.Goals as goal

pub returns-clause-does : goal.returns-clause-does
returns-clause-does c =
    behind_look c.vf_desk_next-status.ensures.same
    (does c.vf_desk_next-status.new.desk c.poll.ensures c.step.ensures.said c.step.ensures.desk c.step.ensures.rest c.step.ensures.refused c.status.ensures)
