use Rattle.vf_desk.proofs.Common.{ap, called, in_form, ◌∙◌}
use Rattle.rh_defs.specs.declared.command.Command.TheVariants as command
use Rattle.vf_desk.specs.Event.{event_or}
use Rattle.vf_desk.proofs.CallLaws.{does, told_by}
use Rattle.vf_desk.proofs.tasks.vf_desk_poll.Goals as goal

pub returns-clause-does : goal.returns-clause-does
returns-clause-does c =
    let step = c.step_sending-called.ensures in
    does c.args.desk.now c.poll.ensures step.said step.desk step.rest step.refused c.give_event.ensures.status

pub returns-clause-event : goal.returns-clause-event
returns-clause-event c = λ s seen.
    let step = c.step_sending-called.ensures in
    let told = told_by c.args.desk.now c.poll.ensures step.said (λ said. event_or c.step_sending-called.result.1 said c.args.event.now)
    c.give_event.ensures.event s seen in
    told ∙ ap (λ ack. event_or ack (called s (in_form (command.Poll c.args.name.now))) c.args.event.now) (step.next s seen)
