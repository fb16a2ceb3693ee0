use Rattle.vf_desk.proofs.Common.{ap, ◌∙◌, ℤ, w32, to_z-of_z, in_form, number_or}
use Rattle.rh_defs.specs.declared.command.Command.TheVariants as command
use Rattle.vf_desk.proofs.CallLaws.{does, told_by}
use Rattle.vf_desk.proofs.areas.vf_desk_rma_resize.Goals as goal

pub returns-clause-does : goal.returns-clause-does
returns-clause-does c =
    does c.args.desk.now (ap (λ (x : ℤ). in_form (command.RmaResize c.args.address x))
    (to_z-of_z w32 c.args.delta c.ranges.delta)) c.step.ensures.said c.step.ensures.desk c.step.ensures.rest c.step.ensures.refused c.give_number.ensures.status

pub returns-clause-address : goal.returns-clause-address
returns-clause-address c = told_by c.args.desk.now (ap (λ (x : ℤ). in_form (command.RmaResize c.args.address x)) (to_z-of_z w32 c.args.delta c.ranges.delta))
    c.step.ensures.said (λ said. number_or said
    c.args.moved_to.now) c.give_number.ensures.number
