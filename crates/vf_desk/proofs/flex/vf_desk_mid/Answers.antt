use Rattle.vf_desk.proofs.Common.{ap, ◌∙◌, ℤ, w32, to_z-of_z, in_form}
use Rattle.rh_defs.specs.declared.command.Command.TheVariants as command
use Rattle.vf_desk.proofs.CallLaws.{does}
use Rattle.vf_desk.proofs.flex.vf_desk_mid.Goals as goal

pub returns : goal.returns
returns c = does c.args.desk.now (c.mid.ensures ∙ ap (λ (x : ℤ). in_form (command.Mid c.args.name.now c.args.anchor c.args.offset x))
    (to_z-of_z w32 c.args.by c.ranges.by)) c.step.ensures.said c.step.ensures.desk c.step.ensures.rest c.step.ensures.refused c.status.ensures
