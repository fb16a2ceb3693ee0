use Rattle.vf_desk.proofs.Common.{refl, ap, ◌∙◌, ℤ, w32, to_z-of_z, in_form}
use Rattle.rh_defs.specs.Range.{in_range}
use Rattle.rh_defs.specs.declared.command.Command.TheVariants as command
use Rattle.vf_desk.proofs.FormLaws.{by-name}
use Rattle.vf_desk.proofs.forms.resize.Goals as goal

pub returns : goal.returns
unfolding in_range
returns c =
    ap (λ (x : ℤ). in_form (command.Resize c.name_or_none-name.result c.args.address x)) (to_z-of_z w32 c.args.delta c.ranges.delta)
    ∙ by-name (λ m. command.Resize m c.args.address c.args.delta) c.name_or_none-name.result c.args.name.now c.name_or_none-name.ensures
    (λ m bad. rw bad refl)
