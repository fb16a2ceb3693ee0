use Rattle.vf_desk.proofs.Common.{refl}
use Rattle.rh_defs.specs.Range.{in_range}
use Rattle.rh_defs.specs.declared.command.Command.TheVariants as command
use Rattle.vf_desk.proofs.FormLaws.{by-name}
use Rattle.vf_desk.proofs.forms.repeat.Goals as goal

pub returns : goal.returns
unfolding in_range
returns c =
    by-name (λ m. command.Repeat m) c.name_or_none-name.result c.args.name.now c.name_or_none-name.ensures (λ m bad. rw bad refl)
