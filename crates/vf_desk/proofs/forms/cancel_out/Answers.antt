use Rattle.vf_desk.proofs.Common.{refl, ap, ◌∙◌, in_form}
use Rattle.rh_defs.specs.Range.{in_range}
use Rattle.rh_defs.specs.declared.command.Command.TheVariants as command
use Rattle.vf_desk.specs.DeskForms.{id_in}
use Rattle.vf_desk.proofs.FormLaws.{by-name}
use Rattle.vf_desk.proofs.forms.cancel_out.Goals as goal

pub returns : goal.returns
unfolding in_range
returns c =
    ap (λ i. in_form (command.CancelOut c.name_or_none-name.result i)) c.id_of.ensures
    ∙ by-name (λ m. command.CancelOut m (id_in c.args.id)) c.name_or_none-name.result c.args.name.now c.name_or_none-name.ensures
    (λ m bad. rw bad refl)
