use Rattle.vf_desk.proofs.Common.{refl, ap, ◌∙◌, in_form, is_name}
use Rattle.rh_defs.specs.Range.{in_range}
use Rattle.rh_defs.specs.declared.command.Command.TheVariants as command
use Rattle.vf_desk.proofs.FormLaws.{by-anchor, by-name, last-fails}
use Rattle.vf_desk.proofs.forms.free.Goals as goal

pub returns : goal.returns
unfolding in_range
returns c =
    by-anchor (λ k. command.Free c.name_or_none-name.result k) c.anchor_or_none-anchor.result c.args.anchor c.anchor_or_none-anchor.ensures
    (λ k bad. rw bad (last-fails (is_name c.name_or_none-name.result)))
    ∙ by-name (λ m. command.Free m c.args.anchor) c.name_or_none-name.result c.args.name.now c.name_or_none-name.ensures (λ m bad. rw bad refl)
