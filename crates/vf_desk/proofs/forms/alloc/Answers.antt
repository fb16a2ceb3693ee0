use Rattle.vf_desk.proofs.Common.{refl, ap, ◌∙◌, in_form}
use Rattle.rh_defs.specs.Range.{in_range}
use Rattle.rh_defs.specs.declared.command.Command.TheVariants as command
use Rattle.vf_desk.proofs.FormLaws.{by-anchor, by-name, first-fails, last-fails}
use Rattle.vf_desk.proofs.forms.alloc.Goals as goal

pub returns : goal.returns
unfolding in_range
returns c =
    by-anchor (λ k. command.Alloc c.name_or_none-name.result k c.args.size) c.anchor_or_none-anchor.result c.args.anchor
    c.anchor_or_none-anchor.ensures (λ k bad. rw bad (first-fails _ (last-fails _)))
    ∙ by-name (λ m. command.Alloc m c.args.anchor c.args.size) c.name_or_none-name.result c.args.name.now
    c.name_or_none-name.ensures (λ m bad. rw bad refl)
