use Rattle.vf_desk.proofs.Common.{refl, ap, ◌∙◌, in_form}
use Rattle.rh_defs.specs.Range.{in_range}
use Rattle.rh_defs.specs.declared.command.Command.TheVariants as command
use Rattle.vf_desk.proofs.FormLaws.{by-anchor, by-name, first-fails, last-fails}
use Rattle.vf_desk.proofs.forms.load.Goals as goal

pub returns : goal.returns
unfolding in_range
returns c =
    by-name (λ m. command.Load c.name_or_none-name.result c.anchor_or_none-anchor.result m) c.name_or_none-file.result c.args.file.now
    c.name_or_none-file.ensures (λ m bad. rw bad (last-fails _))
    ∙ by-anchor (λ k. command.Load c.name_or_none-name.result k c.args.file.now) c.anchor_or_none-anchor.result c.args.anchor
    c.anchor_or_none-anchor.ensures (λ k bad. rw bad (first-fails _ (last-fails _)))
    ∙ by-name (λ m. command.Load m c.args.anchor c.args.file.now) c.name_or_none-name.result c.args.name.now
    c.name_or_none-name.ensures (λ m bad. rw bad refl)
