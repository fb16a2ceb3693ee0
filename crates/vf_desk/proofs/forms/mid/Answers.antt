use Rattle.vf_desk.proofs.Common.{refl, ap, ◌∙◌, ℤ, w32, to_z-of_z, in_form}
use Rattle.rh_defs.specs.Range.{in_range}
use Rattle.rh_defs.specs.declared.command.Command.TheVariants as command
use Rattle.vf_desk.proofs.FormLaws.{by-anchor, by-name, first-fails, last-fails}
use Rattle.vf_desk.proofs.forms.mid.Goals as goal

pub returns : goal.returns
unfolding in_range
returns c =
    ap (λ (x : ℤ). in_form (command.Mid c.name_or_none-name.result c.anchor_or_none-anchor.result c.args.offset x))
    (to_z-of_z w32 c.args.by c.ranges.by)
    ∙ by-anchor (λ k. command.Mid c.name_or_none-name.result k c.args.offset c.args.by) c.anchor_or_none-anchor.result c.args.anchor
    c.anchor_or_none-anchor.ensures (λ k bad. rw bad (first-fails _ (first-fails _ (last-fails _))))
    ∙ by-name (λ m. command.Mid m c.args.anchor c.args.offset c.args.by) c.name_or_none-name.result c.args.name.now
    c.name_or_none-name.ensures (λ m bad. rw bad refl)
