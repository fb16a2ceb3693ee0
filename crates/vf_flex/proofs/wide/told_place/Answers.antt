use Rattle.std.proofs.Common.{ap, ◌∙◌}
use Rattle.vf_flex.specs.SlotStatus.{answer_or}
use Rattle.vf_flex.proofs.WideLaws.{place_told}
use Rattle.vf_flex.proofs.wide.told_place.Goals as goal

pub returns : goal.returns
returns c = c.give_number.ensures.number ∙ ap (λ g. answer_or g 0) c.place.ensures ∙ place_told _ _
