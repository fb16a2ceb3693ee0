use Rattle.rh_pages.proofs.Common.{sym, ◌∙◌}
use Rattle.rh_pages.proofs.Regions.{slid}
use Rattle.rh_pages.proofs.lent.LentBackingBacking.slide.Goals as goal

pub returns-clause-after : goal.returns-clause-after
returns-clause-after c = c.slide_in.ensures ∙ sym (slid _ _ _ _ c.requires.0 c.requires.1)
