use Rattle.rh_heap.proofs.ResizeLaws.{shrink_is_stretch, shrink_spells}
use Rattle.rh_heap.proofs.span.resize.shrink.Goals as goal

pub settle-requires-clause-stretch : goal.settle-requires-clause-stretch
settle-requires-clause-stretch g c =
    shrink_is_stretch _ _ _ _ c.requires.span.spells c.requires.found _ c.requires.least c.requires.multiple c.requires.shorter _ _ c.follow-next.ensures
    c.write.ensures.only.outside c.write.ensures.value

pub returns-clause-spells : goal.returns-clause-spells
returns-clause-spells g c =
    shrink_spells _ _ _ _ c.requires.span.spells c.requires.found _ c.requires.least c.requires.multiple c.requires.shorter _ _ _ c.follow-next.ensures
    c.write.ensures.only.outside c.write.ensures.value c.settle.ensures.settles
