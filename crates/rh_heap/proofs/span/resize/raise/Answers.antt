use Rattle.std.proofs.Common.{arith}
use Rattle.rh_heap.proofs.ResizeLaws.{top, raise_spells}
use Rattle.rh_heap.proofs.span.resize.raise.Goals as goal

pub lengthen-requires-clause-longer : goal.lengthen-requires-clause-longer
lengthen-requires-clause-longer g c =
    let i = top _ _ _ _ c.requires.span.spells c.requires.found _ c.requires.way in
    let z = c.requires.found.size_is in
    omega (arith, i.longer)

pub returns-clause-spells : goal.returns-clause-spells
returns-clause-spells g c =
    raise_spells _ _ _ _ c.requires.span.spells c.requires.found _ _ _ c.requires.multiple
    (top _ _ _ _ c.requires.span.spells c.requires.found _ c.requires.way) c.requires.room
    c.lengthen.ensures.only.outside c.lengthen.ensures.size c.lengthen.ensures.block c.write.ensures.only.outside c.write.ensures.value
