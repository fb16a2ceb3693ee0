use Rattle.rh_heap.proofs.StretchLaws.{settles_none, settles_apart}
use Rattle.rh_heap.proofs.span.stretch.settle_below_block.Goals as goal

pub returns-then-stretch-clause-settles : goal.returns-then-stretch-clause-settles
returns-then-stretch-clause-settles g c =
    settles_none _ _ _ _ c.if-stretch.true c.write_link.ensures.only.outside c.write_link.ensures.links

pub returns-else-stretch-clause-settles : goal.returns-else-stretch-clause-settles
returns-else-stretch-clause-settles g c =
    settles_apart _ _ _ _ c.requires.below c.if-stretch.false c.requires.apart c.put_hole.ensures.puts
