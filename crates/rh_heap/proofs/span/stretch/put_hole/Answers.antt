use Rattle.rh_heap.proofs.StretchLaws.{puts_hole}
use Rattle.rh_heap.proofs.span.stretch.put_hole.Goals as goal

pub returns-clause-puts : goal.returns-clause-puts
returns-clause-puts g c =
    puts_hole _ _ _ _ _ _ c.requires.some c.write_link.ensures.only.outside c.write_link.ensures.links c.write_link-2.ensures.only.outside
    c.write_link-2.ensures.links
    c.write.ensures.only.outside c.write.ensures.value
