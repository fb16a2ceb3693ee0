use Rattle.rh_elements.proofs.EscapeLemmas.{escape-parts}
use Rattle.rh_map.proofs.Left.{left_less}
use Rattle.rh_elements.proofs.escape.put_escaped.Goals as goal

pub loop-rest-preserved : goal.loop-rest-preserved
loop-rest-preserved g c =
    left_less _ c.loop-rest.invariant (escape-parts c.min-count.result c.loop-rest.rest.now) c.put_chunk.ensures
