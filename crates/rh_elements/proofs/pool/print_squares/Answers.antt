use Rattle.rh_map.proofs.SeamLemmas.{some-left}
use Rattle.rh_elements.proofs.ListLemmas.{squares-some}
use Rattle.rh_elements.proofs.WriteLemmas.{offered_as}
use Rattle.rh_elements.proofs.pool.print_squares.Goals as goal

pub returns : goal.returns
returns g c =
    offered_as _ (squares-some _ _ _ (some-left _ c.is_empty.result c.is_empty.ensures c.if-is_empty.false))
    c.print_some_squares.ensures
