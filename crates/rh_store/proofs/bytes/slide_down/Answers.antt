use Rattle.rh_store.proofs.Slices.{down_start, down_on, down_end}
use Rattle.rh_store.proofs.bytes.slide_down.Goals as goal

pub walk-init : goal.walk-init
walk-init c = down_start _ _ _ _

pub walk-preserved : goal.walk-preserved
walk-preserved c = down_on _ _ _ _ _ _ _ _ c.walk.invariant c.requires.down c.requires.source c.next_piece-size.ensures.most c.lower.ensures

pub returns : goal.returns
returns c = down_end _ _ _ _ _ _ c.walk.invariant c.walk-test.false
