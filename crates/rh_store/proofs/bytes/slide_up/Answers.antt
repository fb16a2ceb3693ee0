use Rattle.std.proofs.Common.{refl}
use Rattle.rh_store.proofs.Slices.{up_start, up_on, up_end}
use Rattle.rh_store.proofs.bytes.slide_up.Goals as goal

pub walk-init : goal.walk-init
walk-init c = up_start _ _ _ _

pub walk-preserved : goal.walk-preserved
walk-preserved c = up_on _ _ _ _ _ _ _ _ _ c.walk.invariant c.requires.up c.requires.target c.next_piece-size.ensures.most refl c.raise.ensures

pub returns : goal.returns
returns c = up_end _ _ _ _ _ _ c.walk.invariant c.walk-test.false
