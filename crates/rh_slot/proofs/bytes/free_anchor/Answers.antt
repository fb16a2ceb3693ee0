use Rattle.rh_slot.proofs.FreeLaws.{used_start, used_next, free_here, none_free}
use Rattle.rh_slot.proofs.bytes.free_anchor.Goals as goal

pub walk-init : goal.walk-init
walk-init g c = used_start _

pub returns-in_default : goal.returns-in_default
returns-in_default g c = free_here _ _ c.walk.invariant c.walk-test.true c.in_default.ensures

pub walk-preserved : goal.walk-preserved
walk-preserved g c = used_next _ _ _ _ c.walk.invariant c.walk-test.true c.in-Some.ensures

pub returns : goal.returns
returns g c = none_free _ _ c.walk.invariant c.walk-test.false
