use Rattle.std.proofs.Common.{refl, arith}
use Rattle.rh_heap.proofs.BitLaws.{scan_start, scan_found, scan_next}
use Rattle.rh_heap.proofs.span.starts.last_below.Goals as goal

pub walk-init : goal.walk-init
walk-init c = scan_start _ _ _ _ c.requires.within (c.type_inv.starts _).fits refl

pub walk-preserved : goal.walk-preserved
walk-preserved c = scan_next _ _ _ _ _ _ _ c.walk.invariant c.if-word-ne0.false (let ne = c.if-line-eq0.false in omega arith) (c.type_inv.starts _).fits refl

pub returns-then-word-ne0 : goal.returns-then-word-ne0
returns-then-word-ne0 c = scan_found _ _ _ _ _ _ c.walk.invariant c.if-word-ne0.true refl
