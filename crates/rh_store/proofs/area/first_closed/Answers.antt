use Rattle.std.proofs.Common.{◌<◌, length, below_more}
use Rattle.rh_store.proofs.AreasLaws.{hidden_at, shown_at}
use Rattle.rh_store.proofs.area.first_closed.Goals as goal

pub returns-then-not-area-clause-closed : goal.returns-then-not-area-clause-closed
returns-then-not-area-clause-closed c =
    let h : c.loop-i.i < length c.args.areas.now = c.loop-i-test.true in
    (h, hidden_at c.args.areas.now c.loop-i.i c.index-areas-i.result h c.index-areas-i.is c.if-not-area.true)

pub loop-i-preserved : goal.loop-i-preserved
loop-i-preserved c = below_more _ _ c.loop-i.invariant (shown_at c.args.areas.now c.loop-i.i c.index-areas-i.result c.loop-i-test.true c.index-areas-i.is
    c.if-not-area.false)
