use Rattle.std.proofs.Common.{sym, arith}
use Rattle.vf_desk.proofs.FillLaws.{fill-all, fill-more, from-none}
use Rattle.vf_desk.proofs.lists.fill.Goals as goal

pub loop-i-init : goal.loop-i-init
loop-i-init g c = sym (from-none c.args.at c.args.to.now)

pub loop-i-preserved : goal.loop-i-preserved
loop-i-preserved g c =
    fill-more g.B.Listed.shown c.args.items.now c.args.at c.loop-i.i c.index-items-i.result c.of.result c.args.to.now c.loop-i.to
    (omega (arith, c.min-count.ensures)) c.index-items-i.is c.of.ensures (omega (arith, c.min-count.ensures)) c.loop-i.invariant

pub returns : goal.returns
returns g c = fill-all g.B.Listed.shown c.args.items.now c.args.at c.loop-i.i c.args.to.now c.loop-i.to (omega (arith, c.min-count.ensures)) c.loop-i.invariant
