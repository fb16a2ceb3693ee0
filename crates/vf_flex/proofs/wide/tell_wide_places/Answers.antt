use Rattle.std.proofs.Common.{arith}
use Rattle.vf_flex.proofs.WideLaws.{none_wide_told, wide_told_more}
use Rattle.vf_flex.proofs.wide.tell_wide_places.Goals as goal

pub loop-anchor-init : goal.loop-anchor-init
loop-anchor-init c = none_wide_told _ _ _

pub loop-anchor-preserved : goal.loop-anchor-preserved
loop-anchor-preserved c =
    wide_told_more c.args.memory.now c.args.slot c.args.places.now c.loop-anchor.places c.loop-anchor.anchor c.wide_place_at.result (omega arith)
    c.loop-anchor.invariant c.wide_place_at.ensures
