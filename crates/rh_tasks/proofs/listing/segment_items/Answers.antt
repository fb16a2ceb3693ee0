use Rattle.std.proofs.Common.{ap, ◌∷◌, [], ◌++◌, ◌∙◌, arith}
use Rattle.rh_tasks.proofs.SegmentItems.{is_small, listed_more, listed_few, listed_all}
use Rattle.rh_tasks.proofs.listing.segment_items.Goals as goal

pub segment_item-requires-clause-low : goal.segment_item-requires-clause-low
segment_item-requires-clause-low c = (is_small _ c.loop-segment.segment-index _ c.requires.small c.loop-segment-test.true).0

pub push-requires : goal.push-requires
push-requires c = (omega arith, listed_few _ _ c.loop-segment.segment-index _ c.loop-segment.invariant c.loop-segment-test.true c.requires.few)

pub loop-segment-preserved : goal.loop-segment-preserved
loop-segment-preserved c =
    c.push.ensures.items
    ∙ (ap (λ x. c.loop-segment.items.items ++ x ∷ []) c.segment_item.ensures
    ∙ listed_more _ _ c.loop-segment.segment-index _ _ c.loop-segment.invariant c.loop-segment-test.true)

pub returns : goal.returns
returns c = listed_all _ _ c.loop-segment.segment-index _ c.loop-segment.invariant c.loop-segment-test.false
