use Rattle.rh_heap.proofs.Common.{◌-◌, refl, ap, ◌∙◌, w32, to_z-of_z, moved, heap_in}
use Rattle.rh_heap.proofs.CallLaws.{refuses}
use Rattle.rh_heap.proofs.ChangeLaws.{answered, no_block_resize, resize_zero}
use Rattle.rh_heap.proofs.span.resize.resize.Goals as goal

pub returns-then-n-eq0 : goal.returns-then-n-eq0
returns-then-n-eq0 g c =
    refuses _ _ _ _ _ (resize_zero _ _ _ _ c.in-Some.ensures c.args.delta _
    (c.moved-n.ensures.value ∙ ap (λ d. moved (c.in-Some.spot.size - 4) d) (to_z-of_z w32 c.args.delta c.ranges.delta)) c.if-n-eq0.true) refl c.requires

pub returns-else-n-eq0 : goal.returns-else-n-eq0
returns-else-n-eq0 g c =
    answered (g.S.Words.memory c.args.store.now) (g.S.Words.memory c.change.new.store) _ _ _ c.in-Some.ensures c.args.delta _
    (c.moved-n.ensures.value ∙ ap (λ d. moved (c.in-Some.spot.size - 4) d) (to_z-of_z w32 c.args.delta c.ranges.delta)) _ c.if-n-eq0.false
    c.segment_size.ensures.size c.requires c.change.ensures.only _ c.change.ensures.changed

pub returns-in-None : goal.returns-in-None
returns-in-None g c = refuses _ _ _ _ _ (no_block_resize c.args.address c.args.delta (heap_in (g.S.Words.memory c.args.store.now) c.args.span)
    c.in-None.ensures) refl c.requires
