use Rattle.rh_heap.proofs.Common.{◌-◌, ap, ◌∙◌, w32, to_z-of_z, moved}
use Rattle.rh_heap.proofs.ChangeLaws.{answered}
use Rattle.rh_heap.proofs.span.indexed.resize_by.Goals as goal

pub returns-else-n-eq0-clause-leaves : goal.returns-else-n-eq0-clause-leaves
returns-else-n-eq0-clause-leaves g c =
    answered (g.S.Words.memory c.args.store.now) (g.S.Words.memory c.change_in.new.store) _ _ _ c.in-Some.ensures c.args.delta _
    (c.moved-n.ensures.value ∙ ap (λ d. moved (c.in-Some.spot.size - 4) d) (to_z-of_z w32 c.args.delta c.ranges.delta)) _ c.if-n-eq0.false
    c.segment_size.ensures.size c.requires.span c.change_in.ensures.only _ c.change_in.ensures.changed
