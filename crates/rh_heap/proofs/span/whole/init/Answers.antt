use Rattle.rh_heap.proofs.SizeLaws.{init_spells}
use Rattle.rh_heap.proofs.SpanLaws.{heap_now, is_span}
use Rattle.rh_heap.specs.HeapSpans.{SpellsHeapIn}
use Rattle.rh_defs.specs.Heap.{empty_heap}
use Rattle.rh_heap.proofs.span.whole.init.Goals as goal
use Rattle.rh_heap.proofs.span.whole.init.Goals.{After-write-4}
use Rattle.rh_heap.proofs.span.whole.init.Given as given

spelt : (g : given.Over) (c : After-write-4 g) → SpellsHeapIn (g.S.Words.memory c.write-4.new.store) c.args.span (empty_heap c.args.end)
spelt g c =
    init_spells _ _ _ _ _ _ _ c.requires.least c.requires.multiple c.requires.within c.write.ensures.only.outside c.write.ensures.value
    c.write-2.ensures.only.outside c.write-2.ensures.value
    c.write-3.ensures.only.outside c.write-3.ensures.value c.write-4.ensures.only.outside c.write-4.ensures.value

pub returns-clause-heap : goal.returns-clause-heap
returns-clause-heap g c = heap_now _ _ _ (spelt g (goal.at.returns-clause-heap g c).After-write-4)

pub returns-clause-spells : goal.returns-clause-spells
returns-clause-spells g c = spelt g (goal.at.returns-clause-spells g c).After-write-4

pub returns-clause-still : goal.returns-clause-still
returns-clause-still g c = is_span _ _ _ c.write-4.ensures.only.opened (spelt g (goal.at.returns-clause-still g c).After-write-4)
