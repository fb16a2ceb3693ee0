use Rattle.rh_heap.specs.HeapSpans.{heap_in}
use Rattle.rh_heap.proofs.WalkLaws.{no_low_block, no_block_at, found_block, found_hole}
use Rattle.rh_heap.proofs.span.segments.locate.Goals as goal

pub returns-then-address-lt-BLOCK : goal.returns-then-address-lt-BLOCK
returns-then-address-lt-BLOCK g c = no_low_block _ (heap_in (g.S.Words.memory c.args.store.now) c.args.span) c.if-address-lt-BLOCK.true

pub returns-in-None : goal.returns-in-None
returns-in-None g c = no_block_at _ (heap_in (g.S.Words.memory c.args.store.now) c.args.span) c.if-address-lt-BLOCK.false c.in-None.ensures

pub returns-then-spot : goal.returns-then-spot
returns-then-spot g c = found_block _ _ _ _ c.requires.spells.heap.tidy c.if-address-lt-BLOCK.false c.in-Some.ensures c.if-spot.true

pub returns-else-spot : goal.returns-else-spot
returns-else-spot g c = found_hole _ _ _ _ c.requires.spells.heap.tidy c.if-address-lt-BLOCK.false c.in-Some.ensures c.if-spot.false
