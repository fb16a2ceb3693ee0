use Rattle.rh_heap.specs.HeapSpans.{heap_in}
use Rattle.rh_heap.proofs.BitLaws.{not_set}
use Rattle.rh_heap.proofs.IndexLaws.{not_marked, not_there}
use Rattle.rh_heap.proofs.WalkLaws.{no_low_block}
use Rattle.rh_heap.proofs.span.indexed.locate_in.Goals as goal

pub returns-then-address-lt-BLOCK : goal.returns-then-address-lt-BLOCK
returns-then-address-lt-BLOCK g c = no_low_block _ (heap_in (g.S.Words.memory c.args.store.now) c.args.span) c.if-address-lt-BLOCK.true

pub returns-then-place-ne0 : goal.returns-then-place-ne0
returns-then-place-ne0 g c = not_there (heap_in (g.S.Words.memory c.args.store.now) c.args.span) c.args.address c.requires.span.spells.heap.tidy
    c.if-address-lt-BLOCK.false c.if-place-ne0.true

pub returns-else-is_set : goal.returns-else-is_set
returns-else-is_set g c =
    not_marked _ (heap_in (g.S.Words.memory c.args.store.now) c.args.span) c.args.address c.requires.starts c.if-address-lt-BLOCK.false c.if-place-ne0.false
    (not_set _ _ c.is_set.ensures c.if-is_set.false)
