use Rattle.rh_heap.proofs.WalkLaws.{before_first, past_base, found_here, none_here}
use Rattle.rh_heap.specs.HeapSpans.{heap_in}
use Rattle.rh_heap.proofs.span.segments.find_segment.Goals.{then-target-lt-HEAP_FIRST-via-then-target-lt-HEAP_FIRST}
use Rattle.rh_heap.proofs.span.segments.find_segment.Goals.{then-target-lt-HEAP_FIRST-via-else-target-lt-HEAP_FIRST+then-read-target}
use Rattle.rh_heap.proofs.span.segments.find_segment.Goals as goal

pub returns-then-target-lt-HEAP_FIRST : goal.returns-then-target-lt-HEAP_FIRST
returns-then-target-lt-HEAP_FIRST g c = elim c.then-target-lt-HEAP_FIRST.branch [
  | then-target-lt-HEAP_FIRST-via-then-target-lt-HEAP_FIRST w ↦ before_first (heap_in (g.S.Words.memory c.args.store.now) c.args.span) _
      w.if-target-lt-HEAP_FIRST.true
  | then-target-lt-HEAP_FIRST-via-else-target-lt-HEAP_FIRST+then-read-target w ↦ past_base _ _ _ _ _ c.requires.spells w.read.ensures.value
      w.if-read-target.true
]

pub returns-then-spot-target : goal.returns-then-spot-target
returns-then-spot-target g c = found_here _ _ _ _ c.requires.spells.heap.tidy c.segment_around-spot.ensures c.if-spot-target.true

pub returns-else-spot-target : goal.returns-else-spot-target
returns-else-spot-target g c = none_here _ _ _ _ c.requires.spells.heap.tidy c.segment_around-spot.ensures c.if-spot-target.false
