-- A heap with zeros in its blocks: h is a heap. Read Blocks first.
use Rattle.rh_defs.specs.Heap.{Heap}
use Rattle.rh_defs.specs.Blocks.{blank}

-- the heap with zeros in all blocks
abbrev pub blanked : Heap → Heap
blanked h = record h { segments = blank h.segments }
