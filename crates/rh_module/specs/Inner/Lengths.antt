-- The heap where its area has another number of pages.
use Rattle.std.specs.Prelude.{ℕ, ◌+◌, ◌-◌, ◌*◌}
use Rattle.rh_defs.specs.Pieces.{page_size}
use Rattle.rh_defs.specs.Heap.{Heap}

-- the heap with so many pages more
abbrev pub longer : ℕ → Heap → Heap
longer pages h = record h { end = h.end + page_size * pages }

-- the heap with so many pages fewer; with none where it would lose more than it has
abbrev pub shorter : ℕ → Heap → Heap
shorter pages h = record h { end = h.end - page_size * pages }
