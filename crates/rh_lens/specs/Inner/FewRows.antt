-- How high the bands of a slot are, by what the program has. Read LensBands first.
use Rattle.std.specs.Prelude.{◌+◌, ◌≤◌}
use Rattle.rh_defs.specs.Slot.{anchor_count}
use Rattle.rh_lens.specs.LensBands as bands
use Rattle.rh_lens.specs.declared.lens.Heights.{Heights}
use Rattle.rh_lens.specs.declared.sizes.TheConstants.{MOST_PIECES}

abbrev pub heights_seen : Heights → bands.Heights
heights_seen h = record { flex = h.flex; heap = h.heap; anchors = h.anchors }

-- bands of few rows
pub record AreFew (h : Heights) : Type 0 where
  pub flex : h.flex ≤ MOST_PIECES + 1
  pub heap : h.heap ≤ MOST_PIECES + 1
  pub anchors : h.anchors ≤ anchor_count
