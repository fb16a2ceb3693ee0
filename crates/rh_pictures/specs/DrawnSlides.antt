-- Blocks that slid, as they are counted.
use Rattle.std.specs.Prelude.{List, [], ◌∷◌, length, Option, Some, None}
use Rattle.rh_figure.specs.Changes.{Slide}
use Rattle.rh_pictures.specs.declared.walks.block_changes.Slid.{Slid}

-- how many slid, and the way of the lowest
abbrev pub summary_of : List Slide → Option Slid
summary_of [] = None
summary_of (s ∷ ss) = Some (record { count = length (s ∷ ss); from = s.from; to = s.to })
