-- Slides of blocks, counted one by one.
use Rattle.std.specs.Prelude.{ℕ, ◌+◌, List, [], ◌∷◌, Option, Some, None}
use Rattle.rh_figure.specs.Changes.{Slide}
use Rattle.rh_pictures.specs.declared.walks.block_changes.Slid.{Slid}

-- a block that lies at an address now, by where it lay if that was elsewhere
abbrev pub from_seen : Option ℕ → ℕ → List Slide
from_seen None to = []
from_seen (Some from) to = record { from = from; to = to } ∷ []

-- how many blocks slid, with one more above them
abbrev pub with_one : Option Slid → ℕ → ℕ → Slid
with_one None from to = record { count = 1; from = from; to = to }
with_one (Some slid) from to = record { count = slid.count + 1; from = slid.from; to = slid.to }
