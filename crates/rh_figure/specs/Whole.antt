-- A whole map, whichever page is whose. Read Map first. A stage is a line with its meaning, and the share of the pool
-- behind it; p is the place in the script before a line, r the line, s the share.
use Rattle.std.specs.Prelude.{◌≡◌, ℕ, Bool, List, [], ◌∷◌, map}
use Rattle.rh_figure.specs.Share.{IsShared}
use Rattle.rh_figure.specs.Map.{Place, Read, Stage, after_read, map_lines, written_lines}

abbrev pub read_of : Stage → Read
read_of stage = stage.0

-- behind each line the pool is shared out just as the desk says
abbrev pub AreShared : Place → List Stage → Type 0
AreShared p [] = Unit {0}
AreShared p ((r, s) ∷ rest) = IsShared s (after_read p r).desk × AreShared (after_read p r) rest

-- a text is the map of some lines from a place on, with some share of the pool behind each
pub record IsMap (marked : Bool) (p : Place) (reads : List Read) (written : List ℕ) : Type 0 where
  pub stages : List Stage
  pub lines : map read_of stages ≡ reads
  pub shared : AreShared p stages
  pub is : written ≡ written_lines (map_lines marked p stages)
