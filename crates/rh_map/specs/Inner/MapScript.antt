-- Lines of a script.
use Rattle.std.specs.Prelude.{◌≢◌, ℕ, List, [], ◌∷◌}
use Rattle.rh_defs.specs.Bytes.{space}

-- a line is empty, or begins with a byte of a word
abbrev pub BeginsWord : List ℕ → Type 0
BeginsWord [] = Unit {0}
BeginsWord (b ∷ bs) = b ≢ space
