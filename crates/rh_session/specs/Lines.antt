-- The lines of a script, as far as they count.
use Rattle.std.specs.Prelude.{ℕ, ◌+◌, List, map, take}
use Rattle.rh_defs.specs.declared.sizes.TheConstants.{LONGEST_LINE}
use Rattle.rh_defs.specs.Script.{ended, unended}

-- one byte more than a line may have shows that it has too many
unfoldable pub kept : List ℕ → List ℕ
kept line = take (LONGEST_LINE + 1) line

-- the lines that end in these bytes
abbrev pub kept_lines : List ℕ → List (List ℕ)
kept_lines bytes = map kept (ended bytes)

-- the line that begins in these bytes, and doesn't end in them
abbrev pub kept_rest : List ℕ → List ℕ
kept_rest bytes = kept (unended bytes)
