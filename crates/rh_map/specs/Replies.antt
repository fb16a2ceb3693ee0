-- What is shown of a reply by its front.
use Rattle.std.specs.Prelude.{ℕ, ◌-◌, nat_lt, if◌then◌else◌, List, [], ◌∷◌, ◌++◌, map, take}
use Rattle.rh_defs.specs.Script.{ended, unended}
use Rattle.rh_figure.specs.Phrases.{Text, cut}
use Rattle.rh_figure.specs.Map.{more_lines}
use Rattle.rh_figure.specs.declared.limits.TheConstants.{MOST_REPLY_LINES, REPLY_COLUMNS}
use Rattle.rh_map.specs.declared.front.TheConstants.{ROOM}

-- a line without a line feed behind it, if there is one
abbrev pub rest_line : Text → List Text
rest_line [] = []
rest_line (b ∷ bs) = (b ∷ bs) ∷ []

-- the lines of a text, of which the last may be cut
abbrev pub lines_in : Text → List Text
lines_in t = ended t ++ rest_line (unended t)

-- the first n of some lines, each cut
abbrev pub first_lines : ℕ → List Text → List Text
first_lines n lines = map (cut REPLY_COLUMNS) (take n lines)

-- how many of n lines are left out, if some are
abbrev pub more_behind : ℕ → List Text
more_behind n = if nat_lt MOST_REPLY_LINES n then more_lines (n - MOST_REPLY_LINES) ∷ [] else []

-- the front of a text, as much of it as is kept
abbrev pub front_of : Text → Text
front_of text = take ROOM text

-- the first lines of a reply of n lines, by the front of it
abbrev pub excerpt_lines : Text → ℕ → List Text
excerpt_lines front n = first_lines MOST_REPLY_LINES (lines_in front) ++ more_behind n
