-- Replies by what is written of them.
use Rattle.std.specs.Prelude.{List, ◌++◌, codes}
use Rattle.std.specs.List.{flat_map}
use Rattle.rh_figure.specs.Phrases.{Text}

-- lines, each behind a line feed
abbrev pub behind_feeds : List Text → Text
behind_feeds lines = flat_map (λ line. codes "\n" ++ line) lines
