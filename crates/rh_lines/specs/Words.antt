-- The words of a line, as far as a command may read them.
use Rattle.std.specs.Prelude.{ℕ, List, take}
use Rattle.rh_defs.specs.Line.{words_of}

-- no command has more than seven words, so that an eighth one is a word too many
abbrev pub most_words : ℕ
most_words = 8

-- the words of a line, up to the eighth
unfoldable pub first_words : List ℕ → List (List ℕ)
first_words line = take most_words (words_of line)
