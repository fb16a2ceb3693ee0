-- A word of the command line that gives a file.
use Rattle.std.specs.Prelude.{ℕ, if◌then◌else◌, List, Option, Some, None}
use Rattle.rh_desk.specs.FileWords.{is_file_word, word_name, word_path}

-- the name and the path of a word
abbrev pub file_word : List ℕ → Option (List ℕ × List ℕ)
file_word word = if is_file_word word then Some (word_name word, word_path word) else None
