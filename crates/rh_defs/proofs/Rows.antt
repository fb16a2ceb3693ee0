-- What a script answers line by line, compared with what it is to answer.
use Rattle.rh_defs.proofs.Common.{Bool, true, ◌&&◌, List, [], ◌∷◌, ◌++◌, ℕ, length, take, codes, Desk}
use Rattle.std.specs.List.{list_any}
use Rattle.std.specs.Str.{bytes_eq}
use Prim.Native.String.{String}
use Rattle.rh_defs.specs.Script.{ended, line_text, line_desk}

-- what is said of a reply: nothing, its whole text, what it begins with, or one of its later lines
pub data Wanted : Type 0 where
  Any : Wanted
  Is : String → Wanted
  Begins : String → Wanted
  Has : String → Wanted

abbrev pub is_wanted : Wanted → List ℕ → Bool
is_wanted Any text = true
is_wanted (Is whole) text = bytes_eq text (codes whole)
is_wanted (Begins front) text = bytes_eq (take (length (codes front)) text) (codes front)
is_wanted (Has line) text = list_any (bytes_eq (codes "  " ++ codes line)) (ended text)

-- each line of a script answers as it is to, from a desk on
abbrev pub meets : Desk → List (String × Wanted) → Bool
meets d [] = true
meets d (row ∷ rows) = is_wanted row.1 (line_text d (codes row.0)) && meets (line_desk d (codes row.0)) rows
