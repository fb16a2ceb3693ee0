-- The named files, in the order given: pairs of a name (file.0) and its bytes (file.1).
-- Nothing is to be read before.
use Rattle.std.specs.Prelude.{ℕ, ◌≤◌, Bool, List, [], ◌∷◌, length, map, find, Option, Vec}
use Rattle.std.specs.List.{list_any}
use Rattle.std.specs.Option.{option_map}
use Rattle.std.specs.Str.{bytes_eq}
use Rattle.std.specs.declared.alloc.Global.{Global}
use Rattle.rh_defs.specs.declared.sizes.TheConstants.{LONGEST_FILE}

abbrev pub FileList : Type 0
FileList = List (List ℕ × List ℕ)

-- the bytes in place of the vectors that hold them
abbrev pub contents_of : List (List ℕ × Vec ℕ Global) → FileList
contents_of entries = map (λ file. (file.0, file.1.items)) entries

-- whether a file has the name
abbrev pub has_file : List ℕ → FileList → Bool
has_file name files = list_any (λ file. bytes_eq name file.0) files

-- the bytes of the file with the name
abbrev pub file_bytes : List ℕ → FileList → Option (List ℕ)
file_bytes name files = option_map (λ file. file.1) (find (λ file. bytes_eq file.0 name) files)

-- no file is longer than any may be
abbrev pub AreShort : FileList → Type 0
AreShort [] = Unit {0}
AreShort (file ∷ files) = (length file.1 ≤ LONGEST_FILE) × AreShort files
