-- Named files in one row of bytes: of each a byte with the length of its name, the name, a word with the length of its
-- bytes, and these.
use Rattle.std.specs.Prelude.{ℕ, zero, suc, ◌+◌, nat_le, nat_lt, Bool, true, ◌&&◌, not, if◌then◌else◌, List, [], ◌∷◌, length, take, drop, Option, Some, None, option_and_then, unwrap_or}
use Rattle.std.specs.Option.{option_map}
use Rattle.rh_defs.specs.Bytes.{word}
use Rattle.rh_defs.specs.Files.{FileList, has_file}
use Rattle.rh_defs.specs.Forms.{is_name}
use Rattle.rh_defs.specs.declared.sizes.TheConstants.{LONGEST_FILE, WORD}

-- a file with this name, whose bytes are the first `size` of these, and the bytes behind it; None where it may not have
-- the name, or so many bytes, or where there are fewer
unfoldable pub named_file : List ℕ → ℕ → List ℕ → Option ((List ℕ × List ℕ) × List ℕ)
named_file name size rest =
    if is_name name && nat_le size LONGEST_FILE && nat_le size (length rest) then Some ((name, take size rest), drop size rest)
    else None

-- the file at the front of some bytes, and the bytes behind it; None where no file stands there
unfoldable pub front_file : List ℕ → Option ((List ℕ × List ℕ) × List ℕ)
front_file [] = None
front_file (n ∷ rest) =
    if nat_lt (length rest) (n + WORD) then None
    else named_file (take n rest) (word rest n) (drop (n + WORD) rest)

-- at most so many files that stand one behind the other, and nothing behind them; None where they don't
unfoldable pub files_within : ℕ → List ℕ → Option FileList
files_within zero [] = Some []
files_within zero (x ∷ rest) = None
files_within (suc most) [] = Some []
files_within (suc most) (x ∷ rest) =
    option_and_then (λ found. option_map (λ files. found.0 ∷ files) (files_within most found.1)) (front_file (x ∷ rest))

-- the files that stand one behind the other in the bytes, whatever their names; None where they don't
unfoldable pub packed_files : List ℕ → Option FileList
packed_files bytes = files_within (length bytes) bytes

-- no two files have one name
abbrev pub are_apart : FileList → Bool
are_apart [] = true
are_apart (file ∷ files) = not (has_file file.0 files) && are_apart files

-- the files that the bytes are; None where they are none, or two of them have one name
unfoldable pub files_in : List ℕ → Option FileList
files_in bytes = option_and_then (λ files. if are_apart files then Some files else None) (packed_files bytes)

-- the files that the bytes are; no files where they are none, or two of them have one name
abbrev pub files_of : List ℕ → FileList
files_of bytes = unwrap_or (files_in bytes) []
