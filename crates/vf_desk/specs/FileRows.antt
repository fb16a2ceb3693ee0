-- The named files of a desk, whoever keeps their bytes.
use Rattle.std.specs.Prelude.{ℕ, List, map}
use Rattle.rh_defs.specs.Files.{FileList}
use Rattle.vf_desk.specs.declared.desk_files.FileBytes.{FileBytes}
use Rattle.vf_desk.specs.declared.desk_files.FileBytes.TheVariants as file
use Rattle.vf_desk.specs.declared.desk_files.NewFile.{NewFile}
use Rattle.vf_desk.specs.declared.desk_files.NewFile.TheVariants as given

-- the bytes of a file
abbrev pub kept_bytes : FileBytes → List ℕ
kept_bytes (file.Copied bytes) = bytes.items
kept_bytes (file.Lent bytes) = bytes.now

-- the bytes in place of what holds them
abbrev pub file_rows : List (List ℕ × FileBytes) → FileList
file_rows entries = map (λ row. (row.0, kept_bytes row.1)) entries

-- the bytes of a file that is added
abbrev pub given_bytes : NewFile → List ℕ
given_bytes (given.Copied bytes) = bytes.now
given_bytes (given.Lent bytes) = bytes.now
