use Rattle.std.proofs.Common.{◌≡◌, length, Some}
use Rattle.rh_defs.specs.Files.{FileList, file_bytes}
use Rattle.vf_web.specs.Packed.{packed_files}
use Rattle.vf_web.proofs.files.find.Given as goal

abbrev pub invariant-loop-front : goal.invariant-loop-front
invariant-loop-front l =
    (files : FileList) → packed_files l.bytes ≡ Some files → (rest : FileList) × (packed_files l.rest ≡ Some rest) ×
    (file_bytes l.name files ≡ file_bytes l.name rest)

abbrev pub decreases-loop-front : goal.decreases-loop-front
decreases-loop-front l = length l.rest
