use Rattle.std.proofs.Common.{◌≡◌, length, Some}
use Rattle.rh_defs.specs.Files.{FileList}
use Rattle.vf_web.specs.Packed.{are_apart, packed_files}
use Rattle.vf_web.proofs.files.have_own_names.Given as goal

abbrev pub invariant-loop-front : goal.invariant-loop-front
invariant-loop-front l =
    (files : FileList) → packed_files l.bytes ≡ Some files → (rest : FileList) × (packed_files l.rest ≡ Some rest) × (are_apart files ≡ are_apart rest)

abbrev pub decreases-loop-front : goal.decreases-loop-front
decreases-loop-front l = length l.rest
