use Rattle.std.proofs.Common.{◌≡◌, length, is_some}
use Rattle.vf_web.specs.Packed.{packed_files}
use Rattle.vf_web.proofs.files.are_listed.Given as goal

abbrev pub invariant-loop-rest : goal.invariant-loop-rest
invariant-loop-rest l = is_some (packed_files l.bytes) ≡ is_some (packed_files l.rest)

abbrev pub decreases-loop-rest : goal.decreases-loop-rest
decreases-loop-rest l = length l.rest
