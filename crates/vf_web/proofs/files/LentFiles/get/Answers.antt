use Rattle.std.proofs.Common.{arith}
use Rattle.vf_web.specs.Packed.{files_in}
use Rattle.vf_web.proofs.files.LentFiles.get.Goals as goal

pub find-requires : goal.find-requires
unfolding files_in
find-requires c = let i = c.self.invariant in grind arith

pub returns-clause-value : goal.returns-clause-value
unfolding files_in
returns-clause-value c = let i = c.self.invariant in grind arith
