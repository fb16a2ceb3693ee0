use Rattle.std.proofs.Common.{arith}
use Rattle.vf_web.specs.Packed.{files_in}
use Rattle.vf_web.proofs.files.LentFiles.new.Goals as goal

pub invariant_of-result : goal.invariant_of-result
unfolding files_in
invariant_of-result c = grind arith

pub returns-then-have_own_names : goal.returns-then-have_own_names
unfolding files_in
returns-then-have_own_names c = grind arith

pub returns : goal.returns
unfolding files_in
returns c = grind arith
