use Rattle.std.proofs.Common.{arith}
use Rattle.std.proofs.lemmas.Bool.Decides.{nat_tests}
use Rattle.vf_flex.specs.SlotStatus.{length_status}
use Rattle.vf_flex.proofs.input.length_status.Goals as goal

pub returns-then-len-lt-PAGE : goal.returns-then-len-lt-PAGE
unfolding length_status
returns-then-len-lt-PAGE c = grind (arith, nat_tests)

pub returns : goal.returns
unfolding length_status
returns c = grind (arith, nat_tests)
