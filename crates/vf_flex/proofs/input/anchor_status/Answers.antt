use Rattle.std.proofs.Common.{arith}
use Rattle.std.proofs.lemmas.Bool.Decides.{nat_tests}
use Rattle.vf_flex.specs.SlotStatus.{anchor_status}
use Rattle.vf_flex.proofs.input.anchor_status.Goals as goal

pub returns-in-0-clause-status : goal.returns-in-0-clause-status
unfolding anchor_status
returns-in-0-clause-status c = grind (arith, nat_tests)

pub returns-in_default-clause-status : goal.returns-in_default-clause-status
unfolding anchor_status
returns-in_default-clause-status c = grind (arith, nat_tests)

pub returns-in_default-2-clause-status : goal.returns-in_default-2-clause-status
unfolding anchor_status
returns-in_default-2-clause-status c = grind (arith, nat_tests)
