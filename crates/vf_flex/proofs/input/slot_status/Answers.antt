use Rattle.std.proofs.Common.{arith}
use Rattle.std.proofs.lemmas.Bool.Decides.{nat_tests}
use Rattle.vf_flex.specs.SlotStatus.{slot_status}
use Rattle.vf_flex.proofs.input.slot_status.Goals as goal

pub returns-then-status-ne-OK : goal.returns-then-status-ne-OK
unfolding slot_status
returns-then-status-ne-OK c = grind (arith, nat_tests)

pub returns-then-slot-eq0 : goal.returns-then-slot-eq0
unfolding slot_status
returns-then-slot-eq0 c = grind (arith, nat_tests)

pub returns-then-len-slot : goal.returns-then-len-slot
unfolding slot_status
returns-then-len-slot c = grind (arith, nat_tests)

pub returns : goal.returns
unfolding slot_status
returns c = grind (arith, nat_tests)
