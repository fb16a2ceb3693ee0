use Rattle.rh_defs.proofs.BlockCalls.{module_claim-puts, module_free-frees}
use Rattle.rh_defs.proofs.BlockLaws.{IsImage-written, poked-pokes}
use Rattle.rh_defs.proofs.laws.block_law.Goals as goal

pub returns-clause-claim : goal.returns-clause-claim
returns-clause-claim c = λ free n h k address e. module_claim-puts free n h (k, address) e

pub returns-clause-free : goal.returns-clause-free
returns-clause-free c = module_free-frees

pub returns-clause-write : goal.returns-clause-write
returns-clause-write c = λ b h address offset old bytes image found room.
    (IsImage-written b h address offset bytes old image found room, poked-pokes address offset bytes h old found)
