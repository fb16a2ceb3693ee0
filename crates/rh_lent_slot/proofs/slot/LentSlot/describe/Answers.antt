use Rattle.rh_lent_slot.proofs.Common.{area_set, bytes, pages_memory_shown, pages_memory_over}
use Rattle.rh_lent_slot.proofs.SlotBytes.{is_slot}
use Rattle.rh_lent_slot.proofs.slot.LentSlot.describe.Goals as goal

pub describe-requires : goal.describe-requires
unfolding pages_memory_shown
describe-requires c = record { slot = is_slot c.args.bytes.now c.args.self _ c.requires }

pub returns-clause-end : goal.returns-clause-end
unfolding pages_memory_shown pages_memory_over bytes area_set
returns-clause-end c = c.describe.ensures.end

pub returns-clause-largest : goal.returns-clause-largest
unfolding pages_memory_shown pages_memory_over bytes area_set
returns-clause-largest c = c.describe.ensures.largest

pub returns-clause-free : goal.returns-clause-free
unfolding pages_memory_shown pages_memory_over bytes area_set
returns-clause-free c = c.describe.ensures.total
