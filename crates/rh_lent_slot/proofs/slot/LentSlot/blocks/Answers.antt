use Rattle.rh_lent_slot.proofs.Common.{area_set, bytes, pages_memory_shown, pages_memory_over}
use Rattle.rh_lent_slot.proofs.SlotBytes.{is_slot}
use Rattle.rh_lent_slot.proofs.slot.LentSlot.blocks.Goals as goal

pub blocks-requires : goal.blocks-requires
unfolding pages_memory_shown
blocks-requires c = record { slot = is_slot c.args.bytes.now c.args.self _ c.requires }

pub returns-clause-passed : goal.returns-clause-passed
unfolding pages_memory_shown pages_memory_over bytes area_set
returns-clause-passed c = c.blocks-2.ensures.passed

pub returns-clause-walk : goal.returns-clause-walk
unfolding pages_memory_shown pages_memory_over bytes area_set
returns-clause-walk c = c.blocks-2.ensures.walk
