use Rattle.rh_lent_slot.proofs.Common.{area_set, bytes, pages_memory_shown, pages_memory_over}
use Rattle.rh_lent_slot.proofs.SlotBytes.{is_slot}
use Rattle.rh_lent_slot.proofs.slot.LentSlot.next_block.Goals as goal

pub next_block-requires-clause-slot : goal.next_block-requires-clause-slot
unfolding pages_memory_shown
next_block-requires-clause-slot c = is_slot c.args.bytes.now c.args.self _ c.requires.slot

pub next_block-requires-clause-walk : goal.next_block-requires-clause-walk
unfolding pages_memory_shown pages_memory_over bytes area_set
next_block-requires-clause-walk c = c.requires.walk

pub returns-clause-block : goal.returns-clause-block
unfolding pages_memory_shown pages_memory_over bytes area_set
returns-clause-block c = c.next_block.ensures.block

pub returns-clause-walk : goal.returns-clause-walk
unfolding pages_memory_shown pages_memory_over bytes area_set
returns-clause-walk c = c.next_block.ensures.walk

pub returns-clause-passed : goal.returns-clause-passed
unfolding pages_memory_shown pages_memory_over bytes area_set
returns-clause-passed c = c.next_block.ensures.passed

pub returns-clause-stays : goal.returns-clause-stays
unfolding pages_memory_shown pages_memory_over bytes area_set
returns-clause-stays c = c.next_block.ensures.stays

pub returns-clause-all : goal.returns-clause-all
unfolding pages_memory_shown pages_memory_over bytes area_set
returns-clause-all c = c.next_block.ensures.all
