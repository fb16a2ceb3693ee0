use Rattle.rh_lent_slot.proofs.Common.{area_set, bytes, pages_memory_shown, pages_memory_over}
use Rattle.rh_lent_slot.proofs.SlotBytes.{is_slot}
use Rattle.rh_lent_slot.proofs.slot.LentSlot.read.Goals as goal

pub read-requires-clause-slot : goal.read-requires-clause-slot
unfolding pages_memory_shown
read-requires-clause-slot c = is_slot c.args.bytes.now c.args.self _ c.requires.slot

pub returns-clause-answer : goal.returns-clause-answer
unfolding pages_memory_shown pages_memory_over bytes area_set
returns-clause-answer c = c.read.ensures.answer

pub returns-clause-buffer : goal.returns-clause-buffer
unfolding pages_memory_shown pages_memory_over bytes area_set
returns-clause-buffer c = c.read.ensures.bytes
