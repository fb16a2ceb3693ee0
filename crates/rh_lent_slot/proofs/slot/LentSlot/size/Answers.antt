use Rattle.rh_lent_slot.proofs.Common.{area_set, bytes, pages_memory_shown, pages_memory_over}
use Rattle.rh_lent_slot.proofs.SlotBytes.{is_slot}
use Rattle.rh_lent_slot.proofs.slot.LentSlot.size.Goals as goal

pub size-requires-clause-slot : goal.size-requires-clause-slot
unfolding pages_memory_shown
size-requires-clause-slot c = is_slot c.args.bytes.now c.args.self _ c.requires.slot

pub returns : goal.returns
unfolding pages_memory_shown pages_memory_over bytes area_set
returns c = c.size.ensures
