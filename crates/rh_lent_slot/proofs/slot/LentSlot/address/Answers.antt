use Rattle.rh_lent_slot.proofs.Common.{area_set, bytes, pages_memory_shown, pages_memory_over}
use Rattle.rh_lent_slot.proofs.SlotBytes.{is_slot}
use Rattle.rh_lent_slot.proofs.slot.LentSlot.address.Goals as goal

pub address-requires-clause-slot : goal.address-requires-clause-slot
unfolding pages_memory_shown
address-requires-clause-slot c = is_slot c.args.bytes.now c.args.self _ c.requires.slot

pub returns : goal.returns
unfolding pages_memory_shown pages_memory_over bytes area_set
returns c = c.address.ensures
