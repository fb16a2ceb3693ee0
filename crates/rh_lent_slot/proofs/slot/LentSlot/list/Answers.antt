use Rattle.rh_lent_slot.proofs.Common.{area_set, bytes, pages_memory_shown, pages_memory_over}
use Rattle.rh_lent_slot.proofs.SlotBytes.{is_slot}
use Rattle.rh_lent_slot.proofs.slot.LentSlot.list.Goals as goal

pub list-requires : goal.list-requires
unfolding pages_memory_shown
list-requires c = record { slot = is_slot c.args.bytes.now c.args.self _ c.requires }

pub returns : goal.returns
unfolding pages_memory_shown pages_memory_over bytes area_set
returns c = c.list.ensures
