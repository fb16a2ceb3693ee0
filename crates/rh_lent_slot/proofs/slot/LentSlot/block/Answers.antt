use Rattle.rh_lent_slot.proofs.Common.{area_set, bytes, pages_memory_shown, pages_memory_over}
use Rattle.rh_lent_slot.proofs.SlotBytes.{is_slot}
use Rattle.rh_lent_slot.proofs.slot.LentSlot.block.Goals as goal

pub block-requires : goal.block-requires
unfolding pages_memory_shown
block-requires c = record { slot = is_slot c.args.bytes.now c.args.self _ c.requires }

pub returns : goal.returns
unfolding pages_memory_shown pages_memory_over bytes area_set
returns c = c.block.ensures
