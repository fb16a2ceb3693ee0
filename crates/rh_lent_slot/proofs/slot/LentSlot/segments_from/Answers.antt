use Rattle.rh_lent_slot.proofs.Common.{area_set, bytes, pages_memory_shown, pages_memory_over}
use Rattle.rh_lent_slot.proofs.SlotBytes.{is_slot}
use Rattle.rh_lent_slot.proofs.slot.LentSlot.segments_from.Goals as goal

pub segments_from-requires : goal.segments_from-requires
unfolding pages_memory_shown
segments_from-requires c = record { slot = is_slot c.args.bytes.now c.args.self _ c.requires }

pub returns : goal.returns
unfolding pages_memory_shown pages_memory_over bytes area_set
returns c = c.segments_from.ensures
