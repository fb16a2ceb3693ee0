use Rattle.rh_lent_slot.proofs.Common.{area_set, bytes, pages_memory_shown, pages_memory_over}
use Rattle.rh_lent_slot.proofs.SlotBytes.{is_slot}
use Rattle.rh_lent_slot.proofs.slot.LentSlot.free_anchor.Goals as goal

pub free_anchor-requires : goal.free_anchor-requires
unfolding pages_memory_shown
free_anchor-requires c = is_slot c.args.bytes.now c.args.self _ c.requires

pub returns : goal.returns
unfolding pages_memory_shown pages_memory_over bytes area_set
returns c = c.free_anchor.ensures
