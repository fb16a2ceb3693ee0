use Rattle.rh_wide_slot.proofs.LeaveLaws.{start_slot, start_empty}
use Rattle.rh_wide_slot.proofs.slot.WideSlot.start.Goals as goal

pub returns-clause-slot : goal.returns-clause-slot
returns-clause-slot c = start_slot _ _ _ c.requires.few c.requires.count c.requires.room c.zero_in.ensures

pub returns-clause-empty : goal.returns-clause-empty
returns-clause-empty c = start_empty _ _ _ c.requires.few c.requires.count c.requires.room c.zero_in.ensures
