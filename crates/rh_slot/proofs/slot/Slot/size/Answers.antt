use Rattle.rh_slot.proofs.Common.{sym, slot_in}
use Rattle.rh_slot.proofs.FlexLaws.{size_none, size_found}
use Rattle.rh_slot.proofs.slot.Slot.size.Goals as goal

pub returns-in_default : goal.returns-in_default
returns-in_default g c = sym (size_none _ (slot_in (g.S.Words.memory c.args.store.now) c.args.self) c.in_default.ensures)

pub returns : goal.returns
returns g c = sym (size_found _ _ _ _ c.in-Some.ensures)
