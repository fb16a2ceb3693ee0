use Rattle.rh_lent_slot.proofs.Common.{refl, slot_of}
use Rattle.rh_lent_slot.proofs.SlotBytes.{budged}
use Rattle.rh_lent_slot.proofs.slot.LentSlot.set_budge.Goals as goal

pub returns-clause-still : goal.returns-clause-still
returns-clause-still c = λ b h. budged b c.args.self.now c.args.on h

pub returns-clause-spelled : goal.returns-clause-spelled
unfolding slot_of
returns-clause-spelled c = λ b. refl
