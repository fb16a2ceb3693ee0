-- Whether budging is on does not stand in the bytes.
use Rattle.rh_slot.proofs.Common.{refl, slot_of, slot_in}
use Rattle.rh_slot.proofs.SpanLaws.{is_slot}
use Rattle.rh_slot.proofs.slot.Slot.set_budge.Goals as goal

pub returns-clause-still : goal.returns-clause-still
returns-clause-still c = λ m s. is_slot m _ (slot_in m c.args.self.now) s.opened s.spells

pub returns-clause-spelled : goal.returns-clause-spelled
unfolding slot_of
returns-clause-spelled c = λ m. refl
