-- Nothing to do, refused, or longer.
use Rattle.rh_slot.proofs.Common.{sym, ap, ◌∙◌, not, ◌&&◌, nat_lt, slot_in}
use Rattle.rh_slot.proofs.SpanLaws.{budging_same}
use Rattle.rh_slot.proofs.GrowLaws.{growth_none, growth_stuck, growth_by}
use Rattle.rh_slot.proofs.slot.Slot.make_room.Goals as goal

pub returns-then-shortage-eq0-clause-answer : goal.returns-then-shortage-eq0-clause-answer
returns-then-shortage-eq0-clause-answer g c = growth_none _ _ _ c.if-shortage-eq0.true

pub returns-then-is_stuck-clause-answer : goal.returns-then-is_stuck-clause-answer
returns-then-is_stuck-clause-answer g c =
    growth_stuck _ _ (slot_in (g.S.Words.memory c.args.store.now) c.args.self)
    (ap (λ b. nat_lt 0 c.args.shortage && not b) (budging_same (g.S.Words.memory c.args.store.now) c.args.self) ∙ sym c.is_stuck.ensures ∙ c.if-is_stuck.true)

pub returns-clause-answer : goal.returns-clause-answer
returns-clause-answer g c =
    growth_by _ _ _ (slot_in (g.S.Words.memory c.args.store.now) c.args.self)
    (ap (λ b. nat_lt 0 c.args.shortage && not b) (budging_same (g.S.Words.memory c.args.store.now) c.args.self) ∙ sym c.is_stuck.ensures ∙ c.if-is_stuck.false)
    c.lengthen.ensures.refused c.lengthen.ensures.reason
