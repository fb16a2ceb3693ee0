use Rattle.rh_wide_slot.proofs.Common.{sym, ◌∙◌}
use Rattle.rh_wide_slot.proofs.CallLaws.{size_none, size_done}
use Rattle.rh_wide_slot.proofs.slot.WideSlot.size.Goals as goal

pub returns-then-place-eq0 : goal.returns-then-place-eq0
returns-then-place-eq0 c = sym (size_none _ _ (sym c.entry-place.ensures.place ∙ c.if-place-eq0.true))

pub returns : goal.returns
returns c = sym (size_done _ _ _ (λ z. c.if-place-eq0.false (c.entry-place.ensures.place ∙ z)) c.entry-place.ensures.size)
