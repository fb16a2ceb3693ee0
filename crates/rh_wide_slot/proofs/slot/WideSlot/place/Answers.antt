use Rattle.rh_wide_slot.proofs.Common.{sym, ap, ◌∙◌, Ok}
use Rattle.rh_wide_slot.proofs.CallLaws.{place_none, place_done}
use Rattle.rh_wide_slot.proofs.slot.WideSlot.place.Goals as goal

pub returns-then-place-eq0 : goal.returns-then-place-eq0
returns-then-place-eq0 c = sym (place_none _ _ (sym c.entry-place.ensures.place ∙ c.if-place-eq0.true))

pub returns : goal.returns
returns c =
    ap Ok c.entry-place.ensures.place ∙ sym (place_done _ _ _ (λ z. c.if-place-eq0.false (c.entry-place.ensures.place ∙ z)) c.entry-place.ensures.size)
