use Rattle.rh_wide_slot.proofs.Common.{refl, sym, ◌∙◌, true, false, arith}
use Rattle.rh_wide_slot.proofs.ShiftLaws.{shift_is, shift_none}
use Rattle.rh_wide_slot.proofs.slot.WideSlot.shift.Goals as goal

pub returns-then-above-eq0 : goal.returns-then-above-eq0
returns-then-above-eq0 c =
    let none = c.if-above-eq0.true in
    let high = c.requires.high in
    shift_none _ _ _ _ c.requires.slot c.requires.from (omega arith)

pub returns-then-moved : goal.returns-then-moved
returns-then-moved c =
    shift_is _ _ _ _ _ _ c.requires.from c.requires.to c.requires.high c.requires.slot.within c.requires.within c.tell_moved-moved.ensures.told _ refl
    c.slide_in.ensures true (sym c.if-moved.true ∙ c.tell_moved-moved.ensures.moved)

pub returns-else-moved : goal.returns-else-moved
returns-else-moved c =
    shift_is _ _ _ _ _ _ c.requires.from c.requires.to c.requires.high c.requires.slot.within c.requires.within c.tell_moved-moved.ensures.told _ refl
    c.slide_in.ensures false (sym c.if-moved.false ∙ c.tell_moved-moved.ensures.moved)
