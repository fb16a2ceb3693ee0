-- Below the last page a block stands; where a header has no room, none does.
use Rattle.std.proofs.Common.{sym, arith, ◌∙◌}
use Rattle.rh_defs.proofs.HeapLists.{leb_no}
use Rattle.rh_slot.proofs.WalkLaws.{walked_most, no_room, below_last}
use Rattle.rh_slot.proofs.slot.Slot.stands.Goals as goal

pub overflow_add-place : goal.overflow_add-place
overflow_add-place g c =
    omega (arith, walked_most _ _ _ c.requires.slot.spells.words c.requires.walked, g.met.S.Words.small c.args.store.now c.args.self.area.0)

pub overflow_add-place-2 : goal.overflow_add-place-2
overflow_add-place-2 g c =
    omega (arith, walked_most _ _ _ c.requires.slot.spells.words c.requires.walked, g.met.S.Words.small c.args.store.now c.args.self.area.0)

pub returns-then-place-len : goal.returns-then-place-len
returns-then-place-len g c = sym (below_last _ _ _ c.requires.slot.spells c.requires.walked (omega (arith, c.if-place-len.true, c.len-len.ensures)))

pub returns-else-place-len-2 : goal.returns-else-place-len-2
returns-else-place-len-2 g c =
    leb_no _ _ c.if-place-len-2.false
    ∙ sym (no_room _ _ _ c.requires.slot.spells.words c.requires.walked (omega (arith, c.if-place-len-2.false, c.len-len.ensures)))
