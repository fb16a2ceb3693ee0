-- The block's header lies in the area.
use Rattle.std.proofs.Common.{sym, refl, arith, ◌∙◌}
use Rattle.rh_slot.proofs.WalkLaws.{turn}
use Rattle.rh_slot.proofs.slot.Slot.size_at.Goals as goal

pub overflow_add-place : goal.overflow_add-place
overflow_add-place g c =
    let t = turn _ _ _ c.requires.slot.spells.words c.requires.walked (sym c.stands.ensures ∙ c.if-not-stands.false) _ refl in
    omega (arith, t.inside, g.met.S.Words.small c.args.store.now c.args.self.area.0)

pub read-requires-clause-within : goal.read-requires-clause-within
read-requires-clause-within g c =
    let t = turn _ _ _ c.requires.slot.spells.words c.requires.walked (sym c.stands.ensures ∙ c.if-not-stands.false) _ refl in
    omega (arith, t.inside)
