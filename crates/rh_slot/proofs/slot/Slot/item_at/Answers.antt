-- The header lies in the area, which is small.
use Rattle.std.proofs.Common.{arith}
use Rattle.rh_slot.proofs.WalkLaws.{turn}
use Rattle.rh_slot.proofs.slot.Slot.item_at.Goals as goal

pub read-requires-clause-within : goal.read-requires-clause-within
read-requires-clause-within g c =
    let t = turn _ _ _ c.requires.slot.spells.words c.requires.walked c.requires.stands _ c.requires.size in omega (arith, t.inside)

pub overflow_add-address : goal.overflow_add-address
overflow_add-address g c =
    let t = turn _ _ _ c.requires.slot.spells.words c.requires.walked c.requires.stands _ c.requires.size in
    omega (arith, t.inside, g.met.S.Words.small c.args.store.now c.args.self.area.0)

pub overflow_add-address-2 : goal.overflow_add-address-2
overflow_add-address-2 g c =
    let t = turn _ _ _ c.requires.slot.spells.words c.requires.walked c.requires.stands _ c.requires.size in
    omega (arith, t.inside, g.met.S.Words.small c.args.store.now c.args.self.area.0)

pub overflow_cast-result-2 : goal.overflow_cast-result-2
overflow_cast-result-2 g c =
    let t = turn _ _ _ c.requires.slot.spells.words c.requires.walked c.requires.stands _ c.requires.size in
    omega (arith, t.inside, g.met.S.Words.small c.args.store.now c.args.self.area.0)

pub overflow_cast-result-3 : goal.overflow_cast-result-3
overflow_cast-result-3 g c =
    let t = turn _ _ _ c.requires.slot.spells.words c.requires.walked c.requires.stands _ c.requires.size in
    omega (arith, t.inside, g.met.S.Words.small c.args.store.now c.args.self.area.0)
