-- The walk stands where the blocks that it has passed end.
use Rattle.rh_slot.proofs.Common.{sym, ap, ◌∙◌, arith, Some}
use Rattle.rh_slot.proofs.WalkLaws.{walk_at, step_item, no_step, all_passed, walks_on, few_passed}
use Rattle.rh_slot.proofs.slot.Slot.next_block.Goals as goal

pub size_at-requires-clause-walked : goal.size_at-requires-clause-walked
size_at-requires-clause-walked g c = walk_at _ _ c.requires.walk

pub returns-in_err-size-clause-block : goal.returns-in_err-size-clause-block
returns-in_err-size-clause-block g c = c.from_residual.ensures ∙ sym (no_step _ _ _ c.requires.slot.spells.words c.requires.walk c.in_err-size.ensures)

pub returns-in_err-size-clause-all : goal.returns-in_err-size-clause-all
returns-in_err-size-clause-all g c = rw c.from_residual.ensures (all_passed _ _ _ c.requires.slot.spells.words c.requires.walk c.in_err-size.ensures)

pub item_at-item-requires-clause-walked : goal.item_at-item-requires-clause-walked
item_at-item-requires-clause-walked g c = walk_at _ _ c.requires.walk

pub overflow_add-walk : goal.overflow_add-walk
overflow_add-walk g c = omega (arith, few_passed _ _ _ c.requires.slot.spells.words c.requires.walk, g.met.S.Words.small c.args.store.now c.args.self.area.0)

pub returns-clause-block : goal.returns-clause-block
returns-clause-block g c = ap Some c.item_at-item.ensures ∙ step_item _ _ _ c.requires.slot.spells.words c.requires.walk c.in_ok-size.ensures.0

pub returns-clause-walk : goal.returns-clause-walk
returns-clause-walk g c = walks_on _ _ _ c.requires.slot.spells.words c.requires.walk c.in_ok-size.ensures.0 _ _ c.in_ok-size.ensures.1 c.flex_weight.ensures
