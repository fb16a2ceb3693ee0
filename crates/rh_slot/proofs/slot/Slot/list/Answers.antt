-- The walk ends where no block is left.
use Rattle.rh_slot.proofs.Common.{◌∙◌, ap, sym, take, arith, block_items, slot_in}
use Rattle.rh_slot.specs.declared.row.FlexWalk.{FlexWalk}
use Rattle.rh_slot.proofs.ItemLaws.{room_left, one_more, all_listed}
use Rattle.rh_slot.proofs.slot.Slot.list.Goals as goal

pub rest_of_page-anchors-requires-clause-within : goal.rest_of_page-anchors-requires-clause-within
rest_of_page-anchors-requires-clause-within g c = omega (arith, c.requires.slot.spells.words.within)

pub push-requires : goal.push-requires
push-requires g c = (
  omega arith,
  room_left (slot_in (g.S.Words.memory c.args.store.now) c.args.self) c.walk.walk.passed _ _ c.requires.slot.spells.words.anchors
      c.walk.invariant.listed c.in-Some.ensures.block,
)

pub list_in_page-walk-requires-clause-listed : goal.list_in_page-walk-requires-clause-listed
list_in_page-walk-requires-clause-listed g c =
    let s = slot_in (g.S.Words.memory c.args.store.now) c.args.self in
    c.push.ensures.items ∙ (one_more (block_items s) c.walk.walk.passed _ _ c.walk.invariant.listed c.in-Some.ensures.block
    ∙ ap (λ n. take n (block_items s)) (sym c.in-Some.ensures.passed))

pub walk-smaller : goal.walk-smaller
walk-smaller g c = omega (arith, c.in-Some.ensures.walk.most, c.in-Some.ensures.passed, c.list_in_page-walk.ensures.on, c.list_in_page-walk.ensures.walk.most)

pub returns : goal.returns
returns g c =
    all_listed (slot_in (g.S.Words.memory c.args.store.now) c.args.self) c.walk.walk.passed _ c.walk.invariant.listed
    (sym (ap (λ (w : FlexWalk). w.passed) c.in_default.ensures.stays) ∙ c.in_default.ensures.all)
