-- Each turn hangs one block, and those behind it in its page.
use Rattle.std.proofs.Common.{refl, arith}
use Rattle.rh_defs.proofs.MemoryLaws.{Edited-wider}
use Rattle.rh_slot.proofs.ShiftLaws.{apart_start, apart_end, apart_room, turn_apart}
use Rattle.rh_slot.proofs.row.write_anchors_long.Goals as goal

pub walk-init : goal.walk-init
walk-init g c = apart_start _ _ _ _ _ c.requires.row (omega (arith, c.requires.within, c.requires.low)) refl c.copy_out.ensures

pub read-anchor-requires-clause-within : goal.read-anchor-requires-clause-within
read-anchor-requires-clause-within g c = omega (arith, apart_room _ _ _ _ _ c.walk.invariant c.walk-test.true, c.requires.within)

pub read-size-requires-clause-within : goal.read-size-requires-clause-within
read-size-requires-clause-within g c = omega (arith, apart_room _ _ _ _ _ c.walk.invariant c.walk-test.true, c.requires.within)

pub write_anchor-behind-requires-clause-least : goal.write_anchor-behind-requires-clause-least
write_anchor-behind-requires-clause-least g c =
    (turn_apart _ _ _ _ _ _ _ c.walk.invariant c.walk-test.true c.requires.low c.requires.within (g.met.S.Words.small c.args.store.now c.args.area.0)
    c.read-anchor.ensures.value c.read-size.ensures.value).least

pub write_anchor-behind-requires-clause-within : goal.write_anchor-behind-requires-clause-within
write_anchor-behind-requires-clause-within g c =
    (turn_apart _ _ _ _ _ _ _ c.walk.invariant c.walk-test.true c.requires.low c.requires.within (g.met.S.Words.small c.args.store.now c.args.area.0)
    c.read-anchor.ensures.value c.read-size.ensures.value).within

pub write_anchors_in_page-place-requires-clause-walk : goal.write_anchors_in_page-place-requires-clause-walk
write_anchors_in_page-place-requires-clause-walk g c =
    (turn_apart _ _ _ _ _ _ _ c.walk.invariant c.walk-test.true c.requires.low c.requires.within (g.met.S.Words.small c.args.store.now c.args.area.0)
    c.read-anchor.ensures.value c.read-size.ensures.value).next _ _
    c.write_anchor-behind.ensures.anchors c.write_anchor-behind.ensures.next

pub returns-clause-hung : goal.returns-clause-hung
returns-clause-hung g c = apart_end _ _ _ _ _ _ c.walk.invariant c.write_bytes.ensures.value c.walk-test.false

pub returns-clause-only : goal.returns-clause-only
returns-clause-only g c = Edited-wider _ _ _ _ _ _ _ c.write_bytes.ensures.only (omega arith) (omega (arith, c.walk.invariant.long))
