use Rattle.std.proofs.Common.{arith}
use Rattle.rh_defs.proofs.MemoryLaws.{Edited-self, Edited-wider, Edited-both}
use Rattle.rh_slot.proofs.ShiftLaws.{hanging_start, hanging_end, turn, room}
use Rattle.rh_slot.proofs.row.write_anchors_short.Goals as goal

pub walk-init : goal.walk-init
walk-init g c = record { only = Edited-self _ _ _ _ c.requires.opened; walk = hanging_start _ _ _ c.requires.row }

pub read-anchor-requires-clause-within : goal.read-anchor-requires-clause-within
read-anchor-requires-clause-within g c =
    let r = room _ _ _ _ _ c.walk.invariant.walk c.walk-test.true in
    let l = c.walk.invariant.only.outside.len in
    let w = c.requires.within in
    omega arith

pub read-size-requires-clause-within : goal.read-size-requires-clause-within
read-size-requires-clause-within g c =
    let r = room _ _ _ _ _ c.walk.invariant.walk c.walk-test.true in
    let l = c.walk.invariant.only.outside.len in
    let w = c.requires.within in
    omega arith

pub overflow_sub-word : goal.overflow_sub-word
overflow_sub-word g c =
    (turn _ _ _ _ _ _ _ c.walk.invariant.walk c.walk-test.true c.requires.low c.read-anchor.ensures.value c.read-size.ensures.value).least

pub write-requires-clause-within : goal.write-requires-clause-within
write-requires-clause-within g c =
    let t = turn _ _ _ _ _ _ _ c.walk.invariant.walk c.walk-test.true c.requires.low c.read-anchor.ensures.value c.read-size.ensures.value in
    let m = t.most in
    let o = t.least in
    let l = c.walk.invariant.only.outside.len in
    let w = c.requires.within in
    let h = c.requires.low in
    omega arith

pub walk-preserved : goal.walk-preserved
walk-preserved g c =
    let t = turn _ _ _ _ _ _ _ c.walk.invariant.walk c.walk-test.true c.requires.low c.read-anchor.ensures.value c.read-size.ensures.value in
    let m = t.most in
    let o = t.least in
    record {
      only = Edited-both _ _ _ _ _ _ c.walk.invariant.only (Edited-wider _ _ _ _ _ _ _ c.write.ensures.only (omega arith) (omega arith));
      walk = t.next _ _ c.flex_weight-place.ensures c.write.ensures.only.outside c.write.ensures.word;
    }

pub returns-clause-hung : goal.returns-clause-hung
returns-clause-hung g c = λ fs l e. hanging_end _ _ _ _ _ c.walk.invariant.walk c.walk-test.false fs l e
