use Rattle.rh_wide_slot.proofs.Common.{◌*◌, arith}
use Rattle.rh_wide_slot.proofs.CallLaws.{refuses_budge, does_budge, budge_full, budge_done}
use Rattle.rh_wide_slot.proofs.LeaveLaws.{budge_leaves, budge_nothing}
use Rattle.rh_wide_slot.proofs.slot.WideSlot.budge.Goals as goal
use Rattle.rh_wide_slot.proofs.slot.WideSlot.budge.Goals.{then-room-n-via-then-room-n, then-room-n-via-else-room-n+then-room-div_ceil}

pub returns-then-room-n : goal.returns-then-room-n
returns-then-room-n c = elim c.then-room-n.branch [
  | then-room-n-via-then-room-n w ↦ (let h = w.if-room-n.true in refuses_budge _ _ _ _ (budge_full _ _ _ (omega arith)))
  | then-room-n-via-else-room-n+then-room-div_ceil w ↦ (
      let h = w.if-room-div_ceil.true in
      let e = w.div_ceil.ensures in
      refuses_budge _ _ _ _ (budge_full _ _ _ (omega arith))
      )
]

pub returns-then-n-eq0 : goal.returns-then-n-eq0
returns-then-n-eq0 c =
    let z = c.if-n-eq0.true in
    does_budge _ _ _ _ _ 0 _ (budge_done _ _ 0 _ (omega arith) (omega arith)) (budge_nothing _ _ c.requires)

pub returns : goal.returns
returns c =
    let z = c.if-n-eq0.false in
    let e = c.div_ceil.ensures in
    let f = c.div_ceil-by.ensures in
    let h = c.if-room-div_ceil.false in
    let within = c.requires.within in
    does_budge _ _ _ _ _ _ _ (budge_done _ _ _ _ (omega arith) (omega arith))
    (budge_leaves _ _ _ _ (8 * c.div_ceil-by.result) c.requires (λ q. absurd (omega arith)) (omega arith) (omega arith) c.shift.ensures)
