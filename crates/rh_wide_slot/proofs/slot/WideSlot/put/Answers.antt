use Rattle.rh_wide_slot.proofs.Common.{◌≢◌, row_place, sym, ◌∙◌, arith}
use Rattle.rh_wide_slot.proofs.CallLaws.{refuses, does, put_none, put_past, put_done}
use Rattle.rh_wide_slot.proofs.LeaveLaws.{put_leaves}
use Rattle.rh_wide_slot.proofs.slot.WideSlot.put.Goals as goal
use Rattle.rh_wide_slot.proofs.slot.WideSlot.put.Goals.{then-size-offset-via-then-size-offset, then-size-offset-via-else-size-offset+then-size-offset-2}

pub returns-then-place-eq0 : goal.returns-then-place-eq0
returns-then-place-eq0 c = refuses _ _ _ _ _ (put_none _ _ (sym c.entry-place.ensures.place ∙ c.if-place-eq0.true) _ _)

pub returns-then-size-offset : goal.returns-then-size-offset
returns-then-size-offset c =
    let used : row_place c.args.bytes.now c.args.anchor ≢ 0 = λ z. c.if-place-eq0.false (c.entry-place.ensures.place ∙ z) in
    elim c.then-size-offset.branch [
      | then-size-offset-via-then-size-offset w ↦ (
          let h = w.if-size-offset.true in
          refuses _ _ _ _ _ (put_past _ _ _ used c.entry-place.ensures.size _ _ (omega arith))
          )
      | then-size-offset-via-else-size-offset+then-size-offset-2 w ↦ (
          let g = w.if-size-offset.false in
          let h = w.if-size-offset-2.true in
          refuses _ _ _ _ _ (put_past _ _ _ used c.entry-place.ensures.size _ _ (omega arith))
          )
    ]

pub returns : goal.returns
returns c =
    let used : row_place c.args.bytes.now c.args.anchor ≢ 0 = λ z. c.if-place-eq0.false (c.entry-place.ensures.place ∙ z) in
    let g = c.if-size-offset.false in
    let h = c.if-size-offset-2.false in
    does _ _ _ _ _ _ _ (put_done _ _ _ used c.entry-place.ensures.size _ _ (omega arith))
    (put_leaves _ _ _ _ _ _ c.requires.slot c.requires.anchor used c.entry-place.ensures.place c.entry-place.ensures.size _ _ (omega arith)
    c.put_in.ensures)
