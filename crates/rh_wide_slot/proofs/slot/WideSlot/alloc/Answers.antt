use Rattle.rh_wide_slot.proofs.Common.{sym, ◌∙◌, arith}
use Rattle.rh_wide_slot.proofs.CallLaws.{refuses, does, alloc_used, alloc_full, alloc_done}
use Rattle.rh_wide_slot.proofs.LeaveLaws.{alloc_leaves, alloc_place}
use Rattle.rh_wide_slot.proofs.slot.WideSlot.alloc.Goals as goal
use Rattle.rh_wide_slot.proofs.slot.WideSlot.alloc.Goals.{then-room-n-via-then-room-n, then-room-n-via-else-room-n+then-room-wide_weight}

pub returns-then-used-ne0-clause-left : goal.returns-then-used-ne0-clause-left
returns-then-used-ne0-clause-left c =
    refuses _ _ _ _ _ (alloc_used _ _ _ (λ z. c.if-used-ne0.true (c.entry-used.ensures.place ∙ z)) c.entry-used.ensures.size _ _)

pub returns-then-room-n-clause-left : goal.returns-then-room-n-clause-left
returns-then-room-n-clause-left c =
    let none = sym c.entry-used.ensures.place ∙ c.if-used-ne0.false in
    elim c.then-room-n.branch [
      | then-room-n-via-then-room-n w ↦ (let h = w.if-room-n.true in refuses _ _ _ _ _ (alloc_full _ _ none _ _ (omega arith)))
      | then-room-n-via-else-room-n+then-room-wide_weight w ↦ (
          let h = w.if-room-wide_weight.true in
          let e = w.wide_weight.ensures in
          refuses _ _ _ _ _ (alloc_full _ _ none _ _ (omega arith))
          )
    ]

pub returns-clause-left : goal.returns-clause-left
returns-clause-left c =
    let none = sym c.entry-used.ensures.place ∙ c.if-used-ne0.false in
    let h = c.if-room-wide_weight.false in
    let e = c.wide_weight.ensures in
    let within = c.requires.slot.within in
    does _ _ _ _ _ _ _ (alloc_done _ _ none _ _ (omega arith))
    (alloc_leaves _ _ _ _ _ _ _ c.requires.slot c.requires.anchor none c.wide_weight-2.ensures (omega arith) c.zero_in.ensures c.put_entry.ensures)

pub returns-clause-place : goal.returns-clause-place
returns-clause-place c =
    let none = sym c.entry-used.ensures.place ∙ c.if-used-ne0.false in
    let h = c.if-room-wide_weight.false in
    let e = c.wide_weight.ensures in
    let within = c.requires.slot.within in
    alloc_place _ _ _ _ _ _ _ c.requires.slot c.requires.anchor none c.wide_weight-2.ensures (omega arith) c.zero_in.ensures c.put_entry.ensures
