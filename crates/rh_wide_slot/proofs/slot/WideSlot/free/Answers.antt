use Rattle.rh_wide_slot.proofs.Common.{◌≢◌, row_place, sym, ap, ◌+◌, ◌∙◌}
use Rattle.rh_wide_slot.proofs.CallLaws.{refuses, does, free_none, free_done}
use Rattle.rh_wide_slot.proofs.LeaveLaws.{free_leaves, gone_slot}
use Rattle.rh_wide_slot.proofs.slot.WideSlot.free.Goals as goal

pub returns-then-place-eq0 : goal.returns-then-place-eq0
returns-then-place-eq0 c = refuses _ _ _ _ _ (free_none _ _ (sym c.entry-place.ensures.place ∙ c.if-place-eq0.true))

pub shift-requires-clause-slot : goal.shift-requires-clause-slot
shift-requires-clause-slot c = gone_slot _ _ _ _ c.requires.slot c.requires.anchor c.put_entry.ensures

pub returns : goal.returns
returns c =
    let used : row_place c.args.bytes.now c.args.anchor ≢ 0 = λ z. c.if-place-eq0.false (c.entry-place.ensures.place ∙ z) in
    does _ _ _ _ _ _ _ (free_done _ _ _ used c.entry-place.ensures.size)
    (free_leaves _ _ _ _ _ _ _ _ _ c.requires.slot c.requires.anchor used c.entry-place.ensures.place c.entry-place.ensures.size
    (ap (λ i. c.entry-place.result.0 + i) c.wide_weight.ensures) c.put_entry.ensures c.shift.ensures)
