use Rattle.rh_wide_slot.proofs.Common.{◌≢◌, sym, ap, ◌∙◌, row_place, row_size, part, spliced, Some, Ok, ◌-◌}
use Rattle.rh_wide_slot.proofs.CallLaws.{refuses, does, extend_none, extend_full, extend_done}
use Rattle.rh_wide_slot.proofs.slot.WideSlot.extend.Goals as goal

pub returns-then-place-eq0 : goal.returns-then-place-eq0
returns-then-place-eq0 c = refuses _ _ _ _ _ (extend_none _ _ (sym c.entry-place.ensures.place ∙ c.if-place-eq0.true) _ _)

pub returns-then-lacks_room : goal.returns-then-lacks_room
returns-then-lacks_room c =
    let used : row_place c.args.bytes.now c.args.anchor ≢ 0 = λ z. c.if-place-eq0.false (c.entry-place.ensures.place ∙ z) in
    refuses _ _ _ _ _ (extend_full _ _ _ used c.entry-place.ensures.size _ _ (sym c.lacks_room.ensures ∙ c.if-lacks_room.true))

pub returns : goal.returns
returns c =
    let used : row_place c.args.bytes.now c.args.anchor ≢ 0 = λ z. c.if-place-eq0.false (c.entry-place.ensures.place ∙ z) in
    let bytes = part c.args.bytes.now (row_place c.args.bytes.now c.args.anchor) (row_size c.args.bytes.now c.args.anchor) in
    does _ _ _ _ _ _ _
    (extend_done _ _ _ used c.entry-place.ensures.size _ _ (sym c.lacks_room.ensures ∙ c.if-lacks_room.false)
    ∙ ap (λ i. Ok (Some (spliced c.entry-place.result.1 i (c.args.n - c.entry-place.result.1) bytes)))
    (sym c.saturating_sub-out.ensures)
    ∙ ap (λ i. Ok (Some (spliced c.entry-place.result.1 c.saturating_sub-out.result i bytes)))
    (sym c.saturating_sub-put.ensures))
    c.splice.ensures
