use Rattle.rh_wide_slot.proofs.Common.{ap, ◌+◌, ◌∙◌, arith, row_place, part, spliced}
use Rattle.rh_wide_slot.proofs.LeaveLaws.{not_less, grow_leaves, grow_bytes, shrink_leaves, kept_leaves}
use Rattle.rh_wide_slot.proofs.slot.WideSlot.splice.Goals as goal

pub returns-then-end-new_end : goal.returns-then-end-new_end
returns-then-end-new_end c =
    let s = c.requires.slot in
    let e = c.entry-place.ensures in
    let from = ap (λ i. c.entry-place.result.0 + i) c.wide_weight.ensures in
    let to = ap (λ i. c.entry-place.result.0 + i) c.wide_weight-2.ensures in
    let high = s.high c.args.anchor c.requires.anchor c.requires.used in
    let within = s.within in
    let room = not_less _ _ c.requires.room in
    let less = c.if-end-new_end.true in
    let ep = e.place in
    let es = e.size in
    let w = c.wide_weight.ensures in
    let v = c.wide_weight-2.ensures in
    grow_leaves _ _ _ _ _ _ _ _ _ _ _ s c.requires.anchor c.requires.used e.place e.size from to less (omega arith) c.shift.ensures c.open.ensures.edits _
    (c.open.ensures.block
    ∙ ap (spliced c.args.offset c.args.out c.args.put)
    (grow_bytes _ _ _ _ _ _ _ _ _ _ _ s c.requires.anchor c.requires.used e.place e.size from to less (omega arith) c.shift.ensures c.open.ensures.edits
    ∙ ap (λ i. part c.args.bytes.now i c.entry-place.result.1) e.place ∙ ap (part c.args.bytes.now (row_place c.args.bytes.now c.args.anchor)) e.size))

pub returns-then-new_end-end : goal.returns-then-new_end-end
returns-then-new_end-end c =
    let e = c.entry-place.ensures in
    let from = ap (λ i. c.entry-place.result.0 + i) c.wide_weight.ensures in
    let to = ap (λ i. c.entry-place.result.0 + i) c.wide_weight-2.ensures in
    shrink_leaves _ _ _ _ _ _ _ _ _ _ _ c.requires.slot c.requires.anchor c.requires.used e.place e.size from to c.if-new_end-end.true
    c.open-then-new_end-end.ensures.edits c.shift-then-new_end-end.ensures _
    (c.open-then-new_end-end.ensures.block
    ∙ ap (spliced c.args.offset c.args.out c.args.put)
    (ap (λ i. part c.args.bytes.now i c.entry-place.result.1) e.place ∙ ap (part c.args.bytes.now (row_place c.args.bytes.now c.args.anchor)) e.size))

pub returns-else-new_end-end : goal.returns-else-new_end-end
returns-else-new_end-end c =
    let e = c.entry-place.ensures in
    let w = c.wide_weight.ensures in
    let v = c.wide_weight-2.ensures in
    let x = c.if-end-new_end.false in
    let y = c.if-new_end-end.false in
    kept_leaves _ _ _ _ _ _ c.requires.slot c.requires.anchor c.requires.used e.place e.size _ c.open-else-new_end-end.ensures.edits (omega arith) _
    (c.open-else-new_end-end.ensures.block
    ∙ ap (spliced c.args.offset c.args.out c.args.put)
    (ap (λ i. part c.args.bytes.now i c.entry-place.result.1) e.place ∙ ap (part c.args.bytes.now (row_place c.args.bytes.now c.args.anchor)) e.size))
    (omega arith)
