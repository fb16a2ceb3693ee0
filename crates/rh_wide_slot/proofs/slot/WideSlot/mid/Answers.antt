use Rattle.rh_wide_slot.proofs.Common.{◌≢◌, sym, ap, ◌∙◌, row_place}
use Rattle.std.proofs.Common.{w32}
use Rattle.std.proofs.lemmas.Int.{to_z-of_z}
use Rattle.rh_defs.specs.Pieces.{moved}
use Rattle.rh_defs.specs.Slot.{taken_out}
use Rattle.rh_wide_slot.proofs.CallLaws.{refuses, does, mid_none, mid_above, mid_short, mid_full, mid_done}
use Rattle.rh_wide_slot.proofs.slot.WideSlot.mid.Goals as goal
use Rattle.rh_wide_slot.proofs.slot.WideSlot.mid.Goals.{then-size-offset-via-then-size-offset, then-size-offset-via-else-size-offset+then-offset-out}

pub returns-then-place-eq0 : goal.returns-then-place-eq0
returns-then-place-eq0 c = refuses _ _ _ _ _ (mid_none _ _ (sym c.entry-place.ensures.place ∙ c.if-place-eq0.true) _ _ _)

pub returns-then-size-offset : goal.returns-then-size-offset
returns-then-size-offset c =
    let used : row_place c.args.bytes.now c.args.anchor ≢ 0 = λ z. c.if-place-eq0.false (c.entry-place.ensures.place ∙ z) in
    elim c.then-size-offset.branch [
      | then-size-offset-via-then-size-offset w ↦
          refuses _ _ _ _ _ (mid_above _ _ _ used c.entry-place.ensures.size _ _ _ w.if-size-offset.true)
      | then-size-offset-via-else-size-offset+then-offset-out w ↦
          refuses _ _ _ _ _ (mid_short _ _ _ used c.entry-place.ensures.size _ _ _
          (c.taken_out-out.ensures.value ∙ ap taken_out (to_z-of_z w32 c.args.by c.ranges.by))
          w.if-size-offset.false _ w.if-offset-out.true)
    ]

pub returns-then-lacks_room : goal.returns-then-lacks_room
returns-then-lacks_room c =
    let used : row_place c.args.bytes.now c.args.anchor ≢ 0 = λ z. c.if-place-eq0.false (c.entry-place.ensures.place ∙ z) in
    refuses _ _ _ _ _ (mid_full _ _ _ used c.entry-place.ensures.size _ _ _
    (c.taken_out-out.ensures.value ∙ ap taken_out (to_z-of_z w32 c.args.by c.ranges.by)) c.if-size-offset.false _
    (c.moved-put.ensures.value ∙ ap (moved 0) (to_z-of_z w32 c.args.by c.ranges.by))
    c.if-offset-out.false _ (sym c.lacks_room.ensures ∙ c.if-lacks_room.true))

pub returns : goal.returns
returns c =
    let used : row_place c.args.bytes.now c.args.anchor ≢ 0 = λ z. c.if-place-eq0.false (c.entry-place.ensures.place ∙ z) in
    does _ _ _ _ _ _ _ (mid_done _ _ _ used c.entry-place.ensures.size _ _ _
    (c.taken_out-out.ensures.value ∙ ap taken_out (to_z-of_z w32 c.args.by c.ranges.by)) c.if-size-offset.false _
    (c.moved-put.ensures.value ∙ ap (moved 0) (to_z-of_z w32 c.args.by c.ranges.by))
    c.if-offset-out.false _ (sym c.lacks_room.ensures ∙ c.if-lacks_room.false)) c.splice.ensures
