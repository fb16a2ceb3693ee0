use Rattle.rh_wide_slot.proofs.Common.{◌≢◌, row_place, sym, ap, ◌+◌, ◌∙◌, arith, length, part}
use Rattle.rh_defs.specs.Chain.{outcome_of, result_or}
use Rattle.rh_wide_slot.proofs.CallLaws.{read_none, read_past, read_done}
use Rattle.rh_wide_slot.proofs.slot.WideSlot.read.Goals as goal
use Rattle.rh_wide_slot.proofs.slot.WideSlot.read.Goals.{then-size-offset-via-then-size-offset, then-size-offset-via-else-size-offset+then-size-offset-2}

pub returns-then-place-eq0-clause-answer : goal.returns-then-place-eq0-clause-answer
returns-then-place-eq0-clause-answer c = sym (ap outcome_of (read_none _ _ (sym c.entry-place.ensures.place ∙ c.if-place-eq0.true) _ _))

pub returns-then-place-eq0-clause-buffer : goal.returns-then-place-eq0-clause-buffer
returns-then-place-eq0-clause-buffer c =
    sym (ap (result_or c.args.to.now) (read_none _ _ (sym c.entry-place.ensures.place ∙ c.if-place-eq0.true) _ _))

pub returns-then-size-offset-clause-answer : goal.returns-then-size-offset-clause-answer
returns-then-size-offset-clause-answer c =
    let used : row_place c.args.bytes.now c.args.anchor ≢ 0 = λ z. c.if-place-eq0.false (c.entry-place.ensures.place ∙ z) in
    elim c.then-size-offset.branch [
      | then-size-offset-via-then-size-offset w ↦ (
          let h = w.if-size-offset.true in sym (ap outcome_of (read_past _ _ _ used c.entry-place.ensures.size _ _ (omega arith))))
      | then-size-offset-via-else-size-offset+then-size-offset-2 w ↦ (
          let g = w.if-size-offset.false in
          let h = w.if-size-offset-2.true in
          sym (ap outcome_of (read_past _ _ _ used c.entry-place.ensures.size _ _ (omega arith))))
    ]

pub returns-then-size-offset-clause-buffer : goal.returns-then-size-offset-clause-buffer
returns-then-size-offset-clause-buffer c =
    let used : row_place c.args.bytes.now c.args.anchor ≢ 0 = λ z. c.if-place-eq0.false (c.entry-place.ensures.place ∙ z) in
    elim c.then-size-offset.branch [
      | then-size-offset-via-then-size-offset w ↦ (
          let h = w.if-size-offset.true in sym (ap (result_or c.args.to.now) (read_past _ _ _ used c.entry-place.ensures.size _ _ (omega arith))))
      | then-size-offset-via-else-size-offset+then-size-offset-2 w ↦ (
          let g = w.if-size-offset.false in
          let h = w.if-size-offset-2.true in
          sym (ap (result_or c.args.to.now) (read_past _ _ _ used c.entry-place.ensures.size _ _ (omega arith))))
    ]

pub returns-clause-answer : goal.returns-clause-answer
returns-clause-answer c =
    let used : row_place c.args.bytes.now c.args.anchor ≢ 0 = λ z. c.if-place-eq0.false (c.entry-place.ensures.place ∙ z) in
    let g = c.if-size-offset.false in
    let h = c.if-size-offset-2.false in
    sym (ap outcome_of (read_done _ _ _ used c.entry-place.ensures.size _ _ (omega arith)))

pub returns-clause-buffer : goal.returns-clause-buffer
returns-clause-buffer c =
    let used : row_place c.args.bytes.now c.args.anchor ≢ 0 = λ z. c.if-place-eq0.false (c.entry-place.ensures.place ∙ z) in
    let g = c.if-size-offset.false in
    let h = c.if-size-offset-2.false in
    c.copy_from.ensures ∙ ap (λ p. part c.args.bytes.now (p + c.args.offset) (length c.args.to.now)) c.entry-place.ensures.place
    ∙ sym (ap (result_or c.args.to.now) (read_done _ _ _ used c.entry-place.ensures.size _ _ (omega arith)))
