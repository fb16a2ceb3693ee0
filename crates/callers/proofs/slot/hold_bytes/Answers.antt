use Rattle.std.proofs.Common.{refl, sym, ◌∙◌}
use Rattle.std.proofs.lemmas.Result.{err_from_is_err_and}
use Rattle.rh_defs.proofs.MemoryLaws.{OnlyArea-both}
use Rattle.callers.proofs.AreaFacts.{closed_again}
use Rattle.callers.proofs.SlotFacts.{begin_refused, held_after, left_by, one_less, put_after, refused_after}
use Rattle.callers.proofs.slot.hold_bytes.Goals as goal

pub returns-in_err-slot-clause-answer : goal.returns-in_err-slot-clause-answer
returns-in_err-slot-clause-answer g c =
    let p = err_from_is_err_and c.from_residual.result c.from_residual.ensures.1 in
    rw (p.1, p.2) (sym (begin_refused _ c.args.bytes.now _ c.in_err-slot.ensures.answer))

pub unwrap-requires : goal.unwrap-requires
unwrap-requires g c =
    rw (c.put.ensures.answer, put_after _ _ _ c.args.bytes.now _ _ c.in_ok-slot.ensures.slot c.in-Ok.ensures.answer c.in-Ok.ensures.slot refl) refl

pub returns-in-Ok-clause-answer : goal.returns-in-Ok-clause-answer
returns-in-Ok-clause-answer g c =
    let s = c.in_ok-slot.ensures in
    sym (held_after _ _ _ _ c.args.bytes.now _ s.slot (one_less _ _ c.in_ok-slot.slot s.closed s.only s.spells) refl c.in-Ok.ensures.answer)

pub returns-in-Ok-clause-held : goal.returns-in-Ok-clause-held
returns-in-Ok-clause-held g c =
    left_by _ _ _ _ c.put.ensures.slot (put_after _ _ _ c.args.bytes.now _ _ c.in_ok-slot.ensures.slot c.in-Ok.ensures.answer c.in-Ok.ensures.slot refl)

pub returns-in-Ok-clause-area : goal.returns-in-Ok-clause-area
returns-in-Ok-clause-area g c =
    let s = c.in_ok-slot.ensures in
    record { closed = s.closed; first = s.least; only = OnlyArea-both _ _ _ _ (OnlyArea-both _ _ _ _ s.only c.in-Ok.ensures.only) c.put.ensures.only }

pub returns-in-Err-clause-answer : goal.returns-in-Err-clause-answer
returns-in-Err-clause-answer g c =
    let s = c.in_ok-slot.ensures in
    sym (refused_after _ _ _ _ c.args.bytes.now _ s.slot (one_less _ _ c.in_ok-slot.slot s.closed s.only s.spells) refl c.in-Err.ensures.answer)

pub returns-in-Err-clause-err : goal.returns-in-Err-clause-err
returns-in-Err-clause-err g c =
    let s = c.in_ok-slot.ensures in
    c.end.ensures ∙ closed_again _ _ _ s.closed (OnlyArea-both _ _ _ _ s.only c.in-Err.ensures.only)
