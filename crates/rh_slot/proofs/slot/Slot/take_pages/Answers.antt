-- Refused, or the pages of the shortage and of one header more.
use Rattle.rh_slot.proofs.Common.{sym, ap, ◌∙◌, arith, err_from_is_err_and, Ok, not, ◌&&◌, nat_lt, slot_in}
use Rattle.rh_slot.proofs.SpanLaws.{is_span_at, heap_at, budging_same}
use Rattle.rh_slot.proofs.GrowLaws.{need_most}
use Rattle.rh_slot.proofs.CHeapLaws.{claim_needs, take_zero, take_stuck, take_done}
use Rattle.rh_slot.proofs.slot.Slot.take_pages.Goals as goal

pub need-requires : goal.need-requires
need-requires g c = is_span_at _ c.args.self _ c.span.ensures c.requires.slot

pub returns-in_err-shortage : goal.returns-in_err-shortage
returns-in_err-shortage g c =
    let s = slot_in (g.S.Words.memory c.args.store.now) c.args.self in
    let p = err_from_is_err_and c.from_residual.result c.from_residual.ensures.1 in
    rw (p.1, p.2) (sym (take_zero c.args.n s _ _ (heap_at _ c.args.self _ c.span.ensures) c.in_err-shortage.ensures))

pub returns-then-is_stuck : goal.returns-then-is_stuck
returns-then-is_stuck g c =
    let s = slot_in (g.S.Words.memory c.args.store.now) c.args.self in
    let w = claim_needs c.args.n c.in_ok-shortage.shortage s _ (heap_at (g.S.Words.memory c.args.store.now) c.args.self _ c.span.ensures)
    c.in_ok-shortage.ensures in
    sym (take_stuck c.args.n c.in_ok-shortage.shortage s w (ap (λ b. nat_lt 0 c.in_ok-shortage.shortage && not b)
    (budging_same (g.S.Words.memory c.args.store.now) c.args.self) ∙ sym c.is_stuck.ensures ∙ c.if-is_stuck.true))

pub pages_for-requires : goal.pages_for-requires
pages_for-requires g c =
    let s = slot_in (g.S.Words.memory c.args.store.now) c.args.self in
    let w = claim_needs c.args.n c.in_ok-shortage.shortage s _ (heap_at (g.S.Words.memory c.args.store.now) c.args.self _ c.span.ensures)
    c.in_ok-shortage.ensures in
    let f = c.requires.slot.spells.words.heap.heap.fits in
    let r = c.ranges.n.fits in
    omega (arith, need_most c.args.n s.heap f, w.1)

pub returns : goal.returns
returns g c =
    let s = slot_in (g.S.Words.memory c.args.store.now) c.args.self in
    let w = claim_needs c.args.n c.in_ok-shortage.shortage s _ (heap_at (g.S.Words.memory c.args.store.now) c.args.self _ c.span.ensures)
    c.in_ok-shortage.ensures in
    sym (take_done c.args.n c.in_ok-shortage.shortage s w (ap (λ b. nat_lt 0 c.in_ok-shortage.shortage && not b)
    (budging_same (g.S.Words.memory c.args.store.now) c.args.self) ∙ sym c.is_stuck.ensures ∙ c.if-is_stuck.false)
    ∙ ap (λ i. Ok i) (omega (arith, c.pages_for.ensures, c.pages_for-2.ensures, c.pages_for-3.ensures, c.flex_weight.ensures, c.top-top.ensures)))
