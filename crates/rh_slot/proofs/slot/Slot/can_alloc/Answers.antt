use Rattle.rh_slot.proofs.Common.{refl, ap, sym, arith, slot_in}
use Rattle.rh_defs.specs.Chain.{outcome_of}
use Rattle.rh_slot.proofs.FlexLaws.{alloc_used, alloc_full, alloc_done, pages_wanted}
use Rattle.rh_slot.proofs.slot.Slot.can_alloc.Goals as goal

pub returns-in-Some : goal.returns-in-Some
returns-in-Some g c = sym (ap outcome_of (alloc_used _ _ _ _ _ _ c.in-Some.ensures))

pub returns-then-more-free_pages : goal.returns-then-more-free_pages
returns-then-more-free_pages g c =
    let m = g.S.Words.memory c.args.store.now in
    let s = slot_in m c.args.self in
    let more = pages_wanted s _ _ _ _ _ c.top-top.ensures c.flex_weight.ensures c.pages_for.ensures c.pages_for-2.ensures in
    sym (ap outcome_of (alloc_full m.free c.args.anchor c.args.n s c.in_default.ensures
    (omega (arith, more, c.if-more-free_pages.true, c.free_pages.ensures))))

pub returns : goal.returns
returns g c =
    let m = g.S.Words.memory c.args.store.now in
    let s = slot_in m c.args.self in
    let more = pages_wanted s _ _ _ _ _ c.top-top.ensures c.flex_weight.ensures c.pages_for.ensures c.pages_for-2.ensures in
    sym (ap outcome_of (alloc_done m.free c.args.anchor c.args.n s _ c.in_default.ensures
    (omega (arith, more, c.if-more-free_pages.false, c.free_pages.ensures)) refl))
