use Rattle.std.proofs.Common.{◌+◌, ◌-◌, ◌≡◌, refl, arith}
use Rattle.rh_heap.proofs.BitLaws.{scan_start, scan_found, scan_jump, scan_ends}
use Rattle.rh_heap.proofs.TractLaws.{none_marked}
use Rattle.rh_heap.proofs.span.starts.last_hole_below.Goals as goal

pub walk-init : goal.walk-init
walk-init c = scan_start _ _ _ _ c.requires.within (c.type_inv.starts _).fits refl

pub returns-then-word-ne0 : goal.returns-then-word-ne0
returns-then-word-ne0 c = scan_found _ _ _ _ _ _ c.walk.invariant c.if-word-ne0.true refl

pub returns-then-behind-eq0 : goal.returns-then-behind-eq0
returns-then-behind-eq0 c =
    let none = c.if-behind-eq0.true in
    scan_ends _ _ _ _ _ c.walk.invariant c.if-word-ne0.false
    (λ j under. none_marked _ _ c.requires.marked _ _ c.past_empty_tracts-behind.ensures.empty j (omega arith) under)

pub walk-preserved : goal.walk-preserved
walk-preserved c =
    let some = c.if-behind-eq0.false in
    scan_jump _ _ _ _ _ c.past_empty_tracts-behind.result (c.past_empty_tracts-behind.result - 1) _ c.walk.invariant c.if-word-ne0.false
    c.past_empty_tracts-behind.ensures.below (let e : c.past_empty_tracts-behind.result ≡ c.past_empty_tracts-behind.result - 1 + 1 = omega arith in e)
    (none_marked _ _ c.requires.marked _ _ c.past_empty_tracts-behind.ensures.empty) (c.type_inv.starts _).fits refl
