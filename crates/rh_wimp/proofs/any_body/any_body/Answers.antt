use Rattle.rh_wimp.proofs.Common.{◌≡◌, ◌-◌, true, refl, sym, ap, subst, ◌∙◌, arith, Some, Option, IsSome, Body, Other, part}
use Rattle.rh_defs.specs.AnyMessage.{body_of}
use Rattle.rh_defs.specs.OtherBodies.{is_other}
use Rattle.rh_defs.proofs.BytesLaws.{length-part, part-drop}
use Rattle.rh_wimp.proofs.AnyLaws.{KindAt, data-whole, inexact-other, kind-as, kind-at, other-is}
use Rattle.rh_wimp.specs.Chains.{body_as}
use Rattle.rh_wimp.proofs.any_body.any_body.Goals as goal
use Rattle.rh_wimp.proofs.any_body.any_body.Goals.{Else-is_exact, Then-is_exact}

-- the kind whose own message it is
kind : (c : Then-is_exact) → KindAt c.args.bytes.now c.args.end c.get_word-number.result
kind c = kind-at c.args.bytes.now c.args.end c.get_word-number.result c.requires.low (sym c.is_exact.ensures ∙ c.if-is_exact.true)

pub unwrap-requires : goal.unwrap-requires
unwrap-requires c = subst IsSome (sym (c.kind_at.ensures ∙ (kind (goal.at.unwrap-requires c).Then-is_exact).read)) refl

pub returns-then-is_exact : goal.returns-then-is_exact
returns-then-is_exact c =
    let w = kind (goal.at.returns-then-is_exact c).Then-is_exact in
    let e : ◌≡◌ {A = Option Body} (Some c.unwrap.result) (Some w.body) = sym c.unwrap.ensures ∙ c.kind_at.ensures ∙ w.read in
    let same : c.unwrap.result ≡ w.body = cc in
    same ∙ sym (kind-as c.args.played w) ∙ ap (body_as c.args.played) (sym w.is)
    ∙ ap (λ a. body_as c.args.played (body_of a (part c.args.bytes.now 20 (c.args.end - 20)))) c.get_word-number.ensures

-- the data of another message
other : (c : Else-is_exact) → is_other c.get_word-number.result (part c.args.bytes.now 20 (c.args.end - 20)) ≡ true
other c =
    let d = part c.args.bytes.now 20 (c.args.end - 20) in
    inexact-other c.get_word-number.result d
    (data-whole d c.args.end (omega (arith, length-part c.args.bytes.now 20 (c.args.end - 20))) c.requires.small c.requires.whole)
    (sym c.is_exact.ensures ∙ c.if-is_exact.false)

pub other_as-requires-clause-other : goal.other_as-requires-clause-other
other_as-requires-clause-other c =
    subst (λ d. is_other c.get_word-number.result d ≡ true) (part-drop c.args.bytes.now 20 (c.args.end - 20) (omega arith))
    (other (goal.at.other_as-requires-clause-other c).Else-is_exact)

pub returns : goal.returns
returns c =
    let b = c.args.bytes.now in
    let d = part b 20 (c.args.end - 20) in
    c.other_as.ensures ∙ ap (λ x. body_as c.args.played (Other (c.get_word-number.result, x))) (sym (part-drop b 20 (c.args.end - 20) (omega arith)))
    ∙ ap (body_as c.args.played) (sym (other-is c.get_word-number.result d (other (goal.at.returns c).Else-is_exact)))
    ∙ ap (λ a. body_as c.args.played (body_of a d)) c.get_word-number.ensures
