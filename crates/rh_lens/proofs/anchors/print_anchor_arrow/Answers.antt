use Rattle.std.proofs.Common.{ap, ap₂, append-nil, sym, ◌∙◌}
use Rattle.rh_elements.proofs.WriteLemmas.{offered_as}
use Rattle.rh_lens.specs.LensArrows.{arrow_class, arrow_to, has_arrow}
use Rattle.rh_lens.proofs.LoopLemmas.{nothing-where, written-where}
use Rattle.rh_lens.proofs.anchors.print_anchor_arrow.Goals as goal

pub returns-then-not-has_arrow : goal.returns-then-not-has_arrow
returns-then-not-has_arrow g c = nothing-where
    (has_arrow c.args.count c.args.anchor.now) _ _ (sym c.has_arrow.ensures ∙ c.if-not-has_arrow.true)

pub returns-in-Some : goal.returns-in-Some
returns-in-Some g c =
    let found = c.in-Some.ensures.some in
    written-where (has_arrow c.args.count c.args.anchor.now) (g.P.Pen.offered c.args.pen.now) _ (sym c.has_arrow.ensures ∙ c.if-not-has_arrow.false)
    (offered_as _ (ap₂ (λ class o. arrow_to class c.args.top c.args.band.now.foot c.args.count c.args.i o) c.arrow_class.ensures.value
    (sym found.1)) (c.print_arrow.ensures found.0))

pub returns-in_default : goal.returns-in_default
returns-in_default g c = written-where
    (has_arrow c.args.count c.args.anchor.now) (g.P.Pen.offered c.args.pen.now) _ (sym c.has_arrow.ensures ∙ c.if-not-has_arrow.false)
    (offered_as _ (ap (arrow_to (arrow_class c.args.anchor.now) c.args.top c.args.band.now.foot c.args.count c.args.i)
    (sym c.in_default.ensures.none)) (sym (append-nil (g.P.Pen.offered c.args.pen.now))))
