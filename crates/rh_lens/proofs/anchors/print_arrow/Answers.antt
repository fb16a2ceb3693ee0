use Rattle.std.proofs.Common.{◌+◌, ◌-◌, ap, ap₂, ◌∙◌}
use Rattle.rh_elements.proofs.WriteLemmas.{offered_as}
use Rattle.rh_sheet.specs.Markup.{path_text}
use Rattle.rh_lens.specs.Anchors.{anchor_x, anchor_y}
use Rattle.rh_lens.specs.LensArrows.{bend, leading_way}
use Rattle.rh_lens.proofs.anchors.print_arrow.Goals as goal

pub returns : goal.returns
returns g c j =
    let left = c.args.spot.x + 14 in
    let x0 = anchor_x c.args.i in
    let y0 = anchor_y c.args.top c.args.count c.args.i in
    let below = c.bend.ensures.value
    ∙ ap bend (c.saturating_sub.ensures ∙ ap (λ y. y - c.args.foot) c.anchor_y-y0.ensures.value) in
    offered_as _ (ap (path_text c.args.class.now) (c.leading_way-way.ensures.value
    ∙ (ap₂ (λ x y. leading_way (x + 35) y left (c.spot_y.result + 51 + 3) c.bend.result) c.anchor_x.ensures.value c.anchor_y-y0.ensures.value
    ∙ ap₂ (λ y b. leading_way (x0 + 35) y0 left (y + 51 + 3) b) c.spot_y.ensures.value below))) c.print_path.ensures
