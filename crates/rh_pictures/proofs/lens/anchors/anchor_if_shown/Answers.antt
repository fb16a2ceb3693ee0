use Rattle.rh_pictures.proofs.Common.{◌≡◌, ◌∙◌, ◌==◌, ◌&&◌, None, ap, sym, not, if◌then◌else◌, scene_at}
use Rattle.rh_lens.specs.Anchors.{is_same_address}
use Rattle.rh_sheet.specs.Slides.{address_in}
use Rattle.rh_pictures.proofs.ShownAnchorLemmas.{AnchorSeen, among-none, among-some}
use Rattle.rh_pictures.proofs.lens.anchors.anchor_if_shown.Goals as goal

pub returns-then-not-is_shown : goal.returns-then-not-is_shown
returns-then-not-is_shown c = λ d t named blocks.
    let x = scene_at d c.args.step.now in
    let k = c.args.anchor in
    let seen : AnchorSeen x t k c.address_of-held.result c.address_before-before.result = record {
      now = c.address_of-held.ensures ∙ ap (address_in k) (sym blocks);
      then_was = c.address_before-before.ensures ∙ ap (λ h. if h == x.before.handle then address_in k x.before.blocks else None) (sym named);
    } in
    among-none x t k c.address_of-held.result c.address_before-before.result seen (sym c.is_shown.ensures ∙ c.if-not-is_shown.true)

pub returns : goal.returns
returns c = λ d t named blocks.
    let x = scene_at d c.args.step.now in
    let k = c.args.anchor in
    let held = c.address_of-held.result in
    let before = c.address_before-before.result in
    let seen : AnchorSeen x t k held before = record {
      now = c.address_of-held.ensures ∙ ap (address_in k) (sym blocks);
      then_was = c.address_before-before.ensures ∙ ap (λ h. if h == x.before.handle then address_in k x.before.blocks else None) (sym named);
    } in
    let moved = c.is_moved.ensures ∙ ap (λ h. h == x.before.handle && not (is_same_address before held)) (sym named) in
    among-some x t k c.from.result held before c.is_moved.result seen (sym c.is_shown.ensures ∙ c.if-not-is_shown.false)
    (c.from.ensures ∙ c.anchor.view_is) moved
