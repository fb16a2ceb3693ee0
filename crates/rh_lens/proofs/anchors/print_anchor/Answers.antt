use Rattle.std.proofs.Common.{◌++◌, ap, ap₂, ◌∙◌}
use Rattle.std.specs.Prelude.{codes}
use Rattle.std.specs.Fmt.{decimal}
use Rattle.rh_elements.proofs.WriteLemmas.{offered_as}
use Rattle.rh_figure.specs.Phrases.{Text}
use Rattle.rh_lens.specs.Anchors.{anchor_choices, anchor_x, anchor_y}
use Rattle.rh_lens.specs.Lens.{anchor_class, anchor_place_text}
use Rattle.rh_lens.proofs.anchors.print_anchor.Goals as goal

pub returns : goal.returns
returns g c =
    let a = c.args.anchor.now in
    let words = anchor_choices c.args.count a in
    let name : Text = codes "anchor" ++ decimal a.number in
    let key = c.as_slice.ensures
    ∙ (c.decimal.ensures.value ∙ ap (λ z. z ++ decimal a.number) (c.text.ensures ∙ ap (λ z. z ++ codes "anchor") c.new-key.ensures)) in
    let x = anchor_x c.args.i in
    let y = anchor_y c.args.top c.args.count c.args.i in
    offered_as _ (ap₂ (λ k class. anchor_place_text k class c.anchor_x-x.result c.anchor_y-y.result c.anchor_height.result words)
    key c.anchor_class.ensures.value
    ∙ (ap₂ (λ m n. anchor_place_text name (anchor_class a) m n c.anchor_height.result words) c.anchor_x-x.ensures.value
    c.anchor_y-y.ensures.value
    ∙ ap (λ h. anchor_place_text name (anchor_class a) x y h words) c.anchor_height.ensures.value))
    (c.print_place.ensures words c.anchor_words-words.ensures)
