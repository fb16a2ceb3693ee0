use Rattle.rh_pictures.proofs.Common.{◌≡◌, List, [], ◌∷◌, length, ap, sym, ◌∙◌, Some, flat_map, BlockItem, item_with_anchor, slide_of, summary_of, offered_as}
use Rattle.rh_pictures.specs.declared.walks.block_changes.Slid.{Slid}
use Rattle.rh_figure.specs.Changes.{Slide, slide_change, slide_line}
use Rattle.rh_pictures.proofs.ElementLemmas.{parts-one}
use Rattle.rh_pictures.proofs.walks.block_changes.show_slides.Goals as goal

-- blocks that slid, told by the lowest
slid-line : (slides : List Slide) (s : Slid) → Some s ≡ summary_of slides → slide_line s.count s.from s.to ∷ [] ≡ slide_change slides
slid-line [] s e = absurd (cc)
slid-line (first ∷ rest) s e =
    let k : s ≡ (record { count = length (first ∷ rest); from = first.from; to = first.to }) = cc in
    ap (λ (z : Slid). slide_line z.count z.from z.to ∷ []) k

pub returns-in-Some : goal.returns-in-Some
returns-in-Some g c =
    let slides = flat_map (λ (b : BlockItem). slide_of b (item_with_anchor b.anchor c.args.kept.now.blocks)) c.args.blocks.now in
    let slid = c.in-Some.slid in
    let element = g.A.Artist.change_text in
    offered_as _ (ap element c.blocks_slide.ensures.value
    ∙ (sym (parts-one element (slide_line slid.count slid.from slid.to))
    ∙ ap (flat_map element) (slid-line slides slid (sym c.in-Some.is ∙ c.find_slid.ensures)))) c.change.ensures
