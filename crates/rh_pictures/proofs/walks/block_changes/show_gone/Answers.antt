use Rattle.rh_pictures.proofs.Common.{◌≡◌, ◌+◌, ◌++◌, Bool, true, false, List, [], ◌∷◌, ap, sym, refl, ◌∙◌, get_or, take, filter, map, map-append}
use Rattle.rh_pictures.proofs.Common.{not, if◌then◌else◌, flat_map, flat_map-append, BlockItem, Text, gone_line, has_anchor, offered_as}
use Rattle.std.proofs.lemmas.List.Elements.{filter_more}
use Rattle.rh_pictures.proofs.TextPuts.{text_then}
use Rattle.rh_pictures.proofs.walks.block_changes.show_gone.Goals as goal

abbrev gone : BlockItem → Text
gone b = gone_line b.anchor

abbrev lost : List BlockItem → BlockItem → Bool
lost now b = not (has_anchor b.anchor now)

-- the line of one block
gone-one : (now : List BlockItem) (b : BlockItem) → (if has_anchor b.anchor now then [] else gone b ∷ []) ≡ map gone (filter (lost now) (b ∷ []))
gone-one now b = by (has_anchor b.anchor now)
  where
    by : (t : Bool) → (if t then [] else gone b ∷ []) ≡ map gone (if not t then b ∷ [] else [])
    by true = refl
    by false = refl

pub loop-block-preserved : goal.loop-block-preserved
loop-block-preserved g c =
    let element = g.A.Artist.change_text in
    let now = c.args.now.now in
    let before = c.args.before.now in
    let i = c.loop-block.block-index in
    let b = c.block-item.result in
    let so_far = map gone (filter (lost now) (take i before)) in
    let next = map gone (filter (lost now) (get_or before i b ∷ [])) in
    let more : map gone (filter (lost now) (take (i + 1) before)) ≡ so_far ++ next =
    ap (map gone) (filter_more (lost now) before i b c.loop-block-test.true) ∙ map-append gone (filter (lost now) (take i before))
    (filter (lost now) (get_or before i b ∷ [])) in
    offered_as _
    (ap (λ ls. flat_map element so_far ++ flat_map element ls) (gone-one now b ∙ ap (λ z. map gone (filter (lost now) (z ∷ []))) c.block-item.is)
    ∙ (sym (flat_map-append element so_far next) ∙ ap (flat_map element) (sym more)))
    (text_then _ _ _ c.loop-block.invariant c.show_if_gone.ensures)
