use Rattle.rh_pictures.proofs.Common.{ℕ, List, [], ◌∷◌, length, take, ap, ap₂, refl, sym, ◌∙◌, arith, find, length-take, flex_start, IsTaskSeen, scene_at}
use Rattle.rh_pictures.proofs.Common.{offered_as}
use Rattle.rh_pictures.proofs.DrawingLemmas.{seen-same}
use Rattle.rh_defs.specs.Records.{is_document, is_source}
use Rattle.rh_figure.specs.Cards.{flex_card, in_use_text, out_use_text}
use Rattle.rh_figure.specs.Layout.{is_fresh_flex}
use Rattle.rh_pictures.proofs.CardLemmas.{flex-here, front-is, item-block}
use Rattle.rh_pictures.proofs.walks.flex_cards.show_flex.Goals as goal

pub read_block-requires : goal.read_block-requires
read_block-requires g c =
    let r = c.requires.block in
    let zeros : List ℕ = (0 ∷ 0 ∷ 0 ∷ 0 ∷ 0 ∷ 0 ∷ 0 ∷ []) in
    let b = item-block (flex_start r.0.slot) r.0.slot.blocks r.1 c.args.block.now r.4 in (
      b.block.bytes,
      record { task = r.0; is = r.2; place = r.1; listed = r.4; block = b.block; stands = b.stands; bytes_are = refl },
      omega (arith, b.size, c.front_length.ensures, length-take c.front_length.result zeros),
    )

pub returns : goal.returns
returns g c = λ t k card e listed shown.
    let d = g.S.Sight.desk c.args.sight.now in
    let x = scene_at d c.args.step.now in
    let r = c.requires.block in
    let b = c.args.block.now in
    let zeros : List ℕ = (0 ∷ 0 ∷ 0 ∷ 0 ∷ 0 ∷ 0 ∷ 0 ∷ []) in
    let n = c.front_length.result in
    let here = flex-here x t (flex_start t.slot) t.slot.blocks k b card listed shown in
    let bytes = here.block.bytes in
    let seen = seen-same (IsTaskSeen c.args.task.now) d.tasks c.args.i r.0 t r.2 e r.3 in
    let first = front-is b.size (length (take n zeros)) bytes here.size (omega (arith, c.front_length.ensures, length-take n zeros))
    ∙ sym (c.read_block.ensures bytes (record { task = t; is = e; place = k; listed = listed; block = here.block; stands = here.stands; bytes_are = refl })) in
    let fresh = c.is_fresh_flex.ensures d ∙ ap (λ h. is_fresh_flex x h b.anchor b.size) seen.handle in
    let used = c.use_of_block.ensures ∙ ap₂ (λ out in_. out_use_text (find (is_source b.anchor) out) (in_use_text (find
    (is_document b.anchor) in_))) seen.sending seen.taking in
    let text = g.A.CardArtist.card_text c.args.artist.now in
    offered_as _ (ap (λ z. text (c.args.at, z)) (ap₂ (flex_card b.address b.anchor bytes) used fresh ∙ sym here.card_is))
    (c.flex_card.ensures bytes (record { whole = here.size; first = first }))
