use Rattle.rh_pictures.proofs.Common.{◌++◌, ap, form_text, offered_as, refl, size_text, sym, ◌∙◌}
use Rattle.rh_figure.specs.Cards.{UsedCard}
use Rattle.rh_map.specs.MapCards.{use_text}
use Rattle.rh_pictures.proofs.BandLemmas.{card-same, front-bytes}
use Rattle.rh_pictures.proofs.sheet.bands.BandFormCardArtist.used_card.Goals as goal

pub returns : goal.returns
returns g c = λ bytes front.
    let b = c.args.block.now in
    let second = c.as_slice-2.ensures ∙ (c.block_size-size.ensures.value ∙ ap (λ n. size_text n ++ use_text b.usage) (sym front.whole)) in
    let third = c.as_slice-3.ensures ∙ (c.block_bytes-first.ensures.value ∙ front-bytes b.size _ bytes front) in
    offered_as _ (ap (λ z. form_text c.args.self.now (c.args.at, z))
    (card-same UsedCard (c.as_slice.ensures ∙ c.used_name-name.ensures.value) second third refl))
    c.put_card.ensures
