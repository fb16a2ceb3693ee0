use Rattle.rh_pictures.proofs.Common.{ap, form_text, offered_as, refl, ◌∙◌}
use Rattle.rh_figure.specs.Cards.{PostCard}
use Rattle.rh_pictures.proofs.BandLemmas.{card-same}
use Rattle.rh_pictures.proofs.sheet.bands.BandFormCardArtist.message_card.Goals as goal

pub returns : goal.returns
returns g c =
    let first = c.as_slice.ensures ∙ c.message_name-name.ensures.value in
    let second = c.as_slice-2.ensures ∙ c.message_way-way.ensures.value in
    let third = c.as_slice-3.ensures ∙ c.message_place-chain.ensures.value in
    offered_as _ (ap (λ z. form_text c.args.self.now (c.args.at, z)) (card-same PostCard first second third refl)) c.put_card.ensures
