use Rattle.std.proofs.Common.{ap, ◌∙◌}
use Rattle.rh_sheet.specs.SheetCards.{card_text, card_x}
use Rattle.rh_elements.specs.DrawCards.{drawn_card}
use Rattle.rh_elements.proofs.WriteLemmas.{offered_as}
use Rattle.rh_elements.proofs.cards.print_high_card.Goals as goal

pub returns : goal.returns
returns g c =
    let card = drawn_card c.args.card.now in
    offered_as _
    (ap (λ x. card_text card x c.high_card_y.result) c.card_x.ensures.value
    ∙ ap (λ y. card_text card (card_x c.args.i) y) c.high_card_y.ensures.value)
    c.print_card.ensures
