use Rattle.std.proofs.Common.{ap}
use Rattle.rh_sheet.specs.SheetCards.{card_text, low_card_y}
use Rattle.rh_elements.specs.DrawCards.{drawn_card}
use Rattle.rh_elements.proofs.WriteLemmas.{offered_as}
use Rattle.rh_elements.proofs.cards.print_low_card.Goals as goal

pub returns : goal.returns
returns g c =
    offered_as _
    (ap (λ x. card_text (drawn_card c.args.card.now) x (low_card_y c.args.y0 c.args.i)) c.card_x.ensures.value)
    c.print_card.ensures
