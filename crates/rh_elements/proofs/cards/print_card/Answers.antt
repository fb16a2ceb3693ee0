use Rattle.rh_elements.proofs.RowLemmas.{added}
use Rattle.rh_elements.proofs.WriteLemmas.{offered_last}
use Rattle.rh_elements.proofs.cards.print_card.Goals as goal

pub returns : goal.returns
returns g c =
    let offered = g.P.Pen.offered in
    added (offered c.args.pen.now) _ _ c.print_card_box.ensures
    (added (offered c.print_card_box.new.pen) _ _ c.print_card_line.ensures
    (added (offered c.print_card_line.new.pen) _ _ c.print_card_line-2.ensures (offered_last _ _ c.print_card_line-3.ensures)))
