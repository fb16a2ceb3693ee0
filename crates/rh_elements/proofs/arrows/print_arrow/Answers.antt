use Rattle.rh_elements.proofs.RowLemmas.{added}
use Rattle.rh_elements.proofs.WriteLemmas.{offered_last}
use Rattle.rh_elements.proofs.arrows.print_arrow.Goals as goal

pub returns : goal.returns
returns g c =
    let offered = g.P.Pen.offered in
    added (offered c.args.pen.now) _ _ c.print_path.ensures
    (added (offered c.print_path.new.pen) _ _ c.print_path-2.ensures
    (added (offered c.print_path-2.new.pen) _ _ c.print_path-3.ensures (offered_last _ _ c.print_path-4.ensures)))
