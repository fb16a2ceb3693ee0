use Rattle.std.proofs.Common.{ap}
use Rattle.rh_elements.proofs.RowLemmas.{added}
use Rattle.rh_elements.proofs.WriteLemmas.{offered_as, offered_last}
use Rattle.rh_lens.specs.LensParts.{part_lines_text}
use Rattle.rh_lens.proofs.anchors.print_place.Goals as goal

pub returns : goal.returns
returns g c choices fitted =
    added (g.P.Pen.offered c.args.pen.now) _ _ c.print_group.ensures
    (added (g.P.Pen.offered c.print_group.new.pen) _ _ c.print_box.ensures
    (added (g.P.Pen.offered c.print_box.new.pen) _ _ (offered_as _ (ap (part_lines_text c.args.x c.args.y) fitted) c.print_lines.ensures)
    (offered_last (g.P.Pen.offered c.print_lines.new.pen) _ c.put.ensures)))
