use Rattle.rh_map.proofs.Common.{◌++◌, ap, ◌∙◌, codes, shown_line}
use Rattle.rh_map.proofs.FillLemmas.{fills-shown}
use Rattle.rh_map.proofs.letterboxes.print_letterbox.Goals as goal

pub returns : goal.returns
returns g c =
    c.put_line.ensures
    ∙ ap (λ line. g.P.Pen.offered c.args.pen.now ++ (line ++ codes "\n"))
    (ap shown_line c.as_slice.ensures ∙ fills-shown c.letterbox_row-row.ensures)
