use Rattle.std.proofs.Common.{◌≡◌, ◌+◌, ap, ap₂, arith}
use Rattle.std.specs.Prelude.{codes}
use Rattle.rh_elements.proofs.RowLemmas.{added}
use Rattle.rh_elements.proofs.WriteLemmas.{offered_as, offered_last}
use Rattle.rh_sheet.specs.Markup.{words_text}
use Rattle.rh_lens.specs.LensParts.{part_line_text}
use Rattle.rh_lens.proofs.parts.print_lines.Goals as goal

pub returns : goal.returns
returns g c =
    let x = c.args.x in
    let y = c.args.y in
    let same : y + 14 ≡ y + 14 + 0 = omega arith in
    let first : words_text (codes "name") (x + 3) (y + 14) c.as_slice.result.now
    ≡ part_line_text (codes "name") 0 x y c.args.words.now.first =
    ap₂ (λ n t. words_text (codes "name") (x + 3) n t) same c.as_slice.ensures in
    added (g.P.Pen.offered c.args.pen.now) _ _ (offered_as _ first c.print_words.ensures)
    (added (g.P.Pen.offered c.print_words.new.pen) _ _
    (offered_as _ (ap (part_line_text (codes "told") 1 x y) c.as_slice-2.ensures) c.print_words-2.ensures)
    (offered_last (g.P.Pen.offered c.print_words-2.new.pen) _
    (offered_as _ (ap (part_line_text (codes "told") 2 x y) c.as_slice-3.ensures) c.print_words-3.ensures)))
