use Rattle.std.proofs.Common.{◌+◌, ◌++◌, [], ◌∷◌, ap, ◌∙◌}
use Rattle.std.specs.Prelude.{codes}
use Rattle.hex.specs.Hex.{encode_lower}
use Rattle.rh_elements.proofs.RowLemmas.{added}
use Rattle.rh_elements.proofs.WriteLemmas.{offered_as, offered_last}
use Rattle.rh_sheet.specs.Markup.{words_text}
use Rattle.rh_lens.proofs.parts.print_byte.Goals as goal

pub returns : goal.returns
returns g c =
    let x = c.args.x + 11 in
    let digits = c.as_slice.ensures
    ∙ (c.hex_digits.ensures ∙ ap (λ z. z ++ encode_lower (c.args.byte ∷ [])) c.new-digits.ensures) in
    added (g.P.Pen.offered c.args.pen.now) _ _ c.print_box.ensures
    (added (g.P.Pen.offered c.print_box.new.pen) _ _
    (offered_as _ (ap (words_text (codes "digits") x (c.args.y + 30)) digits) c.print_words.ensures)
    (offered_last (g.P.Pen.offered c.print_words.new.pen) _
    (offered_as _ (ap (words_text (codes "letter") x (c.args.y + 45)) c.cell_letter.ensures) c.print_words-2.ensures)))
