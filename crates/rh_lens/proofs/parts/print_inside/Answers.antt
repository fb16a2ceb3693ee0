use Rattle.std.proofs.Common.{◌≡◌, ◌+◌, ap, ap₂, sym, ◌∙◌}
use Rattle.rh_elements.proofs.RowLemmas.{added}
use Rattle.rh_elements.proofs.WriteLemmas.{offered_as, offered_last}
use Rattle.rh_figure.specs.Phrases.{where_so}
use Rattle.rh_figure.specs.declared.piece.Piece.{Piece}
use Rattle.rh_lens.specs.LensParts.{cells_text, head_text, part_lines_text}
use Rattle.rh_lens.specs.Widths.{has_cells, header_width}
use Rattle.rh_lens.proofs.parts.print_inside.Goals as goal

pub returns : goal.returns
returns g c i told =
    let x = c.args.x in
    let y = c.args.y in
    let head : c.header_width-head.result ≡ header_width i.piece.kind =
    c.header_width-head.ensures.value ∙ ap (λ (z : Piece). header_width z.kind) (sym told.piece) in
    added (g.P.Pen.offered c.args.pen.now) _ _ (offered_as _ (ap (head_text x y) head) c.print_head.ensures)
    (added (g.P.Pen.offered c.print_head.new.pen) _ _
    (offered_as _ (ap₂ (λ (z : Piece) h. where_so (has_cells c.args.spot.width i z.kind) (cells_text (x + h) y i.bytes)) (sym told.piece) head)
    (c.print_cells_inside.ensures i c.args.piece.now told))
    (offered_last (g.P.Pen.offered c.print_cells_inside.new.pen) _
    (offered_as _ (ap₂ (λ h l. part_lines_text (x + h) y l) head (c.item_words-words.ensures i told)) c.print_lines.ensures)))
