use Rattle.rh_pictures.proofs.Common.{ℕ, ap, ◌+◌, ◌∙◌, codes, Text, figure_open, offered_as}
use Rattle.rh_sheet.specs.Pool.{pool_height}
use Rattle.rh_sheet.specs.declared.sizes.TheConstants.{FIGURE_WIDTH, FRAME_EDGE}
use Rattle.rh_pictures.proofs.TextPuts.{text_last, text_then}
use Rattle.rh_pictures.proofs.sheet.pool.print_pool_figure.Goals as goal

-- the beginning of a figure of squares that are so high
abbrev opening : ℕ → Text
opening n = figure_open FIGURE_WIDTH (n + FRAME_EDGE) (codes "The pool of pages")

pub returns : goal.returns
returns g c =
    let high = ap opening (c.pool_height-height.ensures.value ∙ ap pool_height c.requires.all) in
    text_then (g.P.Pen.offered c.args.pen.now) _ _ (offered_as _ high c.print_figure_open.ensures)
    (text_then (g.P.Pen.offered c.print_figure_open.new.pen) _ _ c.print_description.ensures
    (text_then (g.P.Pen.offered c.print_description.new.pen) _ _ c.print_described.ensures
    (text_then (g.P.Pen.offered c.print_described.new.pen) _ _ c.print_body.ensures
    (text_last _ _ c.print_figure_end.ensures))))
