use Rattle.rh_pictures.proofs.Common.{[], ◌∷◌, ap, ap₂, sym, ◌∙◌, figure, shown_lines, scene_at, offered_as}
use Rattle.rh_figure.specs.Map.{pool_heading, pool_line}
use Rattle.rh_figure.specs.Rows.{marks_rows, pool_rows}
use Rattle.rh_pictures.proofs.FigureLemmas.{pool-heading, pool-rows}
use Rattle.rh_pictures.proofs.PlaceLemmas.{lines_then, offered_line}
use Rattle.rh_pictures.proofs.map.pool.print_pool_part.Goals as goal

pub returns : goal.returns
returns g c =
    let x = scene_at (g.S.Sight.desk c.args.sight.now) c.args.step.now in
    lines_then _ (pool_heading (figure x) ∷ []) (pool_rows (figure x))
    (offered_line _ (ap₂ pool_line c.free_pages.ensures c.requires.all ∙ sym (pool-heading x)) c.print_pool_heading.ensures)
    (offered_as _ (ap (λ z. shown_lines (marks_rows z)) c.mark_pool.ensures ∙ ap shown_lines (sym (pool-rows x))) c.print_pool.ensures)
