use Rattle.rh_pictures.proofs.Common.{ap₂, offered_as}
use Rattle.rh_sheet.specs.Pool.{pool_side}
use Rattle.rh_pictures.proofs.TextPuts.{text_last, text_then}
use Rattle.rh_pictures.proofs.sheet.pool.print_body.Goals as goal

pub returns : goal.returns
returns g c =
    let offered = g.P.Pen.offered in
    let side = offered_as _ (ap₂ pool_side c.free_pages.ensures c.requires.all) c.print_pool_side.ensures in
    text_then (offered c.args.pen.now) _ _ c.print_all_squares.ensures
    (text_then (offered c.print_all_squares.new.pen) _ _ c.print_freed_squares.ensures
    (text_then (offered c.print_freed_squares.new.pen) _ _ c.put.ensures
    (text_then (offered c.put.new.self) _ _ c.print_all_tags.ensures (text_last _ _ side))))
