use Rattle.rh_pictures.proofs.TextPuts.{text_last, text_then}
use Rattle.rh_pictures.proofs.sheet.figure.print_memory.Goals as goal

pub returns : goal.returns
returns g c =
    text_then (g.P.Pen.offered c.args.pen.now) _ _ c.put.ensures
    (text_then (g.P.Pen.offered c.put.new.self) _ _ c.print_pool_figure.ensures
    (text_then (g.P.Pen.offered c.print_pool_figure.new.pen) _ _ c.show_areas.ensures
    (text_then (g.P.Pen.offered c.show_areas.new.pen) _ _ c.print_slots.ensures
    (text_then (g.P.Pen.offered c.print_slots.new.pen) _ _ c.print_module_part.ensures
    (text_last _ _ c.put-2.ensures)))))
