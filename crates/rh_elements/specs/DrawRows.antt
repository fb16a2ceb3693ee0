-- Areas by what is written of them.
use Rattle.rh_sheet.specs.SheetRows as rows
use Rattle.rh_elements.specs.declared.rows.Plot.{Plot}
use Rattle.rh_elements.specs.Tints.{tint_class}

abbrev pub plot_of : Plot → rows.Plot
plot_of g = record { start = g.start; pages = g.pages.now; pieces = g.pieces.now; tint = tint_class g.tint }
