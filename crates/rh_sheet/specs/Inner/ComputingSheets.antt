-- What opens the definitions of a sheet, for a proof that computes with them. Nothing here is to be believed.
use Rattle.rh_figure.specs.Inner.ComputingMaps.{computing_map}
use Rattle.rh_sheet.specs.SheetSteps.{figure_text}

-- opens all that a sheet computes with
unfoldable pub computing_sheet : Unit {0}
unfolding computing_map figure_text
computing_sheet = tt
