-- What opens the definitions of a map, for a proof that computes with them. Nothing here is to be believed.
use Rattle.rh_defs.specs.Inner.Computing.{computing_script}
use Rattle.rh_figure.specs.Figure.{figure}

-- opens all that a map computes with
unfoldable pub computing_map : Unit {0}
unfolding computing_script figure
computing_map = tt
