-- The sides of a transfer as a figure has them.
use Rattle.rh_figure.specs.Figure.{Side}
use Rattle.rh_map.specs.declared.transfers.Side as transfers

abbrev pub side_of : transfers.Side → Side
side_of s = (s.name.now, s.record)
