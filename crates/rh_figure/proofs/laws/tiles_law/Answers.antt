use Rattle.rh_figure.proofs.Tiles.{always-tiled}
use Rattle.rh_figure.proofs.laws.tiles_law.Goals as goal

pub returns : goal.returns
returns c = always-tiled
