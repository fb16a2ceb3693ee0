-- Pieces of which something is told can be drawn.
use Rattle.std.proofs.Common.{List, [], ◌∷◌}
use Rattle.rh_elements.specs.DrawPieces.{AreDrawable}
use Rattle.rh_figure.specs.declared.piece.Piece.{Piece}
use Rattle.rh_lens.specs.PlacedSpots.{AreTellable}

pub drawable : (has_piece : Piece → Type 0) (ps : List Piece) → AreTellable has_piece ps → AreDrawable ps
drawable has_piece [] all = tt
drawable has_piece (p ∷ ps) all = (all.0.1, drawable has_piece ps all.1)
