-- Pieces that can be drawn: their places and sizes are those of an area.
use Rattle.std.specs.Prelude.{◌+◌, ◌^◌, ◌≤◌, List}
use Rattle.std.specs.List.{AllByRecursion}
use Rattle.rh_figure.specs.declared.piece.Piece.{Piece}

-- a piece ends within the 1 GiB that an area may have
abbrev pub IsDrawable : Piece → Type 0
IsDrawable p = p.at + p.size ≤ 2 ^ 30

abbrev pub AreDrawable : List Piece → Type 0
AreDrawable pieces = AllByRecursion IsDrawable pieces
