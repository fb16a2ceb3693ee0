-- What is written of lines and areas.
use Rattle.std.specs.Prelude.{ℕ, List, [], ◌++◌, codes}
use Rattle.std.specs.List.{flat_map}
use Rattle.rh_figure.specs.Phrases.{Text}
use Rattle.rh_figure.specs.declared.piece.Piece.{Piece}
use Rattle.rh_figure.specs.Figure.{Drawing}
use Rattle.rh_figure.specs.Map.{shown_line}

-- lines as they are written, each with its line feed
abbrev pub shown_lines : List Text → Text
shown_lines lines = flat_map (λ line. shown_line line ++ codes "\n") lines

-- an area with these pages and pieces, and no cards
abbrev pub area_of : ℕ → List ℕ → List Piece → Drawing
area_of start pages pieces = record { start = start; pages = pages; pieces = pieces; cards = [] }
