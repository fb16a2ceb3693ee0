-- What is told of pieces by rows: of a piece, what the first row at its place has. p is a piece, r a row.
use Rattle.std.specs.Prelude.{ℕ, ◌==◌, List, take, Option, Some, None, find}
use Rattle.rh_figure.specs.declared.piece.Piece.{Piece}
use Rattle.rh_lens.specs.Items.{Item, Lines, bare}
use Rattle.rh_lens.specs.declared.sizes.TheConstants.{MOST_READ}
use Rattle.rh_map.specs.MapCards.{use_text}
pub use Rattle.lens_rows.specs.declared.told.Row.{Row}

abbrev pub front : List ℕ → List ℕ
front bytes = take MOST_READ bytes

abbrev pub lines_of_row : Row → Lines
lines_of_row r = record { first = front r.first.now; second = front r.second.now; third = front r.third.now }

abbrev pub item_of_row : Piece → Option Row → Item
item_of_row p None = bare p
item_of_row p (Some r) =
    record { piece = p; bytes = front r.bytes.now; used_by = use_text r.usage; message = lines_of_row r }

abbrev pub told_item : List Row → Piece → Item
told_item rows p = item_of_row p (find (λ (r : Row). r.at == p.at) rows)
