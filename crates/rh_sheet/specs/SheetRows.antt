-- The rows of an area: a page each, with its address and its number in the pool. Read Frames and SheetPieces first.
-- g is the area as it is drawn, f its frame, k a page of the area, low the lowest page of those whose rows stand together
-- with that of page k, i a row, counted from below, y units from above.
-- `-` of naturals doesn't have to stop: pages lie between the ends only of an area with more pages than both ends.
use Rattle.std.specs.Prelude.{ℕ, ◌+◌, ◌-◌, ◌*◌, ◌/◌, nat_lt, if◌then◌else◌, List, [], ◌∷◌, ◌++◌, length, slice_index, codes, Option, Some, None}
use Rattle.std.specs.List.{concat, flat_map, range_with_len}
use Rattle.std.specs.Fmt.{decimal}
use Rattle.rh_defs.specs.Pieces.{page_size}
use Rattle.rh_defs.specs.Text.{address}
use Rattle.rh_figure.specs.Phrases.{Text, pages_text}
use Rattle.rh_figure.specs.declared.piece.Piece.{Piece}
use Rattle.rh_figure.specs.declared.limits.TheConstants.{EDGE_ROWS}
use Rattle.rh_sheet.specs.Markup.{Box, box_text, words_text}
use Rattle.rh_sheet.specs.Frames.{Frame, first_beside, shown_rows, page_in, row_y}
use Rattle.rh_sheet.specs.SheetPieces.{pieces_text}
use Rattle.rh_sheet.specs.declared.sizes.TheConstants.{LEFT, ROW_WIDTH, ROW_HEIGHT, BASELINE, CHIP_LEFT, CHIP_WIDTH}

-- an area as it is drawn: its first address, the numbers of its pages from below, its pieces, and its owner's tint
pub record Plot : Type 0 where
  pub start : ℕ
  pub pages : List ℕ
  pub pieces : List Piece
  pub tint : Text

-- a rectangle as wide as a page
abbrev pub page_box : Text → ℕ → Box
page_box class y = record { class = class; x = LEFT; y = y; width = ROW_WIDTH; height = ROW_HEIGHT; tip = [] }

-- where the number of a page stands, in its owner's tint
abbrev pub chip_box : Text → ℕ → Box
chip_box tint y =
    record { class = codes "chip " ++ tint; x = CHIP_LEFT; y = y; width = CHIP_WIDTH; height = ROW_HEIGHT; tip = [] }

-- the number of a page in the pool
abbrev pub chip_text : Text → ℕ → ℕ → Text
chip_text tint y number =
    box_text (chip_box tint y) ++ words_text (codes "chipn") (CHIP_LEFT + CHIP_WIDTH / 2) (y + BASELINE) (decimal number)

-- a page that the area has, with all that lies in it
abbrev pub page_row_text : Plot → ℕ → ℕ → ℕ → Text
page_row_text g y low k = concat (
    chip_text g.tint y (slice_index g.pages k) ∷ box_text (page_box (codes "row") y)
    ∷ pieces_text g.start g.tint y low k g.pieces ∷ []
    )

-- a page by its address; one that was given back is an empty row
abbrev pub addressed_text : Plot → ℕ → ℕ → ℕ → Text
addressed_text g y low k =
    words_text (codes "addr") 0 (y + BASELINE) (address (g.start + page_size * k))
    ++ (if nat_lt k (length g.pages) then page_row_text g y low k else box_text (page_box (codes "gone") y))

-- the row that counts the pages between the ends of a long area of n pages
abbrev pub gap_text : ℕ → ℕ → Text
gap_text n y = words_text
    (codes "gap") (LEFT + ROW_WIDTH / 2) (y + BASELINE) (pages_text (n - 2 * EDGE_ROWS) ++ codes " between")

-- row i from below, of a page or of none
abbrev pub row_of : Frame → Plot → ℕ → Option ℕ → Text
row_of f g i None = gap_text f.pages (row_y f i)
row_of f g i (Some k) = addressed_text g (row_y f i) (first_beside f.pages i) k

abbrev pub row_text : Frame → Plot → ℕ → Text
row_text f g i = row_of f g i (page_in f.pages i)

-- all rows
abbrev pub rows_text : Frame → Plot → Text
rows_text f g = flat_map (row_text f g) (range_with_len 0 (shown_rows f.pages))
