-- Where the parts of an area's figure stand: cards above, rows of pages, cards below. f is a frame, n a number of pages
-- or cards, i a row, counted from below, k a page of the area. `-` of naturals doesn't have to stop for rows that are
-- shown.
use Rattle.std.specs.Prelude.{ℕ, ◌+◌, ◌-◌, ◌*◌, ◌/◌, ◌==◌, nat_le, nat_lt, min, ◌||◌, if◌then◌else◌, Option, Some, None}
use Rattle.rh_figure.specs.declared.limits.TheConstants.{MOST_ROWS, EDGE_ROWS, MOST_CARDS}
pub use Rattle.rh_sheet.specs.declared.frame.Frame.{Frame}
use Rattle.rh_sheet.specs.declared.sizes.TheConstants.{ROW_PITCH, CARD_RISE, CARDS_ACROSS, LENS_HEIGHT, ROW_GAP, FRAME_EDGE}

-- ---- which pages have a row

-- so many rows show an area of n pages
abbrev pub shown_rows : ℕ → ℕ
shown_rows n = min n MOST_ROWS

-- the page in row i from below of n pages; the row between the ends of a long area has none
abbrev pub page_in : ℕ → ℕ → Option ℕ
page_in n i =
    if nat_le n MOST_ROWS || nat_lt i EDGE_ROWS then Some i
    else if i == EDGE_ROWS then None
    else Some (n + i - MOST_ROWS)

-- the lowest page of those whose rows stand together with row i from below of n pages
abbrev pub first_beside : ℕ → ℕ → ℕ
first_beside n i = if nat_le n MOST_ROWS || nat_lt i EDGE_ROWS then 0 else n - EDGE_ROWS

-- the row of page k of n pages, where it has one
abbrev pub frame_row : ℕ → ℕ → Option ℕ
frame_row n k =
    if nat_le n MOST_ROWS || nat_lt k EDGE_ROWS then Some k
    else if nat_le n (k + EDGE_ROWS) then Some (k + MOST_ROWS - n)
    else None

-- ---- heights

-- the height of n cards with what leads to them
abbrev pub band_height : ℕ → ℕ
band_height n =
    if n == 0 then 0 else CARD_RISE * ((min n MOST_CARDS + (CARDS_ACROSS - 1)) / CARDS_ACROSS) + LENS_HEIGHT

-- where the rows begin
abbrev pub rows_top : Frame → ℕ
rows_top f = band_height f.above

-- where the rows end
abbrev pub rows_foot : Frame → ℕ
rows_foot f = rows_top f + ROW_PITCH * shown_rows f.pages

-- the height of the figure
abbrev pub frame_height : Frame → ℕ
frame_height f = rows_foot f + band_height f.below + FRAME_EDGE

-- the upper edge of row i from below
abbrev pub row_y : Frame → ℕ → ℕ
row_y f i = rows_top f + ROW_PITCH * (shown_rows f.pages - 1 - i) + ROW_GAP
