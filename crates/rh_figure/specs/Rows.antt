-- Areas and the pool as rows of characters: a row is a page of an area, or 64 pages of the pool. Read Figure first.
-- t is a text, b a byte and bs those behind it, i the number of a row or a place, k the number of an area, h a handle.
-- `-` of naturals stops at 0: a text longer than its column gets no space before it (*to_right*).
use Rattle.std.specs.Prelude.{ℕ, zero, suc, ◌+◌, ◌-◌, ◌*◌, ◌/◌, ◌%◌, ◌==◌, nat_le, nat_lt, min, ◌&&◌, ◌||◌, Bool, true, false, if◌then◌else◌, List, [], ◌∷◌, ◌++◌, length, take, drop, map, filter, find, replicate, slice_index, codes, Option, Some, None}
use Rattle.std.specs.List.{range_with_len, position}
use Rattle.std.specs.Fmt.{decimal}
use Rattle.rh_defs.specs.declared.sizes.TheConstants.{FIXED_AREAS}
use Rattle.rh_defs.specs.Bytes.{space}
use Rattle.rh_defs.specs.Pieces.{page_size}
use Rattle.rh_defs.specs.Text.{address}
use Rattle.rh_figure.specs.Share.{Owner, AreaOf, SlotOf, is_owner}
use Rattle.rh_figure.specs.Phrases.{Text, pages_text}
use Rattle.rh_figure.specs.Layout.{Kind, AnchorWords, Descriptor, Claimed, Posted, FreeHole, MoreSegments, FreeTop, FlexBlock, Unused, Piece}
use Rattle.rh_figure.specs.Figure.{Drawing, Panel, Figure}
use Rattle.rh_figure.specs.declared.limits.TheConstants.{MAP_CELLS, CELL_BYTES, MOST_ROWS, EDGE_ROWS}

-- ---- rows

-- a text behind spaces, so that it ends in the column
abbrev pub to_right : ℕ → Text → Text
to_right n t = replicate (n - length t) space ++ t

abbrev pub before_spaces : ℕ → Text → Text
before_spaces b [] = if b == space then [] else b ∷ []
before_spaces b (c ∷ cs) = b ∷ c ∷ cs

-- a text without spaces at its end
abbrev pub trimmed : Text → Text
trimmed [] = []
trimmed (b ∷ bs) = before_spaces b (trimmed bs)

-- an address in 8 columns, a number in 4, and the cells
abbrev pub map_row : Text → Text → Text → Text
map_row at number cells = trimmed (to_right 8 at ++ codes " " ++ to_right 4 number ++ codes " |" ++ cells)

-- ---- owners

abbrev pub letters : Text
letters = codes "abcdefghijklmnopqrstuvwxyzABCDEF"

abbrev pub letter_at : Option ℕ → ℕ
letter_at None = 63
letter_at (Some i) = slice_index letters i

-- a slot has the letter of its place among the slots, one of areas 0 to 5 its digit, a made one M
abbrev pub owner_mark : List Panel → Owner → ℕ
owner_mark slots (AreaOf k) = if nat_lt k FIXED_AREAS then 48 + k else 77
owner_mark slots (SlotOf h) = letter_at (position (λ (p : Panel). is_owner p.owner (SlotOf h)) slots)

-- a free page is a dot
abbrev pub page_mark : List Panel → Option Owner → ℕ
page_mark slots None = 46
page_mark slots (Some o) = owner_mark slots o

-- row i of a text, with the place of its first byte
abbrev pub marks_row : Text → ℕ → Text
marks_row marks i = map_row [] (decimal (MAP_CELLS * i)) (take MAP_CELLS (drop (MAP_CELLS * i) marks))

-- the rows of a text
abbrev pub marks_rows : Text → List Text
marks_rows marks = map (marks_row marks) (range_with_len 0 ((length marks + (MAP_CELLS - 1)) / MAP_CELLS))

-- the pool is a text with a byte for each page
abbrev pub pool_rows : Figure → List Text
pool_rows f = marks_rows (map (page_mark f.slots) f.pool)

-- ---- the bytes of an area

-- the character of a piece; a flex block has the last digit of its anchor
abbrev pub kind_mark : Kind → ℕ
kind_mark AnchorWords = 58
kind_mark Descriptor = 61
kind_mark (Claimed n) = 35
kind_mark (Posted ref) = 35
kind_mark FreeHole = 45
kind_mark (MoreSegments n) = 37
kind_mark FreeTop = 46
kind_mark (FlexBlock k n) = 48 + k % 10
kind_mark Unused = space

abbrev pub is_block_kind : Kind → Bool
is_block_kind (Claimed n) = true
is_block_kind (Posted ref) = true
is_block_kind (FlexBlock k n) = true
is_block_kind _ = false

-- whether a block begins in a cell
abbrev pub begins_in : ℕ → Piece → Bool
begins_in at p = is_block_kind p.kind && nat_le at p.at && nat_lt p.at (at + CELL_BYTES)

-- whether a piece has the byte
abbrev pub has_byte : ℕ → Piece → Bool
has_byte at p = nat_le p.at at && nat_lt at (p.at + p.size)

abbrev pub mark_or_space : Option Piece → ℕ
mark_or_space None = space
mark_or_space (Some p) = kind_mark p.kind

-- the block that begins in the cell, a plus for several, and else what goes on there
abbrev pub cell_mark : List Piece → ℕ → ℕ
cell_mark pieces at = mark_of (filter (begins_in at) pieces)
  where
    mark_of : List Piece → ℕ
    mark_of [] = mark_or_space (find (has_byte at) pieces)
    mark_of (p ∷ []) = kind_mark p.kind
    mark_of (p ∷ q ∷ ps) = 43

-- the row of a page
abbrev pub page_row : Drawing → ℕ → Text
page_row g k = map_row
    (address (g.start + page_size * k))
    (decimal (slice_index g.pages k))
    (map (λ c. cell_mark g.pieces (page_size * k + CELL_BYTES * c)) (range_with_len 0 MAP_CELLS))

-- Row i from below of an area of n pages: its page i, or where there are too many the row that counts those between,
-- and above it the last pages.
abbrev pub area_row : Drawing → ℕ → ℕ → Text
area_row g n i =
    if nat_le n MOST_ROWS || nat_lt i EDGE_ROWS then page_row g i
    else if i == EDGE_ROWS then map_row [] [] (pages_text (n - 2 * EDGE_ROWS) ++ codes " between")
    else page_row g (n + i - MOST_ROWS)

-- rows, the highest first
abbrev pub rows_down : Drawing → ℕ → ℕ → List Text
rows_down g n zero = []
rows_down g n (suc i) = area_row g n i ∷ rows_down g n i

abbrev pub area_rows : Drawing → List Text
area_rows g = rows_down g (length g.pages) (min (length g.pages) MOST_ROWS)
