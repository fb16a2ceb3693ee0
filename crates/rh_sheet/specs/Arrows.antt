-- The arrow of a slide: from where the lowest block that slid began to where it begins now. Read Slides and Frames
-- first. x and y are units from the left and from above, 0 at the beginning and 1 at the end of a way; r and s are
-- rows, f is the frame. In *block_place* `-` of naturals doesn't have to stop: a flex block's header lies beyond the
-- slot's start.
use Rattle.std.specs.Prelude.{ℕ, ◌+◌, ◌-◌, ◌*◌, ◌/◌, ◌%◌, ◌==◌, max, if◌then◌else◌, List, [], ◌∷◌, codes, Option, Some}
use Rattle.std.specs.List.{concat}
use Rattle.rh_defs.specs.Pieces.{page_size}
use Rattle.rh_defs.specs.Slot.{slot_start}
use Rattle.rh_figure.specs.Phrases.{Text}
use Rattle.rh_figure.specs.Changes.{Slide}
use Rattle.rh_sheet.specs.Markup.{path_text, point_text, stretch_text}
use Rattle.rh_sheet.specs.Frames.{Frame, frame_row, row_y}
use Rattle.rh_sheet.specs.declared.sizes.TheConstants.{UNIT_BYTES, LEFT, ROW_HEIGHT, HEADER_BYTES, GHOST_EDGE, GHOST_WIDTH, ARC_RISE, ARROW_INDENT, BOW}

-- the place in its slot at which a block with the address begins, with its header
abbrev pub block_place : ℕ → ℕ
block_place address = address - HEADER_BYTES - slot_start

-- how far from the left a place of an area is in its row
abbrev pub place_x : ℕ → ℕ
place_x place = LEFT + place % page_size / UNIT_BYTES

-- a dashed frame round the place where the block began, in a row at a height
abbrev pub ghost_way : ℕ → ℕ → Text
ghost_way x y = concat (
    point_text (codes "M") (x - GHOST_EDGE) (y - GHOST_EDGE) ∷ stretch_text (codes "h") GHOST_WIDTH
    ∷ stretch_text (codes "v") (ROW_HEIGHT + 2 * GHOST_EDGE) ∷ stretch_text (codes "h-") GHOST_WIDTH ∷ codes "z" ∷ []
    )

-- an arc above a row at a height
abbrev pub arc_way : ℕ → ℕ → ℕ → Text
arc_way x0 x1 y = concat (
    point_text (codes "M") (x0 + 2) y ∷ point_text (codes "C") (x0 + 2) (y - ARC_RISE)
    ∷ point_text (codes " ") (x1 + 2) (y - ARC_RISE) ∷ point_text (codes " ") (x1 + 2) y ∷ []
    )

-- a bow on the right from one row to another
abbrev pub bow_way : ℕ → ℕ → ℕ → ℕ → Text
bow_way x0 y0 x1 y1 = concat (
    point_text (codes "M") (x0 + ARROW_INDENT) y0 ∷ point_text (codes "C") (max x0 x1 + BOW) y0
    ∷ point_text (codes " ") (max x0 x1 + BOW) y1 ∷ point_text (codes " ") (x1 + ARROW_INDENT) y1 ∷ []
    )

-- from a place in row r to a place in row s
abbrev pub arrow_way : Frame → ℕ → ℕ → ℕ → ℕ → Text
arrow_way f r x0 s x1 =
    if r == s then arc_way x0 x1 (row_y f r - 2)
    else bow_way x0 (row_y f r + ROW_HEIGHT / 2) x1 (row_y f s + ROW_HEIGHT / 2)

-- the frame and the arrow, each with an edge that parts it from what lies below
abbrev pub arrow_text : Text → Text → Text
arrow_text ghost way = concat (
    path_text (codes "casing") ghost ∷ path_text (codes "ghost") ghost ∷ path_text (codes "casing") way
    ∷ path_text (codes "slide") way ∷ []
    )

-- the arrow between two places whose pages both have a row
abbrev pub arrow_between : Frame → ℕ → ℕ → Option ℕ → Option ℕ → Text
arrow_between f from to (Some r) (Some s) =
    arrow_text (ghost_way (place_x from) (row_y f r)) (arrow_way f r (place_x from) s (place_x to))
arrow_between f from to _ _ = []

-- the arrow of the first of some slides, which all are equally far
abbrev pub slide_arrow : Frame → List Slide → Text
slide_arrow f [] = []
slide_arrow f (s ∷ slides) = arrow_between
    f (block_place s.from) (block_place s.to)
    (frame_row f.pages (block_place s.from / page_size)) (frame_row f.pages (block_place s.to / page_size))
