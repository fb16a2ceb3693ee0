-- The pieces of an area as rectangles in the rows of its pages. Read Layout of rh_figure and Markup first.
-- p is a piece, k a page of the area or an anchor, low the lowest page of those whose rows stand together with that of
-- page k, n a size, y units from above.
-- `-` of naturals stops at 0: a piece that begins below a page has its first byte there at 0 (*low_in*).
use Rattle.std.specs.Prelude.{ℕ, ◌+◌, ◌-◌, ◌*◌, ◌/◌, ◌==◌, nat_le, nat_lt, max, min, ◌&&◌, ◌||◌, not, Bool, true, false, if◌then◌else◌, List, [], ◌∷◌, ◌++◌, length, codes}
use Rattle.std.specs.List.{concat, flat_map}
use Rattle.std.specs.Fmt.{decimal}
use Rattle.rh_defs.specs.Pieces.{page_size}
use Rattle.rh_defs.specs.Text.{address}
use Rattle.rh_figure.specs.Phrases.{Text, where_so, size_text}
use Rattle.rh_figure.specs.declared.piece.Kind.{Kind}
use Rattle.rh_figure.specs.declared.piece.Kind.TheVariants.{AnchorWords, Descriptor, Claimed, Posted, FreeHole, MoreSegments, FreeTop, FlexBlock, Unused}
use Rattle.rh_figure.specs.declared.piece.Piece.{Piece}
use Rattle.rh_sheet.specs.Markup.{Box, box_text, fresh_class, words_text}
use Rattle.rh_sheet.specs.declared.sizes.TheConstants.{UNIT_BYTES, LEFT, ROW_HEIGHT, BASELINE, LABEL_UNITS, LABEL_EDGE, SHORT_EDGE}

-- ---- words

-- the class of a kind of piece
abbrev pub kind_class : Kind → Text
kind_class AnchorWords = codes "anchors"
kind_class Descriptor = codes "head"
kind_class (Claimed n) = codes "used"
kind_class (Posted ref) = codes "used"
kind_class FreeHole = codes "hole"
kind_class (MoreSegments n) = codes "many"
kind_class FreeTop = codes "top"
kind_class (FlexBlock k n) = codes "flex"
kind_class Unused = codes "spare"

-- whether a piece has its owner's tint
abbrev pub is_tinted : Kind → Bool
is_tinted (Claimed n) = true
is_tinted (Posted ref) = true
is_tinted (FlexBlock k n) = true
is_tinted _ = false

-- what stands in a piece of so many bytes, where it has room
abbrev pub label_of : Kind → ℕ → Text
label_of AnchorWords size = []
label_of Descriptor size = []
label_of (Claimed n) size = size_text n
label_of (Posted ref) size = codes "message " ++ decimal ref
label_of FreeHole size = codes "hole of " ++ decimal size
label_of (MoreSegments n) size = decimal n ++ codes " more"
label_of FreeTop size = decimal size ++ codes " free"
label_of (FlexBlock k n) size = codes "anchor " ++ decimal k
label_of Unused size = decimal size ++ codes " unused"

-- what stands in it where it has less room
abbrev pub short_label_of : Kind → ℕ → Text
short_label_of (Claimed n) size = decimal n
short_label_of (Posted ref) size = decimal ref
short_label_of FreeHole size = decimal size
short_label_of (FlexBlock k n) size = decimal k
short_label_of _ size = []

-- a thing at an address, and its size
abbrev pub sized_at : Text → ℕ → ℕ → Text
sized_at what at n = concat (what ∷ address at ∷ codes ", " ∷ size_text n ∷ [])

-- what is told of a piece of so many bytes at an address
abbrev pub tip_of : Kind → ℕ → ℕ → Text
tip_of AnchorWords at size = codes "64 anchor words, " ++ address at
tip_of Descriptor at size = codes "heap descriptor, " ++ address at
tip_of (Claimed n) at size = sized_at (codes "used ") (at + 4) n
tip_of (Posted ref) at size =
    sized_at (concat (codes "message " ∷ decimal ref ∷ codes ", " ∷ [])) (at + 4) (size - 4)
tip_of FreeHole at size = sized_at (codes "hole ") at size
tip_of (MoreSegments n) at size = decimal n ++ codes " more"
tip_of FreeTop at size = codes "free, " ++ address at
tip_of (FlexBlock k n) at size =
    sized_at (concat (codes "flex block " ∷ decimal k ∷ codes ", " ∷ [])) (at + 8) n
tip_of Unused at size = codes "unused, " ++ address at

-- ---- rows

-- the first byte of page k that a piece has, from the page's first one
abbrev pub low_in : ℕ → Piece → ℕ
low_in k p = p.at - page_size * k

-- the first byte of page k behind a piece
abbrev pub high_in : ℕ → Piece → ℕ
high_in k p = min (p.at + p.size - page_size * k) page_size

-- how wide a piece is in the row of page k, and how far from the row's left end it begins
abbrev pub piece_width : ℕ → Piece → ℕ
piece_width k p = (high_in k p - low_in k p) / UNIT_BYTES

abbrev pub piece_x : ℕ → Piece → ℕ
piece_x k p = low_in k p / UNIT_BYTES

-- whether a text has room in so many units, with an edge
abbrev pub has_room : ℕ → Text → ℕ → Bool
has_room edge t width = nat_le (LABEL_UNITS * length t + edge) width

-- the label that has room in a part of a piece of so many units; the short one stands where the part is all of it
abbrev pub fitting : Kind → ℕ → ℕ → Text
fitting kind size width =
    if has_room LABEL_EDGE (label_of kind size) width then label_of kind size
    else where_so (UNIT_BYTES * width == size && has_room SHORT_EDGE (short_label_of kind size) width)
    (short_label_of kind size)

-- the classes of a piece: its kind, its owner's tint, and whether it has changed
abbrev pub piece_classes : Text → Kind → Bool → Text
piece_classes tint kind fresh =
    concat (kind_class kind ∷ where_so (is_tinted kind) (codes " " ++ tint) ∷ fresh_class fresh ∷ [])

-- the rectangle of a piece in the row of page k, of an area that begins at an address
abbrev pub piece_box : ℕ → Text → ℕ → ℕ → Piece → Box
piece_box start tint y k p = record {
  class = piece_classes tint p.kind p.fresh;
  x = LEFT + piece_x k p;
  y = y;
  width = piece_width k p;
  height = ROW_HEIGHT;
  tip = tip_of p.kind (start + p.at) p.size;
}

-- the lowest page from page low on in which a piece has bytes
abbrev pub first_page : ℕ → Piece → ℕ
first_page low p = max low (p.at / page_size)

-- Whether a row below that of page k has the label of a piece: the lowest one, or the next one, which it fills, where it
-- goes on above that.
abbrev pub is_labelled_below : ℕ → ℕ → Piece → Bool
is_labelled_below low k p =
    nat_lt (first_page low p) k
    && (nat_lt (first_page low p + 1) k
    || has_room LABEL_EDGE (label_of p.kind p.size) (piece_width (first_page low p) p))

-- the label of a piece in the row of page k, where no row below has it
abbrev pub piece_label : ℕ → ℕ → ℕ → Piece → Text
piece_label y low k p = words_text
    (codes "lab " ++ kind_class p.kind) (LEFT + piece_x k p + piece_width k p / 2) (y + BASELINE)
    (where_so (not (is_labelled_below low k p)) (fitting p.kind p.size (piece_width k p)))

-- a piece in the row of page k, if it has bytes there
abbrev pub piece_text : ℕ → Text → ℕ → ℕ → ℕ → Piece → Text
piece_text start tint y low k p =
    where_so (nat_lt (low_in k p) (high_in k p)) (box_text (piece_box start tint y k p) ++ piece_label y low k p)

-- all pieces that have bytes in page k
abbrev pub pieces_text : ℕ → Text → ℕ → ℕ → ℕ → List Piece → Text
pieces_text start tint y low k pieces = flat_map (piece_text start tint y low k) pieces
