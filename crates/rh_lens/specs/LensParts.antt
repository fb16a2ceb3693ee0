-- A part as it is drawn: its rectangle and header, its words, and cells for the bytes of a small block. Read LensSpots,
-- PartWords and Markup of rh_sheet first. start is the area's first address, p a spot, x and y its upper left corner.
-- `-` of naturals doesn't have to stop: a broken part is wider than its mark is far from its end, and a part higher
-- than its first line.
use Rattle.std.specs.Prelude.{ℕ, ◌+◌, ◌-◌, ◌*◌, nat_lt, ◌&&◌, Bool, if◌then◌else◌, List, [], ◌∷◌, ◌++◌, codes}
use Rattle.std.specs.List.{concat, flat_map}
use Rattle.std.specs.Fmt.{decimal}
use Rattle.hex.specs.Hex.{encode_lower}
use Rattle.rh_defs.specs.Bytes.{space}
use Rattle.rh_figure.specs.Phrases.{Text, where_so}
use Rattle.rh_figure.specs.declared.piece.Kind.{Kind}
use Rattle.rh_figure.specs.declared.piece.Kind.TheVariants.{AnchorWords, Descriptor, Claimed, Posted, FreeHole, MoreSegments, FreeTop, FlexBlock, Unused}
use Rattle.rh_sheet.specs.Markup.{Box, box_text, words_text, path_text, point_text, text_attribute}
use Rattle.rh_sheet.specs.SheetPieces.{piece_classes, tip_of}
use Rattle.rh_lens.specs.Widths.{has_cells, header_width, is_broken}
use Rattle.rh_lens.specs.LensSpots.{PartSpot, spot_y}
use Rattle.rh_lens.specs.Items.{Item, Lines}
use Rattle.rh_lens.specs.PartWords.{item_words}
use Rattle.rh_lens.specs.declared.sizes.TheConstants.{PART, BYTE, FIRST_LINE, LINE, LINE_EDGE, BREAK_EDGE, BREAK_LEAN, BREAK_GAP, CELL_TOP, CELL_DIGITS}
use Rattle.rh_lens.specs.declared.sizes.TheConstants.{CELL_LETTER, CELL_MIDDLE}

-- ---- names by which two pictures are compared

abbrev pub key_of : Kind → ℕ → Text
key_of AnchorWords at = codes "anchors"
key_of Descriptor at = codes "descriptor"
key_of (Claimed n) at = codes "used" ++ decimal at
key_of (Posted ref) at = codes "message" ++ decimal ref
key_of FreeHole at = codes "hole" ++ decimal at
key_of (MoreSegments n) at = codes "more"
key_of FreeTop at = codes "top"
key_of (FlexBlock k n) at = codes "flex" ++ decimal k
key_of Unused at = codes "unused"

-- the beginning of a part with a name
abbrev pub group_text : Text → Text
group_text key = concat (codes "<g" ∷ text_attribute (codes "data-key") key ∷ codes ">\n" ∷ [])

-- ---- bytes in cells

-- a byte that has a sign of its own, else a point
abbrev pub cell_letter : ℕ → Text
cell_letter b = if nat_lt space b && nat_lt b 127 then b ∷ [] else codes "."

-- a cell stands below the first line of its part
abbrev pub byte_box : ℕ → ℕ → Box
byte_box x y = record { class = codes "byte"; x = x; y = y; width = BYTE; height = PART - CELL_TOP; tip = [] }

abbrev pub byte_text : ℕ → ℕ → ℕ → Text
byte_text x y byte = concat (
    box_text (byte_box x (y + CELL_TOP))
    ∷ words_text (codes "digits") (x + CELL_MIDDLE) (y + CELL_DIGITS) (encode_lower (byte ∷ []))
    ∷ words_text (codes "letter") (x + CELL_MIDDLE) (y + CELL_LETTER) (cell_letter byte) ∷ []
    )

-- a cell for each byte
abbrev pub cells_text : ℕ → ℕ → List ℕ → Text
cells_text x y [] = []
cells_text x y (byte ∷ bytes) = byte_text x y byte ++ cells_text (x + BYTE) y bytes

-- ---- a part

abbrev pub part_box : ℕ → Text → ℕ → ℕ → PartSpot → Box
part_box start tint x y p = record {
  class = codes "part " ++ piece_classes tint p.item.piece.kind p.item.piece.fresh;
  x = x;
  y = y;
  width = p.width;
  height = PART;
  tip = tip_of p.item.piece.kind (start + p.item.piece.at) p.item.piece.size;
}

-- the header of a block, if it has one
abbrev pub head_box : ℕ → ℕ → ℕ → Box
head_box x y head = record { class = codes "word"; x = x; y = y; width = head; height = PART; tip = [] }

abbrev pub head_text : ℕ → ℕ → ℕ → Text
head_text x y head = where_so (nat_lt 0 head) (box_text (head_box x y head))

-- two slanted strokes near the right end of a part that is broken
abbrev pub break_text : ℕ → ℕ → Text
break_text right y = path_text (codes "break") (concat (
    point_text (codes "M") (right - BREAK_EDGE) (y + PART) ∷ point_text (codes "L") (right - BREAK_EDGE + BREAK_LEAN) y
    ∷ point_text (codes "M") (right - BREAK_EDGE + BREAK_GAP) (y + PART)
    ∷ point_text (codes "L") (right - BREAK_EDGE + BREAK_GAP + BREAK_LEAN) y ∷ []
    ))

-- line i of a part's words
abbrev pub part_line_text : Text → ℕ → ℕ → ℕ → Text → Text
part_line_text class i x y t = words_text class (x + LINE_EDGE) (y + FIRST_LINE + LINE * i) t

abbrev pub part_lines_text : ℕ → ℕ → Lines → Text
part_lines_text x y l = concat (
    part_line_text (codes "name") 0 x y l.first ∷ part_line_text (codes "told") 1 x y l.second
    ∷ part_line_text (codes "told") 2 x y l.third ∷ []
    )

-- what stands in a part that is broken or not
abbrev pub inside_text : ℕ → Bool → ℕ → ℕ → PartSpot → Text
inside_text start broken x y p = concat (
    head_text x y (header_width p.item.piece.kind)
    ∷ where_so (has_cells p.width p.item p.item.piece.kind) (cells_text (x + header_width p.item.piece.kind) y p.item.bytes)
    ∷ part_lines_text (x + header_width p.item.piece.kind) y (item_words start broken p.width p.item) ∷ []
    )

abbrev pub is_broken_spot : ℕ → ℕ → PartSpot → Bool
is_broken_spot r s p = is_broken r s p.item p.item.piece.kind p.item.piece.size

-- a part in a row of r units at scale s
abbrev pub part_text : ℕ → Text → ℕ → ℕ → ℕ → ℕ → PartSpot → Text
part_text start tint r s x y p = concat (
    group_text (key_of p.item.piece.kind (start + p.item.piece.at)) ∷ box_text (part_box start tint x y p)
    ∷ inside_text start (is_broken_spot r s p) x y p
    ∷ where_so (is_broken_spot r s p) (break_text (x + p.width) y)
    ∷ codes "</g>\n" ∷ []
    )

-- the parts of a band that begins so far from the left and ends at a foot
abbrev pub parts_text : ℕ → Text → ℕ → ℕ → ℕ → ℕ → List PartSpot → Text
parts_text start tint r s left foot ps =
    flat_map (λ (p : PartSpot). part_text start tint r s (left + p.x) (spot_y foot p.row) p) ps

-- a part as it is read out, and all of them
abbrev pub sentence_of : ℕ → Item → Text
sentence_of start i = tip_of i.piece.kind (start + i.piece.at) i.piece.size ++ codes ". "

abbrev pub sentences_of : ℕ → List Item → Text
sentences_of start items = flat_map (sentence_of start) items
