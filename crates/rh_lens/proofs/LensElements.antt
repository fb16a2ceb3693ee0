-- The elements of a lens end where they have to.
use Rattle.rh_sheet.proofs.Reading.{Same, Fixed, Stays, Goes, through, Whole, Value, whole-both, whole-if, whole-none, whole-so, whole-all}
use Rattle.rh_sheet.proofs.Reading.{value-both, value-none, plain, decimal-value}
use Rattle.rh_sheet.proofs.Elements.{first-attribute, fresh-value, box-whole, words-whole, path-whole, point-value, svg-whole}
use Rattle.rh_sheet.proofs.Figures.{task-value, area-value, kind-value, piece-value}
use Rattle.std.proofs.Common.{ℕ, ◌+◌, ◌*◌, Bool, true, false, refl, List, [], ◌∷◌, ◌++◌, length, Option, Some, None}
use Rattle.std.specs.Prelude.{nat_lt, not, min, codes}
use Rattle.std.specs.List.{enumerate_from}
use Rattle.hex.specs.Hex.{encode_lower}
use Rattle.rh_defs.specs.Slot.{slot_start}
use Rattle.rh_defs.specs.Desk.{Task, module_area, module_start}
use Rattle.rh_figure.specs.Phrases.{Text, where_so}
use Rattle.rh_figure.specs.Scene.{Scene}
use Rattle.rh_figure.specs.declared.piece.Kind.{Kind}
use Rattle.rh_figure.specs.declared.piece.Kind.TheVariants.{AnchorWords, Descriptor, Claimed, Posted, FreeHole, MoreSegments, FreeTop, FlexBlock, Unused}
use Rattle.rh_figure.specs.declared.piece.Piece.{Piece}
use Rattle.rh_sheet.specs.Markup.{box_text, fresh_class, text_attribute}
use Rattle.rh_sheet.specs.SheetPieces.{kind_class}
use Rattle.rh_sheet.specs.WellFormed.{Words, Within, read_on}
use Rattle.rh_lens.specs.Items.{Lines}
use Rattle.rh_lens.specs.LensSpots.{PartSpot, spot_y, spots}
use Rattle.rh_lens.specs.PartWords.{Choices, fitted_words, item_words}
use Rattle.rh_lens.specs.Widths.{has_cells, header_width}
use Rattle.rh_lens.specs.LensParts as parts
use Rattle.rh_lens.specs.Anchors.{ShownAnchor, anchor_choices, anchor_height, anchor_x, anchor_y, heap_left, no_anchor_choices}
use Rattle.rh_lens.specs.LensArrows as arrows
use Rattle.rh_lens.specs.LensBands.{Heights, SlotLook, bands_top, flex_foot, flex_spots, heap_foot, heap_room, heap_spots, heap_top}
use Rattle.rh_lens.specs.LensBands.{heights_of, lens_height, slot_look}
use Rattle.rh_lens.specs.Strip as strip
use Rattle.rh_lens.specs.Lens as lens
use Rattle.rh_lens.specs.LensLaws.{AreWholeLenses}
use Rattle.rh_lens.specs.declared.sizes.TheConstants.{ANCHOR_WIDTH, BYTE, CELL_DIGITS, CELL_LETTER, CELL_MIDDLE, CELL_TOP, FIRST_LINE, FOOT}
use Rattle.rh_lens.specs.declared.sizes.TheConstants.{HEADING, LINE, LINE_EDGE, MODULE_SCALE, PART}

-- ---- parts

group-opens : (key : Text) → Value key → (around : List Text)
    → Same (read_on (around, Words) (parts.group_text key)) (codes "g" ∷ around, Words)
group-opens key value around = through
    (around, Words)
    (Fixed (codes "<g") ∷ Goes (text_attribute (codes "data-key") key) (around, Within (codes "g")) ∷ Fixed (codes ">\n") ∷ [])
    (first-attribute (codes "data-key") key (λ around name. refl) value around (codes "g"), tt)

key-value : (k : Kind) (at : ℕ) → Value (parts.key_of k at)
key-value AnchorWords at = plain refl
key-value Descriptor at = plain refl
key-value (Claimed n) at = value-both (codes "used") _ (plain refl) (decimal-value at)
key-value (Posted ref) at = value-both (codes "message") _ (plain refl) (decimal-value ref)
key-value FreeHole at = value-both (codes "hole") _ (plain refl) (decimal-value at)
key-value (MoreSegments n) at = plain refl
key-value FreeTop at = plain refl
key-value (FlexBlock k n) at = value-both (codes "flex") _ (plain refl) (decimal-value k)
key-value Unused at = plain refl

byte-whole : (x y byte : ℕ) → Whole (parts.byte_text x y byte)
byte-whole x y byte = whole-both
    _ _ (box-whole (parts.byte_box x (y + CELL_TOP)) (plain {t = codes "byte"} refl))
    (whole-both _ _ (words-whole (codes "digits") (x + CELL_MIDDLE) (y + CELL_DIGITS) (encode_lower (byte ∷ [])) (plain refl))
    (whole-both _ [] (words-whole (codes "letter") (x + CELL_MIDDLE) (y + CELL_LETTER) (parts.cell_letter byte) (plain refl)) whole-none))

cells-whole : (y x : ℕ) (bs : List ℕ) → Whole (parts.cells_text x y bs)
cells-whole y x [] = whole-none
cells-whole y x (b ∷ bs) = whole-both _ _ (byte-whole x y b) (cells-whole y (x + BYTE) bs)

line-whole : (class : Text) (i x y : ℕ) (t : Text) → Value class → Whole (parts.part_line_text class i x y t)
line-whole class i x y t value = words-whole class (x + LINE_EDGE) (y + FIRST_LINE + LINE * i) t value

lines-whole : (x y : ℕ) (l : Lines) → Whole (parts.part_lines_text x y l)
lines-whole x y l = whole-both
    _ _ (line-whole (codes "name") 0 x y l.first (plain refl))
    (whole-both _ _ (line-whole (codes "told") 1 x y l.second (plain refl))
    (whole-both _ [] (line-whole (codes "told") 2 x y l.third (plain refl)) whole-none))

head-whole : (x y head : ℕ) → Whole (parts.head_text x y head)
head-whole x y head = whole-so
    (nat_lt 0 head) (box_text (parts.head_box x y head)) (box-whole (parts.head_box x y head) (plain {t = codes "word"} refl))

inside-whole : (start : ℕ) (broken : Bool) (x y : ℕ) (p : PartSpot) → Whole (parts.inside_text start broken x y p)
inside-whole start broken x y p =
    let left = x + header_width p.item.piece.kind in
    whole-both
    _ _ (head-whole x y (header_width p.item.piece.kind))
    (whole-both
    _ _ (whole-so (has_cells p.width p.item p.item.piece.kind) (parts.cells_text left y p.item.bytes) (cells-whole y left p.item.bytes))
    (whole-both _ [] (lines-whole left y (item_words start broken p.width p.item)) whole-none))

break-whole : (right y : ℕ) → Whole (parts.break_text right y)
break-whole right y = path-whole (codes "break") _ (plain refl) (value-both
    _ _ (point-value (codes "M") _ _ (plain refl))
    (value-both _ _ (point-value (codes "L") _ _ (plain refl))
    (value-both _ _ (point-value (codes "M") _ _ (plain refl))
    (value-both _ [] (point-value (codes "L") _ _ (plain refl)) value-none))))

part-whole : (start : ℕ) (tint : Text) (r s x y : ℕ) (p : PartSpot) → Value tint → Whole (parts.part_text start tint r s x y p)
part-whole start tint r s x y p value = record {
  reads = λ around. through
      (around, Words)
      (Goes (parts.group_text (parts.key_of p.item.piece.kind (start + p.item.piece.at))) (codes "g" ∷ around, Words)
      ∷ Stays (box_text (parts.part_box start tint x y p)) ∷ Stays (parts.inside_text start (parts.is_broken_spot r s p) x y p)
      ∷ Stays (where_so (parts.is_broken_spot r s p) (parts.break_text (x + p.width) y)) ∷ Fixed (codes "</g>\n") ∷ []) (
        group-opens _ (key-value p.item.piece.kind (start + p.item.piece.at)) around,
        (
          (box-whole (parts.part_box start tint x y p) (value-both (codes "part ") _ (plain refl)
              (piece-value tint p.item.piece.kind p.item.piece.fresh value))).reads (codes "g" ∷ around),
          (
            (inside-whole start (parts.is_broken_spot r s p) x y p).reads (codes "g" ∷ around),
            ((whole-so (parts.is_broken_spot r s p) (parts.break_text (x + p.width) y) (break-whole (x + p.width) y)).reads (codes "g" ∷ around), tt),
          ),
        ),
      );
}

band-whole : (start : ℕ) (tint : Text) (r s left foot : ℕ) (ps : List PartSpot) → Value tint
    → Whole (parts.parts_text start tint r s left foot ps)
band-whole start tint r s left foot ps value = whole-all
    _ ps (λ (p : PartSpot). part-whole start tint r s (left + p.x) (spot_y foot p.row) p value)

-- ---- anchors and arrows

place-whole : (key class : Text) (x y height : ℕ) (c : Choices) → Value key → Value class
    → Whole (lens.anchor_place_text key class x y height c)
place-whole key class x y height c key_is class_is = record {
  reads = λ around. through
      (around, Words)
      (Goes (parts.group_text key) (codes "g" ∷ around, Words) ∷ Stays (box_text (lens.anchor_box class x y height))
      ∷ Stays (parts.part_lines_text x y (fitted_words ANCHOR_WIDTH c)) ∷ Fixed (codes "</g>\n") ∷ []) (
        group-opens key key_is around,
        (
          (box-whole (lens.anchor_box class x y height) class_is).reads (codes "g" ∷ around),
          ((lines-whole x y (fitted_words ANCHOR_WIDTH c)).reads (codes "g" ∷ around), tt),
        ),
      );
}

held-value : (o : Option ℕ) → Value (lens.held_class o)
held-value None = plain refl
held-value (Some at) = value-none

anchor-whole : (top n : ℕ) (a : ℕ × ShownAnchor) → Whole (lens.anchor_text top n a)
anchor-whole top n a = place-whole
    _ _ (anchor_x a.0) (anchor_y top n a.0) (anchor_height n) (anchor_choices n a.1)
    (value-both (codes "anchor") _ (plain refl) (decimal-value a.1.number))
    (value-both (codes "part anchor") _ (plain refl)
    (value-both (lens.held_class a.1.held) _ (held-value a.1.held)
    (value-both (fresh_class a.1.is_moved) [] (fresh-value a.1.is_moved) value-none)))

anchors-whole : (top : ℕ) (anchors : List ShownAnchor) → Whole (lens.anchors_text top anchors)
anchors-whole top [] = place-whole
    (codes "anchors") (codes "part anchor none") 0 top PART no_anchor_choices (plain refl) (plain refl)
anchors-whole top (a ∷ anchors) = whole-all
    (lens.anchor_text top (length (a ∷ anchors))) (enumerate_from 0 (a ∷ anchors)) (anchor-whole top (length (a ∷ anchors)))

way-value : (x0 y0 x1 y1 b : ℕ) → Value (arrows.leading_way x0 y0 x1 y1 b)
way-value x0 y0 x1 y1 b = value-both
    _ _ (point-value (codes "M") _ _ (plain refl))
    (value-both _ _ (point-value (codes "C") _ _ (plain refl))
    (value-both _ _ (point-value (codes " ") _ _ (plain refl))
    (value-both _ [] (point-value (codes " ") _ _ (plain refl)) value-none)))

arrow-to-whole : (class : Text) (top foot n i : ℕ) (o : Option PartSpot) → Value class → Whole (arrows.arrow_to class top foot n i o)
arrow-to-whole class top foot n i None value = whole-none
arrow-to-whole class top foot n i (Some p) value = path-whole class _ value (way-value _ _ _ _ _)

arrow-whole : (top foot n : ℕ) (ps : List PartSpot) (a : ℕ × ShownAnchor) → Whole (arrows.anchor_arrow top foot n ps a)
arrow-whole top foot n ps a = whole-if
    (arrows.has_arrow n a.1) _ [] (arrow-to-whole (arrows.arrow_class a.1) top foot n a.0 (arrows.spot_of_block a.1.number ps)
    (value-both (codes "leads") _ (plain refl) (fresh-value a.1.is_moved))) whole-none

arrows-whole : (top foot n : ℕ) (anchors : List ShownAnchor) (ps : List PartSpot) → Whole (arrows.arrows_text top foot n anchors ps)
arrows-whole top foot n anchors ps = whole-all _ (enumerate_from 0 anchors) (arrow-whole top foot n ps)

-- ---- the strip

page-whole : (start w n : ℕ) (tint : Text) (page : ℕ × ℕ) → Value tint → Whole (strip.strip_page_text start w n tint page)
page-whole start w n tint page value = whole-both
    _ _ (box-whole (strip.strip_page_box w n tint page.0) (value-both (codes "page ") tint (plain refl) value))
    (words-whole (codes "pagen") _ _ _ (plain refl))

mark-whole : (w n : ℕ) (p : Piece) → Whole (strip.strip_piece_text w n p)
mark-whole w n p = whole-so
    _ _ (box-whole (strip.strip_part_box w n p) (value-both (codes "mark ") (kind_class p.kind) (plain refl) (kind-value p.kind)))

strip-whole : (start w : ℕ) (tint : Text) (pages : List ℕ) (pieces : List Piece) → Value tint
    → Whole (strip.strip_text start w tint pages pieces)
strip-whole start w tint pages pieces value = whole-both
    _ _ (whole-all (strip.strip_page_text start w (length pages) tint) (enumerate_from 0 pages)
    (λ page. page-whole start w (length pages) tint page value))
    (whole-all (strip.strip_piece_text w (length pages)) pieces (mark-whole w (length pages)))

-- ---- a slot

heading-words : (name : Text) (left top : ℕ) → Whole (lens.band_heading name left top)
heading-words name left top = words-whole (codes "band") _ _ _ (plain refl)

lower-whole : (v : SlotLook) (w s : ℕ) (h : Heights) → Value v.tint → Whole (lens.lower_text v w s h)
lower-whole v w s h value = whole-both
    _ _ (anchors-whole (heap_top h.flex) v.anchors)
    (whole-both _ _ (heading-words (codes "C heap") (heap_left (length v.anchors)) (heap_top h.flex))
    (whole-both _ [] (band-whole slot_start v.tint (heap_room w (length v.anchors)) s (heap_left (length v.anchors)) (heap_foot h)
    (heap_spots v w s) value) whole-none))

upper-whole : (v : SlotLook) (w s rows : ℕ) → Value v.tint → Whole (lens.upper_text v w s rows)
upper-whole v w s rows value = whole-so
    (nat_lt 0 rows) _ (whole-both
    _ _ (heading-words (codes "flex blocks") 0 (bands_top + HEADING))
    (whole-both _ _ (band-whole slot_start v.tint w s 0 (flex_foot rows) (flex_spots v w s) value)
    (whole-both _ [] (arrows-whole (heap_top rows) (flex_foot rows) (length v.anchors) v.anchors (flex_spots v w s)) whole-none)))

slot-whole : (v : SlotLook) (w s : ℕ) → Value v.tint → Whole (lens.look_text v w s)
slot-whole v w s value = svg-whole
    w (lens_height (heights_of v w s)) (codes "The slot of " ++ v.name) (parts.sentences_of slot_start (v.heap ++ v.flex))
    (lens.slot_lens_body v w s (heights_of v w s)) (whole-both
    _ _ (strip-whole slot_start w v.tint v.pages v.pieces value)
    (whole-both _ _ (upper-whole v w s (heights_of v w s).flex value)
    (whole-both _ [] (lower-whole v w s (heights_of v w s) value) whole-none)))

-- ---- the module area

area-whole : (v : lens.AreaLook) (w s : ℕ) → Value v.tint → Whole (lens.area_lens_text v w s)
area-whole v w s value = svg-whole
    w (lens.module_foot v w s + FOOT) (codes "The module area") (parts.sentences_of module_start v.parts)
    (lens.module_strip v w ++ parts.parts_text module_start v.tint w s 0 (lens.module_foot v w s) (spots w s v.parts)) (whole-both
    _ _ (whole-so (nat_lt 1 (length v.pages)) (strip.strip_text module_start w v.tint v.pages v.pieces)
    (strip-whole module_start w v.tint v.pages v.pieces value))
    (band-whole module_start v.tint w s 0 (lens.module_foot v w s) (spots w s v.parts) value))

pub lenses-whole : AreWholeLenses
lenses-whole = record {
  slots = λ x t w s. (slot-whole (slot_look x t) w s (task-value t.handle)).reads;
  module_area = λ x w s. (area-whole (lens.module_look x) w (min s MODULE_SCALE) (area-value module_area)).reads;
}
