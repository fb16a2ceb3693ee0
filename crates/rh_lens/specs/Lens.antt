-- The lens of a slot, and of the module area, as a figure. Read LensBands, LensParts, LensArrows and Strip first.
-- x is the scene, t a task, v what a slot's lens is drawn from, h the rows of its bands, w the width, s the scale.
-- `-` of naturals doesn't have to stop: a band begins below its heading.
use Rattle.std.specs.Prelude.{ℕ, ◌+◌, ◌-◌, nat_lt, min, if◌then◌else◌, List, [], ◌∷◌, ◌++◌, length, codes, Option, Some, None}
use Rattle.std.specs.List.{concat, flat_map, enumerate_from}
use Rattle.std.specs.Fmt.{decimal}
use Rattle.rh_defs.specs.Slot.{slot_start}
use Rattle.rh_defs.specs.Desk.{Task, module_area, module_start}
use Rattle.rh_figure.specs.Phrases.{Text, where_so}
use Rattle.rh_figure.specs.Share.{AreaOf}
use Rattle.rh_figure.specs.Scene.{Scene}
use Rattle.rh_figure.specs.Layout.{module_pieces}
use Rattle.rh_figure.specs.declared.piece.Piece.{Piece}
use Rattle.rh_sheet.specs.Markup.{Box, box_text, fresh_class, words_text, svg_text}
use Rattle.rh_sheet.specs.Owners.{area_class}
use Rattle.rh_lens.specs.Items.{Item, module_items}
use Rattle.rh_lens.specs.LensSpots.{spots, rows_of, rows_height}
use Rattle.rh_lens.specs.PartWords.{Choices, fitted_words}
use Rattle.rh_lens.specs.Anchors.{ShownAnchor, heap_left, anchor_x, anchor_y, anchor_height, anchor_choices, no_anchor_choices}
use Rattle.rh_lens.specs.LensBands.{SlotLook, slot_look, flex_spots, heap_spots, heap_room, Heights, heights_of, bands_top, flex_foot, heap_top, heap_foot}
use Rattle.rh_lens.specs.LensBands.{lens_height}
use Rattle.rh_lens.specs.LensArrows.{arrows_text}
use Rattle.rh_lens.specs.Strip.{strip_text}
use Rattle.rh_lens.specs.LensParts.{group_text, part_lines_text, parts_text, sentences_of}
use Rattle.rh_lens.specs.declared.sizes.TheConstants.{ANCHOR_WIDTH, PART, HEADING, FOOT, MODULE_SCALE, HEADING_LINE}

-- ---- anchors

abbrev pub held_class : Option ℕ → Text
held_class None = codes " none"
held_class (Some at) = []

-- the classes of an anchor: whether it leads to a block, and whether the command gave it another address
abbrev pub anchor_class : ShownAnchor → Text
anchor_class a = concat (codes "part anchor" ∷ held_class a.held ∷ fresh_class a.is_moved ∷ [])

abbrev pub anchor_box : Text → ℕ → ℕ → ℕ → Box
anchor_box class x y height =
    record { class = class; x = x; y = y; width = ANCHOR_WIDTH; height = height; tip = [] }

-- the place of an anchor, by its name, its class and its words
abbrev pub anchor_place_text : Text → Text → ℕ → ℕ → ℕ → Choices → Text
anchor_place_text key class x y height words = concat (
    group_text key ∷ box_text (anchor_box class x y height)
    ∷ part_lines_text x y (fitted_words ANCHOR_WIDTH words) ∷ codes "</g>\n" ∷ []
    )

-- an anchor, by which of the n that are shown it is
abbrev pub anchor_text : ℕ → ℕ → ℕ × ShownAnchor → Text
anchor_text top n a = anchor_place_text
    (codes "anchor" ++ decimal a.1.number) (anchor_class a.1) (anchor_x a.0) (anchor_y top n a.0)
    (anchor_height n) (anchor_choices n a.1)

abbrev pub no_anchors_text : ℕ → Text
no_anchors_text top = anchor_place_text (codes "anchors") (codes "part anchor none") 0 top PART no_anchor_choices

abbrev pub anchors_text : ℕ → List ShownAnchor → Text
anchors_text top [] = no_anchors_text top
anchors_text top (a ∷ anchors) = flat_map (anchor_text top (length (a ∷ anchors))) (enumerate_from 0 (a ∷ anchors))

-- ---- a slot

-- the name of a band, above its parts
abbrev pub band_heading : Text → ℕ → ℕ → Text
band_heading name left top = words_text (codes "band") left (top - HEADING + HEADING_LINE) name

-- the lower band of a slot
abbrev pub lower_text : SlotLook → ℕ → ℕ → Heights → Text
lower_text v w s h = concat (
    anchors_text (heap_top h.flex) v.anchors
    ∷ band_heading (codes "C heap") (heap_left (length v.anchors)) (heap_top h.flex)
    ∷ parts_text slot_start v.tint (heap_room w (length v.anchors)) s (heap_left (length v.anchors)) (heap_foot h)
    (heap_spots v w s) ∷ []
    )

-- the upper band, if there is one
abbrev pub upper_text : SlotLook → ℕ → ℕ → ℕ → Text
upper_text v w s rows = where_so (nat_lt 0 rows) (concat (
    band_heading (codes "flex blocks") 0 (bands_top + HEADING)
    ∷ parts_text slot_start v.tint w s 0 (flex_foot rows) (flex_spots v w s)
    ∷ arrows_text (heap_top rows) (flex_foot rows) (length v.anchors) v.anchors (flex_spots v w s) ∷ []
    ))

abbrev pub slot_lens_body : SlotLook → ℕ → ℕ → Heights → Text
slot_lens_body v w s h = concat (
    strip_text slot_start w v.tint v.pages v.pieces ∷ upper_text v w s h.flex ∷ lower_text v w s h ∷ []
    )

-- a slot's lens, of which the C heap and what lies above it are read out
abbrev pub look_text : SlotLook → ℕ → ℕ → Text
look_text v w s = svg_text
    w (lens_height (heights_of v w s)) (codes "The slot of " ++ v.name)
    (sentences_of slot_start (v.heap ++ v.flex)) (slot_lens_body v w s (heights_of v w s))

abbrev pub slot_lens : Scene → Task → ℕ → ℕ → Text
slot_lens x t w s = look_text (slot_look x t) w s

-- ---- the module area

-- what is drawn of the module area: its tint, its pages, its pieces and its parts
pub record AreaLook : Type 0 where
  pub tint : Text
  pub pages : List ℕ
  pub pieces : List Piece
  pub parts : List Item

abbrev pub module_look : Scene → AreaLook
module_look x = record {
  tint = area_class module_area;
  pages = x.share.pages_of (AreaOf module_area);
  pieces = module_pieces x;
  parts = module_items x;
}

-- a strip is drawn only of more than one page
abbrev pub module_top : ℕ → ℕ
module_top pages = if nat_lt 1 pages then bands_top else FOOT

abbrev pub module_strip : AreaLook → ℕ → Text
module_strip v w = where_so (nat_lt 1 (length v.pages)) (strip_text module_start w v.tint v.pages v.pieces)

abbrev pub module_foot : AreaLook → ℕ → ℕ → ℕ
module_foot v w s = module_top (length v.pages) + rows_height (rows_of (spots w s v.parts))

abbrev pub area_lens_text : AreaLook → ℕ → ℕ → Text
area_lens_text v w s = svg_text
    w (module_foot v w s + FOOT) (codes "The module area") (sentences_of module_start v.parts)
    (module_strip v w ++ parts_text module_start v.tint w s 0 (module_foot v w s) (spots w s v.parts))

-- the module area at a scale of at most one unit a byte
abbrev pub module_lens : Scene → ℕ → ℕ → Text
module_lens x w s = area_lens_text (module_look x) w (min s MODULE_SCALE)
