-- The figures of slots and of the module area. Read SheetRows, SheetCards and Arrows first.
-- x is the scene, t a task, o an owner, f a frame, n a number of cards, low and high are places of an area.
-- `-` of naturals stops at 0 for an area without pages, and above rows without cards: nothing is drawn there then.
use Rattle.std.specs.Prelude.{ℕ, ◌+◌, ◌-◌, ◌*◌, ◌/◌, ◌==◌, nat_le, nat_lt, max, min, ◌&&◌, List, [], ◌∷◌, ◌++◌, length, codes}
use Rattle.std.specs.List.{concat, flat_map}
use Rattle.rh_defs.specs.declared.question.BlockItem.{BlockItem}
use Rattle.rh_defs.specs.declared.sizes.TheConstants.{C_HEAP_PLACE, MAX_PAGES}
use Rattle.rh_defs.specs.Pieces.{page_size}
use Rattle.rh_defs.specs.Heap.{first_place, base}
use Rattle.rh_defs.specs.Slot.{Slot, slot_start, slot_length}
use Rattle.rh_defs.specs.Desk.{Task, module_area, module_start}
use Rattle.rh_defs.specs.Questions.{block_items}
use Rattle.rh_figure.specs.Share.{Owner, AreaOf, SlotOf, count_of}
use Rattle.rh_figure.specs.Scene.{Scene}
use Rattle.rh_figure.specs.Phrases.{Text, where_so, size_text, listed_numbers}
use Rattle.rh_figure.specs.Layout.{slot_pieces, module_pieces}
use Rattle.rh_figure.specs.Cards.{flex_cards, heap_cards, module_cards}
use Rattle.rh_figure.specs.Changes.{slides}
use Rattle.rh_sheet.specs.Markup.{path_text, point_text, stretch_text, svg_text}
use Rattle.rh_sheet.specs.Owners.{area_class, task_class}
use Rattle.rh_sheet.specs.Frames.{Frame, rows_top, rows_foot, frame_height, row_y}
use Rattle.rh_sheet.specs.SheetRows.{Plot, rows_text}
use Rattle.rh_sheet.specs.SheetCards.{cards_above, cards_below, lens_text, cards_sentences}
use Rattle.rh_sheet.specs.Arrows.{slide_arrow}
use Rattle.rh_sheet.specs.declared.sizes.TheConstants.{UNIT_BYTES, LEFT, FIGURE_WIDTH, ROW_HEIGHT, ROW_GAP, LENS_HEIGHT}

-- ---- parts of both

-- an owner has a row for each page that it has, and for each that it has given back, of which no pool has more
abbrev pub rows_for : Scene → Owner → ℕ
rows_for x o = min MAX_PAGES (max (length (x.share.pages_of o)) (count_of o x.before.holdings))

-- which pages an area has, as it is read out
abbrev pub pages_sentence : List ℕ → Text
pages_sentence pages = concat (codes "Page " ∷ listed_numbers pages ∷ codes ". " ∷ [])

-- what leads from the first row, between two of its bytes, to n cards below; the bytes are all in that row, or it isn't there
abbrev pub lens_below : Frame → ℕ → ℕ → ℕ → Text
lens_below f low high n =
    where_so (nat_lt 0 n && nat_le high page_size) (lens_text
    (low / UNIT_BYTES) (high / UNIT_BYTES) (rows_foot f - ROW_GAP) n (rows_foot f + LENS_HEIGHT + 1))

-- the first byte of the last row of a frame
abbrev pub last_row_place : Frame → ℕ
last_row_place f = page_size * (f.pages - 1)

-- what leads from the last row, between two places of the area, to n cards above; both are in that row, or it isn't there
abbrev pub lens_above : Frame → ℕ → ℕ → ℕ → Text
lens_above f low high n =
    where_so (nat_lt 0 n && nat_le (last_row_place f) low) (lens_text
    ((low - last_row_place f) / UNIT_BYTES) ((high - last_row_place f) / UNIT_BYTES) (rows_top f + ROW_GAP) n
    (rows_top f - (LENS_HEIGHT + ROW_GAP)))

-- ---- slots

-- where a slot's parts stand: flex blocks' cards above its rows, those of the C heap below them
abbrev pub slot_frame : Scene → Task → Frame
slot_frame x t = record {
  pages = rows_for x (SlotOf t.handle);
  above = length (flex_cards x t);
  below = length (heap_cards x t);
}

abbrev pub slot_plot : Scene → Task → Plot
slot_plot x t = record {
  start = slot_start;
  pages = x.share.pages_of (SlotOf t.handle);
  pieces = slot_pieces x t.handle t.slot;
  tint = task_class t.handle;
}

-- a tick in the anchor word of a flex block
abbrev pub tick_text : ℕ → ℕ → Text
tick_text y anchor =
    path_text (codes "tick") (point_text (codes "M") (LEFT + anchor) y ++ stretch_text (codes "v") ROW_HEIGHT)

abbrev pub ticks_text : ℕ → List BlockItem → Text
ticks_text y blocks = flat_map (λ (b : BlockItem). tick_text y b.anchor) blocks

-- what leads from a slot's rows to its cards
abbrev pub slot_lenses : Frame → Slot → Text
slot_lenses f s =
    lens_above f (C_HEAP_PLACE + s.heap.end) (slot_length s) f.above
    ++ lens_below f (C_HEAP_PLACE + first_place) (C_HEAP_PLACE + base s.heap) f.below

-- the arrow of the named task's slide
abbrev pub slot_arrow : Scene → Task → Text
slot_arrow x t = where_so (t.handle == x.before.handle) (slide_arrow (slot_frame x t) (slides x))

abbrev pub slot_body : Scene → Task → Text
slot_body x t = concat (
    slot_lenses (slot_frame x t) t.slot ∷ cards_above (rows_top (slot_frame x t) - LENS_HEIGHT) (flex_cards x t)
    ∷ rows_text (slot_frame x t) (slot_plot x t) ∷ ticks_text (row_y (slot_frame x t) 0) (block_items t.slot)
    ∷ slot_arrow x t ∷ cards_below (rows_foot (slot_frame x t) + LENS_HEIGHT) (heap_cards x t) ∷ []
    )

-- a slot as it is read out
abbrev pub slot_description : Scene → Task → Text
slot_description x t = concat (
    pages_sentence (x.share.pages_of (SlotOf t.handle)) ∷ codes "C heap of " ∷ size_text t.slot.heap.end ∷ codes ". "
    ∷ cards_sentences (heap_cards x t) ∷ cards_sentences (flex_cards x t) ∷ []
    )

abbrev pub slot_figure : Scene → Task → Text
slot_figure x t = svg_text
    FIGURE_WIDTH (frame_height (slot_frame x t)) (codes "The slot of " ++ t.name) (slot_description x t) (slot_body x t)

-- ---- the module area

abbrev pub module_frame : Scene → Frame
module_frame x =
    record { pages = rows_for x (AreaOf module_area); above = 0; below = length (module_cards x) }

abbrev pub module_plot : Scene → Plot
module_plot x = record {
  start = module_start;
  pages = x.share.pages_of (AreaOf module_area);
  pieces = module_pieces x;
  tint = area_class module_area;
}

abbrev pub module_body : Scene → Text
module_body x = concat (
    lens_below (module_frame x) first_place (base x.desk.post.heap) (length (module_cards x))
    ∷ rows_text (module_frame x) (module_plot x)
    ∷ cards_below (rows_foot (module_frame x) + LENS_HEIGHT) (module_cards x) ∷ []
    )

abbrev pub module_description : Scene → Text
module_description x =
    pages_sentence (x.share.pages_of (AreaOf module_area)) ++ cards_sentences (module_cards x)

abbrev pub module_figure : Scene → Text
module_figure x =
    svg_text FIGURE_WIDTH (frame_height (module_frame x)) (codes "The module area") (module_description x) (module_body x)
