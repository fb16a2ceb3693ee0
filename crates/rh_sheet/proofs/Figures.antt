-- The figures of a sheet end where they have to: the pool, areas with their rows and cards, and the chart.
use Rattle.rh_sheet.proofs.Reading.{Same, Fixed, Stays, Goes, through, Whole, Value, whole-both, whole-if, whole-none, whole-so, whole-all}
use Rattle.rh_sheet.proofs.Reading.{value-both, value-if, value-none, value-so, value-all, plain, decimal-value, escape-whole}
use Rattle.rh_sheet.proofs.Elements.{classed, fresh-value, box-whole, words-whole, path-whole, point-value, stretch-value, svg-whole}
use Rattle.std.proofs.Common.{ℕ, ◌+◌, ◌-◌, ◌*◌, ◌/◌, ◌%◌, Bool, true, false, refl, List, [], ◌∷◌, ◌++◌, length, Option, Some, None}
use Rattle.std.specs.Prelude.{◌==◌, nat_le, nat_lt, slice_index, not, codes}
use Rattle.std.specs.List.{concat, flat_map, range_with_len, enumerate_from}
use Rattle.rh_defs.specs.Desk.{Desk, Task, module_area}
use Rattle.rh_defs.specs.Slot.{Slot, slot_length}
use Rattle.rh_defs.specs.Heap.{first_place, base}
use Rattle.rh_defs.specs.Questions.{block_items}
use Rattle.rh_defs.specs.declared.sizes.TheConstants.{C_HEAP_PLACE}
use Rattle.rh_defs.specs.declared.question.BlockItem.{BlockItem}
use Rattle.rh_figure.specs.Phrases.{Text, where_so}
use Rattle.rh_figure.specs.Share.{Owner, AreaOf, SlotOf, Holding, holdings}
use Rattle.rh_figure.specs.Scene.{Scene}
use Rattle.rh_figure.specs.Cards.{Card, CardKind, FlexCard, UsedCard, HoleCard, PostCard, MoreCard, shown_cards, flex_cards, heap_cards, module_cards}
use Rattle.rh_figure.specs.Changes.{Slide, slides}
use Rattle.rh_figure.specs.declared.piece.Piece as drawn
use Rattle.rh_figure.specs.declared.piece.Kind.{Kind}
use Rattle.rh_figure.specs.declared.piece.Kind.TheVariants.{AnchorWords, Descriptor, Claimed, Posted, FreeHole, MoreSegments, FreeTop, FlexBlock, Unused}
use Rattle.rh_sheet.specs.Markup.{escape, box_text, words_text, path_text, point_text, stretch_text, fresh_class, text_attribute}
use Rattle.rh_sheet.specs.Owners.{owner_class, area_class, task_class}
use Rattle.rh_sheet.specs.Pool
use Rattle.rh_sheet.specs.SheetPieces
use Rattle.rh_sheet.specs.SheetRows
use Rattle.rh_sheet.specs.SheetCards
use Rattle.rh_sheet.specs.Arrows
use Rattle.rh_sheet.specs.SheetAreas
use Rattle.rh_sheet.specs.Chart
use Rattle.rh_sheet.specs.Fates.{Fate, Queued, Taken, Held, Answered, Back, Returned, Vanished}
use Rattle.rh_sheet.specs.Frames.{first_beside, Frame, shown_rows, page_in, row_y, rows_top, rows_foot, frame_height}
use Rattle.rh_sheet.specs.declared.sizes.TheConstants.{ROW_WIDTH, CELL, POOL_COLUMNS, POOL_NAME_Y, POOL_NOTE_Y, FIGURE_WIDTH, FRAME_EDGE, LENS_HEIGHT}
use Rattle.rh_sheet.specs.declared.sizes.TheConstants.{CHART_WIDTH, CHART_EDGE}
use Rattle.rh_sheet.specs.WellFormed.{Words, Within, Quoted, read_on}

-- ---- whose it is

pub task-value : (h : ℕ) → Value (task_class h)
task-value h = value-both (codes "t") _ (plain refl) (decimal-value _)

pub area-value : (k : ℕ) → Value (area_class k)
area-value k = value-if (k == module_area) (codes "m") (codes "o") (plain refl) (plain refl)

owner-value : (o : Owner) → Value (owner_class o)
owner-value (AreaOf k) = area-value k
owner-value (SlotOf h) = task-value h

-- ---- the pool

square-value : (k : ℕ) → Value (Pool.square_way k)
square-value k = value-both (point_text (codes "M") _ _) (codes "h30v30h-30z") (point-value (codes "M") _ _ (plain refl)) (plain refl)

squares-begin : (class : Text) → Value class → (around : List Text)
    → Same (read_on (around, Words) (Pool.squares_begin class)) (around, Quoted (codes "htap"))
squares-begin class value around = through
    (around, Words)
    (Fixed (codes "<path") ∷ Goes (text_attribute (codes "class") class) (around, Within (codes "htap")) ∷ Fixed (codes " d=\"") ∷ [])
    (classed class value around (codes "htap"), tt)

squares-whole : (class : Text) (ks : List ℕ) (tip : Text) → Value class → Whole (Pool.squares_text class ks tip)
squares-whole class [] tip value = whole-none
squares-whole class (k ∷ ks) tip value = record {
  reads = λ around. through
      (around, Words)
      (Goes (Pool.squares_begin class) (around, Quoted (codes "htap")) ∷ Stays (flat_map Pool.square_way (k ∷ ks))
      ∷ Fixed (codes "\"><title>") ∷ Stays (escape tip) ∷ Fixed (codes "</title></path>\n") ∷ []) (
        squares-begin class value around,
        (
          (value-all Pool.square_way (k ∷ ks) square-value).reads around (codes "htap"),
          ((escape-whole tip).reads (codes "eltit" ∷ codes "htap" ∷ around), tt),
        ),
      );
}

grid-row : (y width height : ℕ) → Whole (box_text (Pool.grid_box y width height))
grid-row y width height = box-whole (Pool.grid_box y width height) (plain {t = codes "cells"} refl)

pub grid-whole : (n : ℕ) → Whole (Pool.grid_text n)
grid-whole n = record {
  reads = λ around. through
      (around, Words)
      (Fixed (codes "<g id=\"grid\">\n") ∷ Stays (Pool.whole_rows_text n) ∷ Stays (Pool.rest_row_text n)
      ∷ Stays (flat_map Pool.numbered_text (range_with_len 0 (Pool.numbered n))) ∷ Fixed (codes "</g>\n") ∷ []) (
        (whole-so (nat_le POOL_COLUMNS n) _ (grid-row 0 ROW_WIDTH (CELL * (n / POOL_COLUMNS)))).reads (codes "g" ∷ around),
        (
          (whole-so (not (n % POOL_COLUMNS == 0)) _ (grid-row (CELL * (n / POOL_COLUMNS)) (CELL * (n % POOL_COLUMNS)) CELL)).reads (codes "g" ∷ around),
          (
            (whole-all Pool.numbered_text (range_with_len 0 (Pool.numbered n)) (λ k. words-whole (codes "num") _ _ _ (plain refl))).reads
                (codes "g" ∷ around),
            tt,
          ),
        ),
      );
}

classes-value : (o : Owner) (fresh : Bool) → Value (Pool.owner_classes o fresh)
classes-value o fresh = value-both
    (codes "cell ") _ (plain refl)
    (value-both (owner_class o) _ (owner-value o) (value-both (fresh_class fresh) [] (fresh-value fresh) value-none))

owner-whole : (x : Scene) (o : Holding) → Whole (Pool.owner_squares x o)
owner-whole x o = whole-both
    (Pool.kept_squares x o) (Pool.taken_squares x o) (squares-whole _ _ _ (classes-value o.0 false))
    (squares-whole _ _ _ (classes-value o.0 true))

side-whole : (free pages : ℕ) → Whole (Pool.pool_side free pages)
side-whole free pages = whole-both
    (words_text (codes "side") 0 POOL_NAME_Y (codes "Pool")) (words_text (codes "small") 0 POOL_NOTE_Y (Pool.free_text free pages))
    (words-whole (codes "side") 0 POOL_NAME_Y (codes "Pool") (plain refl))
    (words-whole (codes "small") 0 POOL_NOTE_Y (Pool.free_text free pages) (plain refl))

body-whole : (x : Scene) → Whole (Pool.pool_body x)
body-whole x = record {
  reads = λ around. through
      (around, Words)
      (Stays (flat_map (Pool.owner_squares x) (holdings x.desk)) ∷ Stays (Pool.freed_squares x) ∷ Fixed (codes "<use href=\"#grid\"/>\n")
      ∷ Stays (flat_map (Pool.tags_text x) (holdings x.desk)) ∷ Stays (Pool.pool_side _ _) ∷ []) (
        (whole-all (Pool.owner_squares x) (holdings x.desk) (owner-whole x)).reads around,
        (
          (squares-whole (codes "freed") _ _ (plain refl)).reads around,
          (
            (whole-all (Pool.tags_text x) (holdings x.desk) (λ (o : Holding). whole-all _ (x.share.pages_of o.0)
                (λ (k : ℕ). words-whole (codes "tag") _ _ _ (plain refl)))).reads around,
            ((side-whole _ _).reads around, tt),
          ),
        ),
      );
}

pub pool-whole : (x : Scene) → Whole (Pool.pool_figure x)
pool-whole x = svg-whole FIGURE_WIDTH (Pool.pool_height x.desk.pool + FRAME_EDGE) (codes "The pool of pages") (Pool.pool_description x) (Pool.pool_body x)
    (body-whole x)

-- ---- pieces and rows

pub kind-value : (kind : Kind) → Value (SheetPieces.kind_class kind)
kind-value AnchorWords = record { reads = λ around name. refl }
kind-value Descriptor = record { reads = λ around name. refl }
kind-value (Claimed n) = record { reads = λ around name. refl }
kind-value (Posted ref) = record { reads = λ around name. refl }
kind-value FreeHole = record { reads = λ around name. refl }
kind-value (MoreSegments n) = record { reads = λ around name. refl }
kind-value FreeTop = record { reads = λ around name. refl }
kind-value (FlexBlock k n) = record { reads = λ around name. refl }
kind-value Unused = record { reads = λ around name. refl }

pub piece-value : (tint : Text) (kind : Kind) (fresh : Bool) → Value tint → Value (SheetPieces.piece_classes tint kind fresh)
piece-value tint kind fresh value = value-both
    (SheetPieces.kind_class kind) _ (kind-value kind)
    (value-both
    (where_so (SheetPieces.is_tinted kind) (codes " " ++ tint)) _
    (value-so (SheetPieces.is_tinted kind) (codes " " ++ tint) (value-both (codes " ") tint (plain refl) value))
    (value-both (fresh_class fresh) [] (fresh-value fresh) value-none))

piece-whole : (start : ℕ) (tint : Text) (y low k : ℕ) (p : drawn.Piece) → Value tint → Whole (SheetPieces.piece_text start tint y low k p)
piece-whole start tint y low k p value = whole-so _ _ (whole-both
    (box_text (SheetPieces.piece_box start tint y k p)) (SheetPieces.piece_label y low k p)
    (box-whole (SheetPieces.piece_box start tint y k p) (piece-value tint p.kind p.fresh value))
    (words-whole _ _ _ _ (value-both (codes "lab ") (SheetPieces.kind_class p.kind) (plain refl) (kind-value p.kind))))

page-row-whole : (g : SheetRows.Plot) (y low k : ℕ) → Value g.tint → Whole (SheetRows.page_row_text g y low k)
page-row-whole g y low k value = record {
  reads = λ around. through
      (around, Words)
      (Stays (SheetRows.chip_text g.tint y (slice_index g.pages k)) ∷ Stays (box_text (SheetRows.page_box (codes "row") y))
      ∷ Stays (SheetPieces.pieces_text g.start g.tint y low k g.pieces) ∷ []) (
        (whole-both (box_text (SheetRows.chip_box g.tint y)) _ (box-whole (SheetRows.chip_box g.tint y) (value-both (codes "chip ") g.tint (plain refl) value))
            (words-whole (codes "chipn") _ _ _ (plain refl))).reads around,
        (
          (box-whole (SheetRows.page_box (codes "row") y) (plain refl)).reads around,
          ((whole-all (SheetPieces.piece_text g.start g.tint y low k) g.pieces (λ p. piece-whole g.start g.tint y low k p value)).reads around, tt),
        ),
      );
}

addressed-whole : (g : SheetRows.Plot) (y low k : ℕ) → Value g.tint → Whole (SheetRows.addressed_text g y low k)
addressed-whole g y low k value = whole-both
    _ _ (words-whole (codes "addr") _ _ _ (plain refl))
    (whole-if
    (nat_lt k (length g.pages)) (SheetRows.page_row_text g y low k) (box_text (SheetRows.page_box (codes "gone") y))
    (page-row-whole g y low k value) (box-whole (SheetRows.page_box (codes "gone") y) (plain refl)))

row-whole : (f : Frame) (g : SheetRows.Plot) (i : ℕ) → Value g.tint → Whole (SheetRows.row_text f g i)
row-whole f g i value = of_page (page_in f.pages i)
  where
    of_page : (o : Option ℕ) → Whole (SheetRows.row_of f g i o)
    of_page None = words-whole (codes "gap") _ _ _ (plain refl)
    of_page (Some k) = addressed-whole g (row_y f i) (first_beside f.pages i) k value

rows-whole : (f : Frame) (g : SheetRows.Plot) → Value g.tint → Whole (SheetRows.rows_text f g)
rows-whole f g value = whole-all (SheetRows.row_text f g) (range_with_len 0 (shown_rows f.pages)) (λ i. row-whole f g i value)

-- ---- cards

card-class-value : (kind : CardKind) → Value (SheetCards.card_class kind)
card-class-value FlexCard = record { reads = λ around name. refl }
card-class-value UsedCard = record { reads = λ around name. refl }
card-class-value HoleCard = record { reads = λ around name. refl }
card-class-value PostCard = record { reads = λ around name. refl }
card-class-value MoreCard = record { reads = λ around name. refl }

card-whole : (c : Card) (x y : ℕ) → Whole (SheetCards.card_text c x y)
card-whole c x y = record {
  reads = λ around. through
      (around, Words)
      (Stays (box_text (SheetCards.card_box c.kind c.fresh x y)) ∷ Stays (SheetCards.card_line_text (codes "first") 0 x y c.first)
      ∷ Stays (SheetCards.card_line_text (codes "line") 1 x y c.second) ∷ Stays (SheetCards.card_line_text (codes "line") 2 x y c.third) ∷ []) (
        (box-whole (SheetCards.card_box c.kind c.fresh x y) (value-both (codes "card ") _ (plain refl)
            (value-both (SheetCards.card_class c.kind) _ (card-class-value c.kind)
            (value-both (fresh_class c.fresh) [] (fresh-value c.fresh) value-none)))).reads around,
        (
          (words-whole (codes "first") _ _ _ (plain refl)).reads around,
          ((words-whole (codes "line") _ _ _ (plain refl)).reads around, ((words-whole (codes "line") _ _ _ (plain refl)).reads around, tt)),
        ),
      );
}

below-whole : (y : ℕ) (cards : List Card) → Whole (SheetCards.cards_below y cards)
below-whole y cards = whole-all (SheetCards.low_card_text y) (enumerate_from 0 (shown_cards cards)) (λ (c : ℕ × Card). card-whole c.1 _ _)

above-whole : (y : ℕ) (cards : List Card) → Whole (SheetCards.cards_above y cards)
above-whole y cards = whole-all (SheetCards.high_card_text y) (enumerate_from 0 (shown_cards cards)) (λ (c : ℕ × Card). card-whole c.1 _ _)

point : (letter : Text) (x y : ℕ) → Value letter → Value (point_text letter x y)
point = point-value

lens-whole : (x0 x1 y0 n y1 : ℕ) → Whole (SheetCards.lens_text x0 x1 y0 n y1)
lens-whole x0 x1 y0 n y1 = path-whole (codes "lens") _ (plain refl)
    (value-both (point_text (codes "M") _ y0) _ (point (codes "M") _ y0 (plain refl))
    (value-both (point_text (codes "L") _ y1) _ (point (codes "L") _ y1 (plain refl))
    (value-both (stretch_text (codes "H") _) _ (stretch-value (codes "H") _ (plain refl))
    (value-both (point_text (codes "L") _ y0) _ (point (codes "L") _ y0 (plain refl)) (plain refl)))))

-- ---- the arrow of a slide

ghost-value : (x y : ℕ) → Value (Arrows.ghost_way x y)
ghost-value x y =
    value-both (point_text (codes "M") _ _) _ (point (codes "M") _ _ (plain refl))
    (value-both (stretch_text (codes "h") _) _ (stretch-value (codes "h") _ (plain refl))
    (value-both (stretch_text (codes "v") _) _ (stretch-value (codes "v") _ (plain refl))
    (value-both (stretch_text (codes "h-") _) _ (stretch-value (codes "h-") _ (plain refl)) (plain refl))))

four-points : (x0 y0 x1 y1 x2 y2 x3 y3 : ℕ) → Value (concat (
    point_text (codes "M") x0 y0 ∷ point_text (codes "C") x1 y1 ∷ point_text (codes " ") x2 y2 ∷ point_text (codes " ") x3 y3 ∷ []))
four-points x0 y0 x1 y1 x2 y2 x3 y3 =
    value-both (point_text (codes "M") x0 y0) _ (point (codes "M") x0 y0 (plain refl))
    (value-both (point_text (codes "C") x1 y1) _ (point (codes "C") x1 y1 (plain refl))
    (value-both (point_text (codes " ") x2 y2) _ (point (codes " ") x2 y2 (plain refl))
    (value-both (point_text (codes " ") x3 y3) [] (point (codes " ") x3 y3 (plain refl)) value-none)))

way-value : (f : Frame) (r x0 s x1 : ℕ) → Value (Arrows.arrow_way f r x0 s x1)
way-value f r x0 s x1 = value-if (r == s) _ _ (four-points _ _ _ _ _ _ _ _) (four-points _ _ _ _ _ _ _ _)

arrow-whole : (ghost way : Text) → Value ghost → Value way → Whole (Arrows.arrow_text ghost way)
arrow-whole ghost way round along = record {
  reads = λ around. through
      (around, Words)
      (Stays (path_text (codes "casing") ghost) ∷ Stays (path_text (codes "ghost") ghost) ∷ Stays (path_text (codes "casing") way)
      ∷ Stays (path_text (codes "slide") way) ∷ []) (
        (path-whole (codes "casing") ghost (plain refl) round).reads around,
        (
          (path-whole (codes "ghost") ghost (plain refl) round).reads around,
          ((path-whole (codes "casing") way (plain refl) along).reads around, ((path-whole (codes "slide") way (plain refl) along).reads around, tt)),
        ),
      );
}

between-whole : (f : Frame) (from to : ℕ) (r s : Option ℕ) → Whole (Arrows.arrow_between f from to r s)
between-whole f from to None s = whole-none
between-whole f from to (Some r) None = whole-none
between-whole f from to (Some r) (Some s) = arrow-whole _ _ (ghost-value _ _) (way-value f r _ s _)

slide-whole : (f : Frame) (slides : List Slide) → Whole (Arrows.slide_arrow f slides)
slide-whole f [] = whole-none
slide-whole f (s ∷ slides) = between-whole f _ _ _ _

-- ---- slots and the module area

lens-below-whole : (f : Frame) (low high n : ℕ) → Whole (SheetAreas.lens_below f low high n)
lens-below-whole f low high n = whole-so _ _ (lens-whole _ _ _ n _)

lens-above-whole : (f : Frame) (low high n : ℕ) → Whole (SheetAreas.lens_above f low high n)
lens-above-whole f low high n = whole-so _ _ (lens-whole _ _ _ n _)

lenses-whole : (f : Frame) (s : Slot) → Whole (SheetAreas.slot_lenses f s)
lenses-whole f s = whole-both
    (SheetAreas.lens_above f (C_HEAP_PLACE + s.heap.end) (slot_length s) f.above)
    (SheetAreas.lens_below f (C_HEAP_PLACE + first_place) (C_HEAP_PLACE + base s.heap) f.below)
    (lens-above-whole f (C_HEAP_PLACE + s.heap.end) (slot_length s) f.above)
    (lens-below-whole f (C_HEAP_PLACE + first_place) (C_HEAP_PLACE + base s.heap) f.below)

ticks-whole : (y : ℕ) (blocks : List BlockItem) → Whole (SheetAreas.ticks_text y blocks)
ticks-whole y blocks = whole-all
    (λ (b : BlockItem). SheetAreas.tick_text y b.anchor) blocks (λ (b : BlockItem). path-whole (codes "tick") _ (plain refl)
    (value-both (point_text (codes "M") _ y) _ (point (codes "M") _ y (plain refl)) (stretch-value (codes "v") _ (plain refl))))

slot-body-whole : (x : Scene) (t : Task) → Whole (SheetAreas.slot_body x t)
slot-body-whole x t =
    let f : Frame = SheetAreas.slot_frame x t in
    record {
      reads = λ around. through
          (around, Words)
          (Stays (SheetAreas.slot_lenses f t.slot) ∷ Stays (SheetCards.cards_above (rows_top f - LENS_HEIGHT) (flex_cards x t))
          ∷ Stays (SheetRows.rows_text f (SheetAreas.slot_plot x t)) ∷ Stays (SheetAreas.ticks_text (row_y f 0) (block_items t.slot))
          ∷ Stays (SheetAreas.slot_arrow x t) ∷ Stays (SheetCards.cards_below (rows_foot f + LENS_HEIGHT) (heap_cards x t)) ∷ []) (
            (lenses-whole f t.slot).reads around,
            (
              (above-whole (rows_top f - LENS_HEIGHT) (flex_cards x t)).reads around,
              (
                (rows-whole f (SheetAreas.slot_plot x t) (task-value t.handle)).reads around,
                (
                  (ticks-whole (row_y f 0) (block_items t.slot)).reads around,
                  (
                    (whole-so (t.handle == x.before.handle) _ (slide-whole f (slides x))).reads around,
                    ((below-whole (rows_foot f + LENS_HEIGHT) (heap_cards x t)).reads around, tt),
                  ),
                ),
              ),
            ),
          );
    }

pub slot-whole : (x : Scene) (t : Task) → Whole (SheetAreas.slot_figure x t)
slot-whole x t = svg-whole
    FIGURE_WIDTH (frame_height (SheetAreas.slot_frame x t)) (codes "The slot of " ++ t.name) (SheetAreas.slot_description x t) (SheetAreas.slot_body x t)
    (slot-body-whole x t)

module-body-whole : (x : Scene) → Whole (SheetAreas.module_body x)
module-body-whole x =
    let f : Frame = SheetAreas.module_frame x in
    record {
      reads = λ around. through
          (around, Words)
          (Stays (SheetAreas.lens_below f first_place (base x.desk.post.heap) (length (module_cards x)))
          ∷ Stays (SheetRows.rows_text f (SheetAreas.module_plot x))
          ∷ Stays (SheetCards.cards_below (rows_foot f + LENS_HEIGHT) (module_cards x)) ∷ []) (
            (lens-below-whole f first_place (base x.desk.post.heap) (length (module_cards x))).reads around,
            (
              (rows-whole f (SheetAreas.module_plot x) (area-value module_area)).reads around,
              ((below-whole (rows_foot f + LENS_HEIGHT) (module_cards x)).reads around, tt),
            ),
          );
    }

pub module-whole : (x : Scene) → Whole (SheetAreas.module_figure x)
module-whole x = svg-whole
    FIGURE_WIDTH (frame_height (SheetAreas.module_frame x)) (codes "The module area") (SheetAreas.module_description x) (SheetAreas.module_body x)
    (module-body-whole x)

-- ---- the chart

life-whole : (alive : Bool) (name : Text) (gap x foot : ℕ) → Whole (Chart.life_text alive name gap x foot)
life-whole alive name gap x foot = whole-both
    _ _ (words-whole (Chart.life_class alive) _ _ _ (value-both
    (codes "who") _ (plain refl) (value-so (not alive) (codes " dead") (plain refl))))
    (path-whole (codes "life") _ (plain refl) (value-both
    (point_text (codes "M") x _) _ (point (codes "M") x _ (plain refl)) (stretch-value (codes "V") foot (plain refl))))

fate-value : (fate : Fate) → Value (Chart.fate_class fate)
fate-value Queued = plain refl
fate-value Taken = value-none
fate-value Held = plain refl
fate-value Answered = value-none
fate-value Back = plain refl
fate-value Returned = value-none
fate-value Vanished = plain refl

message-value : (fate : Fate) (now : Bool) → Value (Chart.message_class fate now)
message-value fate now = value-both
    (codes "msg") _ (plain refl) (value-both
    (Chart.fate_class fate) _ (fate-value fate) (value-both
    (where_so now (codes " now")) [] (value-so now (codes " now") (plain refl)) value-none))

words-value : (west now : Bool) → Value (Chart.words_class west now)
words-value true true = record { reads = λ around name. refl }
words-value true false = record { reads = λ around name. refl }
words-value false true = record { reads = λ around name. refl }
words-value false false = record { reads = λ around name. refl }

side-value : (west : Bool) → Value (Chart.side_letters west)
side-value true = record { reads = λ around name. refl }
side-value false = record { reads = λ around name. refl }

message-way : (short lost : Bool) (x0 y0 x1 y1 : ℕ) → Value (Chart.message_way short lost x0 y0 x1 y1)
message-way short lost x0 y0 x1 y1 = value-if
    short _ _ (value-both
    (point_text (codes "M") x0 _) _ (point (codes "M") x0 _ (plain refl)) (stretch-value _ _ (side-value (nat_lt x1 x0))))
    (value-if
    (x0 == x1) _ _ (four-points _ _ _ _ _ _ _ _)
    (value-if
    lost _ _
    (value-both (point_text (codes "M") x0 _) _ (point (codes "M") x0 _ (plain refl)) (point (codes "L") _ _ (plain refl)))
    (value-both (point_text (codes "M") x0 _) _ (point (codes "M") x0 _ (plain refl)) (point (codes "L") _ y1 (plain refl)))))

chart-body-whole : (d : Desk) (drawn : List Chart.Arrow) (tasks steps : List ℕ) (step : ℕ) → Whole (Chart.chart_body d drawn tasks steps step)
chart-body-whole d drawn tasks steps step = record {
  reads = λ around. through
      (around, Words)
      (Stays (flat_map (Chart.life_of d tasks steps) tasks) ∷ Stays (flat_map (λ s. Chart.beat_text (Chart.step_y steps s) s) steps)
      ∷ Stays (flat_map (Chart.arrow_path tasks steps step) drawn) ∷ Stays (flat_map (Chart.arrow_words tasks steps step) drawn) ∷ []) (
        (whole-all (Chart.life_of d tasks steps) tasks (λ h. life-whole _ _ _ _ _)).reads around,
        (
          (whole-all (λ s. Chart.beat_text (Chart.step_y steps s) s) steps (λ s. words-whole (codes "beat") _ _ _ (plain refl))).reads around,
          (
            (whole-all (Chart.arrow_path tasks steps step) drawn (λ (a : Chart.Arrow). path-whole _ _ (message-value _ _)
                (message-way (Chart.is_short a) (Chart.is_lost a.fate) (Chart.task_x tasks a.from) (Chart.step_y steps a.start) (Chart.task_x tasks a.to)
                (Chart.step_y steps a.stop)))).reads around,
            ((whole-all (Chart.arrow_words tasks steps step) drawn (λ a. words-whole _ _ _ _ (words-value _ _))).reads around, tt),
          ),
        ),
      );
}

pub chart-whole : (d : Desk) (drawn : List Chart.Arrow) (step : ℕ) → Whole (Chart.chart_of d drawn step)
chart-whole d [] step = whole-none
chart-whole d (a ∷ drawn) step = svg-whole
    CHART_WIDTH (Chart.chart_foot (Chart.steps_in (a ∷ drawn)) + CHART_EDGE) (codes "Messages between the tasks")
    (flat_map (Chart.arrow_sentence d) (a ∷ drawn)) (Chart.chart_body d (a ∷ drawn) (Chart.tasks_in (a ∷ drawn)) (Chart.steps_in (a ∷ drawn)) step)
    (chart-body-whole d (a ∷ drawn) (Chart.tasks_in (a ∷ drawn)) (Chart.steps_in (a ∷ drawn)) step)
