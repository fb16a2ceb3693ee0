-- The pool of pages: a square for each page, with its number, its owner's tint and tag. Read Owners and Markup first.
-- k is the number of a page and ks those of several, n the number of pages, y units from above.
use Rattle.std.specs.Prelude.{ℕ, ◌+◌, ◌-◌, ◌*◌, ◌/◌, ◌%◌, ◌==◌, nat_le, not, Bool, true, false, List, [], ◌∷◌, ◌++◌, take, codes}
use Rattle.std.specs.List.{concat, flat_map, range_with_len}
use Rattle.std.specs.Fmt.{decimal}
use Rattle.rh_defs.specs.Desk.{free_pages}
use Rattle.rh_figure.specs.Share.{Owner, Holding, holdings, count_of}
use Rattle.rh_figure.specs.Scene.{Scene}
use Rattle.rh_figure.specs.Phrases.{Text, where_so, listed_numbers, owner_name}
use Rattle.rh_figure.specs.Changes.{taken_pages, freed_pages, taken_line, freed_line}
use Rattle.rh_sheet.specs.Markup.{Box, box_text, fresh_class, escape, text_attribute, words_text, point_text, svg_text}
use Rattle.rh_sheet.specs.Owners.{owner_class, owner_tag}
use Rattle.rh_sheet.specs.declared.sizes.TheConstants.{LEFT, ROW_WIDTH, FIGURE_WIDTH, CELL, POOL_COLUMNS, FRAME_EDGE, NUMBERED, NUMBER_INDENT, NUMBER_BASELINE, TAG_BASELINE, POOL_NAME_Y, POOL_NOTE_Y}

-- ---- squares

-- where the square of page k begins, from the left and from above
abbrev pub cell_x : ℕ → ℕ
cell_x k = LEFT + CELL * (k % POOL_COLUMNS)

abbrev pub cell_y : ℕ → ℕ
cell_y k = CELL * (k / POOL_COLUMNS)

-- the height of n pages
abbrev pub pool_height : ℕ → ℕ
pool_height n = CELL * ((n + (POOL_COLUMNS - 1)) / POOL_COLUMNS)

-- the way round the square of page k, inside its edges
abbrev pub square_way : ℕ → Text
square_way k = point_text (codes "M") (cell_x k + 1) (cell_y k + 1) ++ codes "h30v30h-30z"

-- the beginning of squares
abbrev pub squares_begin : Text → Text
squares_begin class = concat (codes "<path" ∷ text_attribute (codes "class") class ∷ codes " d=\"" ∷ [])

-- the squares of some pages, with a tip
abbrev pub some_squares : Text → List ℕ → Text → Text
some_squares class ks tip = concat (
    squares_begin class ∷ flat_map square_way ks ∷ codes "\"><title>" ∷ escape tip ∷ codes "</title></path>\n" ∷ []
    )

-- the squares of some pages, with a tip, if there are any
abbrev pub squares_text : Text → List ℕ → Text → Text
squares_text class [] tip = []
squares_text class (k ∷ ks) tip = some_squares class (k ∷ ks) tip

-- ---- the grid, which each figure of the pool uses

-- a part of the grid: so many rows of it from a height on, so many units wide
abbrev pub grid_box : ℕ → ℕ → ℕ → Box
grid_box y width height =
    record { class = codes "cells"; x = LEFT; y = y; width = width; height = height; tip = [] }

-- the whole rows of n pages, and the rest of them
abbrev pub whole_rows_text : ℕ → Text
whole_rows_text n =
    where_so (nat_le POOL_COLUMNS n) (box_text (grid_box 0 ROW_WIDTH (CELL * (n / POOL_COLUMNS))))

abbrev pub rest_row_text : ℕ → Text
rest_row_text n =
    where_so (not (n % POOL_COLUMNS == 0))
    (box_text (grid_box (CELL * (n / POOL_COLUMNS)) (CELL * (n % POOL_COLUMNS)) CELL))

-- the number of page k in its square
abbrev pub number_text : ℕ → Text
number_text k = words_text (codes "num") (cell_x k + NUMBER_INDENT) (cell_y k + NUMBER_BASELINE) (decimal k)

-- how many of n pages have numbers: the first one, and each fourth behind it
abbrev pub numbered : ℕ → ℕ
numbered n = (n + (NUMBERED - 1)) / NUMBERED

-- the ith of these numbers
abbrev pub numbered_text : ℕ → Text
numbered_text i = number_text (NUMBERED * i)

-- n squares, some with numbers
abbrev pub grid_text : ℕ → Text
grid_text n = concat (
    codes "<g id=\"grid\">\n" ∷ whole_rows_text n ∷ rest_row_text n ∷ flat_map numbered_text (range_with_len 0 (numbered n))
    ∷ codes "</g>\n" ∷ []
    )

-- ---- the figure

-- the pages that an owner had before, and those that it has taken, in one tint
abbrev pub owner_classes : Owner → Bool → Text
owner_classes o fresh = concat (codes "cell " ∷ owner_class o ∷ fresh_class fresh ∷ [])

abbrev pub kept_squares : Scene → Holding → Text
kept_squares x o = squares_text
    (owner_classes o.0 false) (take (count_of o.0 x.before.holdings) (x.share.pages_of o.0))
    (concat (owner_name x.desk o.0 ∷ codes ": page " ∷ listed_numbers (x.share.pages_of o.0) ∷ []))

abbrev pub taken_squares : Scene → Holding → Text
taken_squares x o = squares_text
    (owner_classes o.0 true) (taken_pages x o)
    (taken_line (owner_name x.desk o.0) (taken_pages x o))

abbrev pub owner_squares : Scene → Holding → Text
owner_squares x o = kept_squares x o ++ taken_squares x o

-- the pages that were given back
abbrev pub freed_squares : Scene → Text
freed_squares x = squares_text (codes "freed") (freed_pages x) (freed_line (freed_pages x))

-- a tag in the square of page k
abbrev pub tag_text : Text → ℕ → Text
tag_text tag k = words_text (codes "tag") (cell_x k + CELL / 2) (cell_y k + TAG_BASELINE) tag

-- the tags of an owner's pages
abbrev pub tags_text : Scene → Holding → Text
tags_text x o = flat_map (tag_text (owner_tag x.desk o.0)) (x.share.pages_of o.0)

-- how many pages of so many are free
abbrev pub free_text : ℕ → ℕ → Text
free_text free pages = concat (decimal free ∷ codes " of " ∷ decimal pages ∷ codes " free" ∷ [])

-- an owner's pages as they are read out, where it has some
abbrev pub owner_sentence : Text → List ℕ → Text
owner_sentence name [] = []
owner_sentence name (k ∷ ks) = concat (name ∷ codes ": page " ∷ listed_numbers (k ∷ ks) ∷ codes ". " ∷ [])

-- the pool as it is read out
abbrev pub pool_description : Scene → Text
pool_description x =
    flat_map (λ (o : Holding). owner_sentence (owner_name x.desk o.0) (x.share.pages_of o.0)) (holdings x.desk)
    ++ free_text (free_pages x.desk) x.desk.pool ++ codes "."

-- the name of the pool and how much of it is free, at its left
abbrev pub pool_side : ℕ → ℕ → Text
pool_side free pages =
    words_text (codes "side") 0 POOL_NAME_Y (codes "Pool") ++ words_text (codes "small") 0 POOL_NOTE_Y (free_text free pages)

-- all squares, the grid upon them, and tags
abbrev pub pool_body : Scene → Text
pool_body x = concat (
    flat_map (owner_squares x) (holdings x.desk) ∷ freed_squares x ∷ codes "<use href=\"#grid\"/>\n"
    ∷ flat_map (tags_text x) (holdings x.desk) ∷ pool_side (free_pages x.desk) x.desk.pool ∷ []
    )

abbrev pub pool_figure : Scene → Text
pool_figure x = svg_text
    FIGURE_WIDTH (pool_height x.desk.pool + FRAME_EDGE) (codes "The pool of pages") (pool_description x) (pool_body x)
