-- The strip above a lens: all pages of an area at true scale, with their addresses and numbers, and what lies in them.
-- Read Layout of rh_figure and LensWords first. w is the width of the lens, n the number of pages, k one of them, o an offset.
-- `-` of naturals doesn't have to stop: a page ends behind its beginning, and so does a piece.
use Rattle.std.specs.Prelude.{ℕ, ◌+◌, ◌-◌, ◌*◌, ◌/◌, max, not, List, [], ◌∷◌, ◌++◌, length, codes}
use Rattle.std.specs.List.{concat, flat_map, enumerate_from}
use Rattle.std.specs.Fmt.{decimal}
use Rattle.rh_defs.specs.Pieces.{page_size}
use Rattle.rh_defs.specs.Text.{address}
use Rattle.rh_figure.specs.Phrases.{Text, where_so}
use Rattle.rh_figure.specs.declared.piece.Piece.{Piece}
use Rattle.rh_sheet.specs.Markup.{Box, box_text, words_text}
use Rattle.rh_sheet.specs.SheetPieces.{kind_class}
use Rattle.rh_lens.specs.LensWords.{fitting_words}
use Rattle.rh_lens.specs.Widths.{is_free}
use Rattle.rh_lens.specs.declared.sizes.TheConstants.{STRIP, STRIP_PART, STRIP_LINE, STRIP_EDGE}

-- where an offset stands
abbrev pub strip_x : ℕ → ℕ → ℕ → ℕ
strip_x w n o = w * o / (page_size * n)

-- how wide the bytes from one offset to another are
abbrev pub strip_width : ℕ → ℕ → ℕ → ℕ → ℕ
strip_width w n low high = strip_x w n high - strip_x w n low

-- the address of a page, and its number in the pool
abbrev pub page_choices : ℕ → ℕ → List Text
page_choices at number =
    concat (address at ∷ codes " is page " ∷ decimal number ∷ [])
    ∷ concat (address at ∷ codes " page " ∷ decimal number ∷ []) ∷ address at ∷ []

abbrev pub strip_page_box : ℕ → ℕ → Text → ℕ → Box
strip_page_box w n tint k = record {
  class = codes "page " ++ tint;
  x = strip_x w n (page_size * k);
  y = 0;
  width = strip_width w n (page_size * k) (page_size * (k + 1));
  height = STRIP;
  tip = [];
}

abbrev pub strip_page_text : ℕ → ℕ → ℕ → Text → ℕ × ℕ → Text
strip_page_text start w n tint page =
    box_text (strip_page_box w n tint page.0)
    ++ words_text (codes "pagen") (strip_x w n (page_size * page.0) + STRIP_EDGE) STRIP_LINE
    (fitting_words (strip_width w n (page_size * page.0) (page_size * (page.0 + 1)))
    (page_choices (start + page_size * page.0) page.1))

-- what lies in the pages, along the strip's lower edge
abbrev pub strip_part_box : ℕ → ℕ → Piece → Box
strip_part_box w n p = record {
  class = codes "mark " ++ kind_class p.kind;
  x = strip_x w n p.at;
  y = STRIP - STRIP_PART;
  width = max 1 (strip_width w n p.at (p.at + p.size));
  height = STRIP_PART;
  tip = [];
}

-- what a piece has of it, if it isn't free
abbrev pub strip_piece_text : ℕ → ℕ → Piece → Text
strip_piece_text w n p = where_so (not (is_free p.kind)) (box_text (strip_part_box w n p))

-- the strip of an area that begins at an address, by the numbers of its pages from below and its pieces
abbrev pub strip_text : ℕ → ℕ → Text → List ℕ → List Piece → Text
strip_text start w tint pages pieces =
    flat_map (strip_page_text start w (length pages) tint) (enumerate_from 0 pages)
    ++ flat_map (strip_piece_text w (length pages)) pieces
