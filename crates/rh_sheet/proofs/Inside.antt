-- Rectangles lie within their figure.
use Rattle.std.proofs.Common.{ℕ, ◌<◌, ◌≤◌, ◌+◌, ◌-◌, ◌*◌, ◌/◌, ◌%◌, arith, List}
use Rattle.std.specs.Prelude.{min}
use Rattle.rh_figure.specs.declared.piece.Piece.{Piece}
use Rattle.rh_sheet.specs.Frames.{shown_rows, rows_top}
use Rattle.rh_sheet.specs.SheetPieces.{low_in, high_in, piece_box}
use Rattle.rh_sheet.specs.SheetRows.{page_box}
use Rattle.rh_sheet.specs.SheetLaws.{IsInRow, LiesInside}

-- whole words of a page end with the page
words-fit : (low high : ℕ) → low < high → high ≤ 4096 → low / 4 + (high - low) / 4 ≤ 1024
words-fit low high some short = omega arith

-- no piece has a byte of a page behind its end
ends-in-page : (n : ℕ) → min n 4096 ≤ 4096
ends-in-page n = omega arith

piece-inside : (start : ℕ) (tint : List ℕ) (y k : ℕ) (p : Piece) → low_in k p < high_in k p
    → IsInRow (piece_box start tint y k p)
piece-inside start tint y k p some = record {
  left = omega arith;
  right = omega (arith, words-fit (low_in k p) (high_in k p) some (ends-in-page (p.at + p.size - 4096 * k)));
}

page-inside : (class : List ℕ) (y : ℕ) → IsInRow (page_box class y)
page-inside class y = record { left = omega arith; right = omega arith }

-- row i of n rows below a height
row-above : (height n i : ℕ) → i < n → height + 30 * (n - 1 - i) + 3 + 24 ≤ height + 30 * n
row-above height n i few = omega arith

-- card i counted from the left
card-inside : (i : ℕ) → 150 + 170 * (i % 6) + 1 + 164 ≤ 1176
card-inside i = omega arith

-- the square of page k counted from the left
square-inside : (k : ℕ) → 150 + 32 * (k % 32) + 32 ≤ 1174
square-inside k = omega arith

pub lies-inside : LiesInside
lies-inside = record {
  pieces = piece-inside;
  pages = page-inside;
  rows = λ f i few. row-above (rows_top f) (shown_rows f.pages) i few;
  cards = λ kind fresh i y. card-inside i;
  squares = square-inside;
}
