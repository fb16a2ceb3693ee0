-- What holds of every sheet. Read Sheet first. t is a text, b a byte or a rectangle.
use Rattle.std.specs.Prelude.{◌≡◌, ◌≢◌, ℕ, ◌+◌, ◌<◌, ◌≤◌, Bool, true, List, [], ◌∷◌, length, take, codes}
use Rattle.std.specs.List.{list_any}
use Rattle.std.specs.Str.{bytes_eq}
use Rattle.rh_defs.specs.Desk.{Desk}
use Rattle.rh_defs.specs.Order.{IsReordered}
use Rattle.rh_figure.specs.Phrases.{Text}
use Rattle.rh_figure.specs.Map.{Stage}
use Rattle.rh_figure.specs.declared.piece.Piece.{Piece}
use Rattle.rh_figure.specs.Cards.{CardKind}
use Rattle.rh_sheet.specs.Markup.{Box, escape}
use Rattle.rh_sheet.specs.Frames.{Frame, shown_rows, rows_foot, row_y}
use Rattle.rh_sheet.specs.SheetPieces.{low_in, high_in, piece_box}
use Rattle.rh_sheet.specs.SheetRows.{page_box}
use Rattle.rh_sheet.specs.SheetCards.{card_box, card_x}
use Rattle.rh_sheet.specs.Pool.{cell_x}
use Rattle.rh_sheet.specs.Sheet.{Walk, sheet_lines}
use Rattle.rh_sheet.specs.declared.sizes.TheConstants.{LEFT, ROW_WIDTH, ROW_HEIGHT, FIGURE_WIDTH, CELL}

-- ---- text

-- the names of the four signs, as they stand behind an ampersand
abbrev pub sign_names : List Text
sign_names = codes "amp;" ∷ codes "lt;" ∷ codes "gt;" ∷ codes "quot;" ∷ []

-- whether a text begins with the name of a sign
abbrev pub begins_sign : Text → Bool
begins_sign t = list_any (λ (name : Text). bytes_eq (take (length name) t) name) sign_names

-- a byte before a text that ends no text: no `<`, `>` or `"`, and `&` before the name of a sign alone
pub record IsInert (b : ℕ) (t : Text) : Type 0 where
  pub less : b ≢ 60
  pub more : b ≢ 62
  pub quote : b ≢ 34
  pub sign : b ≡ 38 → begins_sign t ≡ true

-- a text of such bytes
abbrev pub IsEscaped : Text → Type 0
IsEscaped [] = Unit {0}
IsEscaped (b ∷ t) = IsInert b t × IsEscaped t

-- whatever stands in a text or a tip, no element begins or ends in it
abbrev pub EscapesAll : Type 0
EscapesAll = (t : Text) → IsEscaped (escape t)

-- ---- rectangles

-- a rectangle lies within the width of a row
pub record IsInRow (b : Box) : Type 0 where
  pub left : LEFT ≤ b.x
  pub right : b.x + b.width ≤ LEFT + ROW_WIDTH

-- Each piece that has bytes in a page lies within the page's row, and so does the row itself; the rows of a figure lie
-- above its foot, and its cards and the squares of the pool within its width.
pub record LiesInside : Type 0 where
  pub pieces :
      (start : ℕ) (tint : Text) (y k : ℕ) (p : Piece) → low_in k p < high_in k p → IsInRow (piece_box start tint y k p)
  pub pages : (class : Text) (y : ℕ) → IsInRow (page_box class y)
  pub rows : (f : Frame) (i : ℕ) → i < shown_rows f.pages → row_y f i + ROW_HEIGHT ≤ rows_foot f
  pub cards : (kind : CardKind) (fresh : Bool) (i y : ℕ) →
      (card_box kind fresh (card_x i) y).x + (card_box kind fresh (card_x i) y).width ≤ FIGURE_WIDTH
  pub squares : (k : ℕ) → cell_x k + CELL ≤ LEFT + ROW_WIDTH

-- ---- order

-- where a sheet would stand over another desk
abbrev pub at_desk : Desk → Walk → Walk
at_desk d x = record x { place = record x.place { desk = d } }

-- no sheet shows the order of messages to different tasks
abbrev pub DrawsNoOrder : Type 0
DrawsNoOrder = (marked : Bool) (a b : Desk) (x : Walk) (stages : List Stage) → IsReordered a b →
    sheet_lines marked (at_desk b x) stages ≡ sheet_lines marked (at_desk a x) stages
