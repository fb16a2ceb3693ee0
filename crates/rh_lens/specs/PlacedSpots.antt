-- Places of parts, by their items, and what is asked of pieces and of a band. Read LensSpots first. i is an item, p a piece,
-- n a number of pages, b a band.
use Rattle.std.specs.Prelude.{ℕ, ◌+◌, ◌*◌, ◌^◌, ◌<◌, ◌≤◌, List, map}
use Rattle.std.specs.List.{AllByRecursion}
use Rattle.rh_defs.specs.Pieces.{page_size}
use Rattle.rh_elements.specs.DrawPieces.{IsDrawable}
use Rattle.rh_figure.specs.declared.piece.Piece.{Piece}
use Rattle.rh_lens.specs.Items.{Item, seen}
use Rattle.rh_lens.specs.LensSpots.{PartSpot}
use Rattle.rh_lens.specs.declared.sizes.TheConstants.{MOST_SCALE, MOST_WIDTH}
pub use Rattle.rh_lens.specs.declared.parts.Band.{Band}
pub use Rattle.rh_lens.specs.declared.spots.Spot.{Spot}

abbrev pub part_spot : Item → Spot → PartSpot
part_spot i p = record { item = i; x = p.x; width = p.width; row = p.row }

-- the items of those pieces that have a byte
abbrev pub seen_items : (Piece → Item) → List Piece → List Item
seen_items item ps = map item (seen ps)

-- a piece of which something is told, and that can be drawn
abbrev pub IsTellable : (Piece → Type 0) → Piece → Type 0
IsTellable has_piece p = has_piece p × IsDrawable p

abbrev pub AreTellable : (Piece → Type 0) → List Piece → Type 0
AreTellable has_piece ps = AllByRecursion (IsTellable has_piece) ps

-- a piece lies in so many pages
abbrev pub LiesIn : ℕ → Piece → Type 0
LiesIn n p = p.at + p.size ≤ page_size * n

-- a band that can be drawn
pub record IsBand (b : Band) : Type 0 where
  pub start : b.start < 2 ^ 30
  pub room : b.room ≤ MOST_WIDTH
  pub scale : b.scale ≤ MOST_SCALE
  pub left : b.left ≤ MOST_WIDTH
  pub foot : b.foot < 2 ^ 26
