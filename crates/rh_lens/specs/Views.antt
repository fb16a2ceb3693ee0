-- What a lens is drawn from, by what the program has. Read LensBands first. item is what is told of pieces.
use Rattle.std.specs.Prelude.{ℕ, ◌≤◌, ◌<◌, List, length}
use Rattle.std.specs.List.{AllByRecursion}
use Rattle.rh_defs.specs.Slot.{anchor_count}
use Rattle.rh_defs.specs.declared.sizes.TheConstants.{LONGEST_NAME, MAX_PAGES}
use Rattle.rh_lens.specs.declared.sizes.TheConstants.{MOST_PIECES}
use Rattle.rh_elements.specs.Tints.{tint_class}
use Rattle.rh_figure.specs.declared.piece.Piece.{Piece}
use Rattle.rh_sheet.specs.Owners.{area_class}
use Rattle.rh_defs.specs.Desk.{module_area}
use Rattle.rh_lens.specs.Items.{Item}
use Rattle.rh_lens.specs.PlacedSpots.{AreTellable, LiesIn, seen_items}
use Rattle.rh_lens.specs.LensBands.{SlotLook}
use Rattle.rh_lens.specs.Lens.{AreaLook}
pub use Rattle.rh_lens.specs.declared.lens.SlotView.{SlotView}
pub use Rattle.rh_lens.specs.declared.lens.ModuleView.{ModuleView}

-- the lens of a slot
abbrev pub look_of : (Piece → Item) → SlotView → SlotLook
look_of item v = record {
  name = v.name.now;
  tint = tint_class v.tint;
  pages = v.pages.now;
  pieces = v.pieces.now;
  heap = seen_items item v.heap.now;
  flex = seen_items item v.flex.now;
  anchors = v.anchors.now;
}

-- the lens of the module area
abbrev pub module_look_of : (Piece → Item) → ModuleView → AreaLook
module_look_of item v = record {
  tint = area_class module_area;
  pages = v.pages.now;
  pieces = v.pieces.now;
  parts = seen_items item v.pieces.now;
}

-- ---- what is asked

-- the pages and pieces of an area
pub record CanBeStripped (pages : List ℕ) (pieces : List Piece) : Type 0 where
  pub some : 0 < length pages
  pub few : length pages ≤ MAX_PAGES
  pub within : AllByRecursion (LiesIn (length pages)) pieces

-- a slot of which a lens can be drawn: its pieces lie in its pages, and something is told of each
pub record CanBeDrawn (has_piece : Piece → Type 0) (v : SlotView) : Type 0 where
  pub name : length v.name.now ≤ LONGEST_NAME
  pub strip : CanBeStripped v.pages.now v.pieces.now
  pub heap : AreTellable has_piece v.heap.now
  pub flex : AreTellable has_piece v.flex.now
  pub few_heap : length v.heap.now ≤ MOST_PIECES
  pub few_flex : length v.flex.now ≤ MOST_PIECES
  pub anchors : length v.anchors.now ≤ anchor_count

-- a module area of which a lens can be drawn
pub record ModuleCanBeDrawn (has_piece : Piece → Type 0) (v : ModuleView) : Type 0 where
  pub strip : CanBeStripped v.pages.now v.pieces.now
  pub parts : AreTellable has_piece v.pieces.now
  pub few : length v.pieces.now ≤ MOST_PIECES
