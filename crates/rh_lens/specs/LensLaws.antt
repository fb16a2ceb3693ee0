-- What holds of every lens. Read LensSpots and PartWords first. r is the width of a row, s the scale, d a desk, t a task.
use Rattle.std.specs.Prelude.{◌≡◌, ◌⊎◌, ℕ, Bool, true, ◌+◌, ◌*◌, ◌≤◌, List, [], ◌∷◌, ◌++◌, length, map}
use Rattle.std.specs.List.{AllByRecursion}
use Rattle.rh_defs.specs.declared.sizes.TheConstants.{C_HEAP_PLACE}
use Rattle.rh_defs.specs.Pieces.{page_size}
use Rattle.rh_defs.specs.Slot.{slot_pages}
use Rattle.rh_defs.specs.Desk.{Desk, Task, module_pages}
use Rattle.rh_figure.specs.Phrases.{Text}
use Rattle.rh_figure.specs.Share.{Share}
use Rattle.rh_figure.specs.Scene.{Scene, Before, Marks, scene_of}
use Rattle.rh_figure.specs.Layout.{Tile}
use Rattle.rh_sheet.specs.WellFormed.{HasWholeElements}
use Rattle.rh_figure.specs.declared.piece.Kind.{Kind}
use Rattle.rh_figure.specs.declared.piece.Piece.{Piece}
use Rattle.rh_lens.specs.Items.{Item, Lines, c_heap_items, flex_items, module_items}
use Rattle.rh_lens.specs.Widths.{cells_width, has_cells}
use Rattle.rh_lens.specs.LensSpots.{PartSpot, spots}
use Rattle.rh_lens.specs.PartWords.{room_of, item_words}
use Rattle.rh_lens.specs.Lens.{module_lens, slot_lens}
use Rattle.rh_lens.specs.declared.sizes.TheConstants.{LETTER, EDGE, GAP}

-- ---- rows

-- A part stands to the right of the one before it, or begins the next row.
abbrev pub StandsBehind : PartSpot → PartSpot → Type 0
StandsBehind p q = ((q.row ≡ p.row) × (p.x + p.width + GAP ≤ q.x)) ⊎ ((q.row ≡ p.row + 1) × (q.x ≡ 0))

-- each part ends within its row, and follows the one before
abbrev pub StandInRows : ℕ → List PartSpot → Type 0
StandInRows r [] = Unit {0}
StandInRows r (p ∷ []) = p.x + p.width ≤ r
StandInRows r (p ∷ q ∷ ps) = (p.x + p.width ≤ r) × StandsBehind p q × StandInRows r (q ∷ ps)

-- the parts of a row don't lie over each other, and no row is longer than it may be, at each width and each scale
abbrev pub StandsApart : Type 0
StandsApart = (r s : ℕ) (items : List Item) → StandInRows r (spots r s items)

-- ---- words

-- a text that has room in so many units, or none
abbrev pub FitsIn : ℕ → Text → Type 0
FitsIn w t = (length t ≡ 0) ⊎ (LETTER * length t + EDGE ≤ w)

pub record AllFitIn (w : ℕ) (l : Lines) : Type 0 where
  pub first : FitsIn w l.first
  pub second : FitsIn w l.second
  pub third : FitsIn w l.third

-- each line of a part lies within the part, behind its header, and where it is broken before the mark of that
abbrev pub WordsHaveRoom : Type 0
WordsHaveRoom = (start w : ℕ) (broken : Bool) (i : Item) → AllFitIn (room_of broken w i) (item_words start broken w i)

-- a part whose bytes have cells has room for its header and for a cell for each
abbrev pub CellsHaveRoom : Type 0
CellsHaveRoom = (w : ℕ) (i : Item) (kind : Kind) → has_cells w i kind ≡ true → cells_width kind ≤ w

-- ---- all bytes

-- the pieces of some parts
abbrev pub pieces_of : List PartSpot → List Piece
pieces_of ps = map (λ (p : PartSpot). p.item.piece) ps

-- the parts of a slot's C heap and flex blocks are its bytes from behind the anchors to the last one, at each width of
-- either band and each scale
abbrev pub ShowsSlot : Task → Type 0
ShowsSlot t = (x : Scene) (h f s : ℕ) → Tile C_HEAP_PLACE (page_size * slot_pages t.slot)
    (pieces_of (spots h s (c_heap_items x t)) ++ pieces_of (spots f s (flex_items x t)))

-- the parts of each slot and of the module area are all of its bytes, in order
pub record LeavesNothingOut (d : Desk) : Type 0 where
  pub slots : AllByRecursion ShowsSlot d.tasks
  pub module_area : (h : Share) (b : Before) (m : Marks) (r s : ℕ) →
      Tile 0 (page_size * module_pages d) (pieces_of (spots r s (module_items (scene_of d h b m))))

-- ---- elements

-- whatever a desk holds, a lens of any width and scale consists of whole elements
pub record AreWholeLenses : Type 0 where
  pub slots : (x : Scene) (t : Task) (w s : ℕ) → HasWholeElements (slot_lens x t w s)
  pub module_area : (x : Scene) (w s : ℕ) → HasWholeElements (module_lens x w s)
