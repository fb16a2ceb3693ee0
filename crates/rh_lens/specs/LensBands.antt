-- What a slot's lens is drawn from, and its bands, from above: the strip of pages, the flex blocks, room for arrows, and
-- the C heap with the anchors at its left. Read Anchors first. x is the scene, t a task, v what is drawn, w the width of
-- the lens, s the scale. `-` of naturals doesn't have to stop: a lens has at least *LEAST_WIDTH* units.
use Rattle.std.specs.Prelude.{ℕ, ◌+◌, ◌-◌, ◌==◌, max, if◌then◌else◌, List, length}
use Rattle.rh_defs.specs.Desk.{Task}
use Rattle.rh_figure.specs.Phrases.{Text}
use Rattle.rh_figure.specs.Scene.{Scene}
use Rattle.rh_figure.specs.Share.{SlotOf}
use Rattle.rh_figure.specs.Layout.{slot_pieces}
use Rattle.rh_figure.specs.declared.piece.Piece.{Piece}
use Rattle.rh_sheet.specs.Owners.{task_class}
use Rattle.rh_lens.specs.Items.{Item, c_heap_items, flex_items}
use Rattle.rh_lens.specs.LensSpots.{PartSpot, spots, rows_of, rows_height}
use Rattle.rh_lens.specs.Anchors.{ShownAnchor, shown_anchors, heap_left, anchors_height}
use Rattle.rh_lens.specs.declared.sizes.TheConstants.{STRIP, STRIP_GAP, HEADING, ARROWS, FOOT}

-- The name of a slot's task, its tint, the numbers of its pages, all of its pieces, the parts of its C heap, those above,
-- and its anchors.
pub record SlotLook : Type 0 where
  pub name : Text
  pub tint : Text
  pub pages : List ℕ
  pub pieces : List Piece
  pub heap : List Item
  pub flex : List Item
  pub anchors : List ShownAnchor

abbrev pub slot_look : Scene → Task → SlotLook
slot_look x t = record {
  name = t.name;
  tint = task_class t.handle;
  pages = x.share.pages_of (SlotOf t.handle);
  pieces = slot_pieces x t.handle t.slot;
  heap = c_heap_items x t;
  flex = flex_items x t;
  anchors = shown_anchors x t;
}

-- ---- parts

abbrev pub flex_spots : SlotLook → ℕ → ℕ → List PartSpot
flex_spots v w s = spots w s v.flex

-- what the anchors leave of a lens's width
abbrev pub heap_room : ℕ → ℕ → ℕ
heap_room w n = w - heap_left n

abbrev pub heap_spots : SlotLook → ℕ → ℕ → List PartSpot
heap_spots v w s = spots (heap_room w (length v.anchors)) s v.heap

-- ---- heights

-- how many rows the bands have, and how many anchors there are
pub record Heights : Type 0 where
  pub flex : ℕ
  pub heap : ℕ
  pub anchors : ℕ

abbrev pub heights_of : SlotLook → ℕ → ℕ → Heights
heights_of v w s = record {
  flex = rows_of (flex_spots v w s);
  heap = rows_of (heap_spots v w s);
  anchors = length v.anchors;
}

-- where bands of so many rows begin and end
abbrev pub bands_top : ℕ
bands_top = STRIP + STRIP_GAP

abbrev pub flex_foot : ℕ → ℕ
flex_foot rows = bands_top + HEADING + rows_height rows

-- without a flex block the upper band is missing
abbrev pub heap_top : ℕ → ℕ
heap_top flex_rows = if flex_rows == 0 then bands_top + HEADING else flex_foot flex_rows + ARROWS + STRIP_GAP

abbrev pub heap_foot : Heights → ℕ
heap_foot h = heap_top h.flex + max (rows_height h.heap) (anchors_height h.anchors)

abbrev pub lens_height : Heights → ℕ
lens_height h = heap_foot h + FOOT
