-- The pieces of a heap, of a slot and of the module area lie one after the other.
use Rattle.std.proofs.Common.{ℕ, ◌+◌, ◌*◌, ◌≤◌, ◌≡◌, refl, subst, sym, ap, ◌∙◌, arith, List, [], ◌∷◌, ◌++◌, length, take, drop}
use Rattle.std.proofs.lemmas.List.{take-append-drop}
use Rattle.rh_defs.specs.SlotImage.{heap_place}
use Rattle.rh_defs.specs.Pieces.{total, page_size}
use Rattle.rh_defs.specs.Heap.{Heap, Segment, Used, Hole, size_of, first_place, base}
use Rattle.rh_defs.specs.Slot.{Slot, Flex, IsSlot, weight, slot_pages}
use Rattle.rh_defs.specs.Desk.{Desk}
use Rattle.rh_defs.specs.Laws.{IsDesk, Always}
use Rattle.rh_defs.proofs.Lists.{all-mono}
use Rattle.rh_defs.proofs.HeapLists.{total-append}
use Rattle.rh_defs.proofs.Spaced.{always-is}
use Rattle.rh_figure.specs.Scene.{Scene, scene_of}
use Rattle.rh_figure.specs.Layout.{Tile, Piece, Legend, segment_pieces, more_pieces, heap_pieces, flex_pieces, slot_pieces, slot_legend, module_legend}
use Rattle.rh_figure.specs.FigureLaws.{HasTiledSlot, HasTiledAreas}
use Rattle.rh_figure.specs.declared.limits.TheConstants.{MOST_SEGMENTS}

pub tile-join : (a b c : ℕ) (ps qs : List Piece) → Tile a b ps → Tile b c qs → Tile a c (ps ++ qs)
tile-join a b c [] qs e t = subst (λ n. Tile n c qs) (sym e) t
tile-join a b c (p ∷ ps) qs (at, rest) t = (at, tile-join (a + p.size) b c ps qs rest t)

pub tile-to : (a b c : ℕ) (ps : List Piece) → b ≡ c → Tile a b ps → Tile a c ps
tile-to a b c ps e t = subst (λ n. Tile a n ps) e t

pub segments-tile : (g : Legend) (p : ℕ) (ss : List Segment) → Tile p (p + total size_of ss) (segment_pieces g p ss)
segments-tile g p [] = omega arith
segments-tile g p (Used bytes ∷ ss) = (
  refl,
  tile-to _ _ _ (segment_pieces g (p + (4 + length bytes)) ss) (omega arith) (segments-tile g (p +
      (4 + length bytes)) ss),
)
segments-tile g p (Hole size ∷ ss) =
    (refl, tile-to _ _ _ (segment_pieces g (p + size) ss) (omega arith) (segments-tile g (p + size) ss))

pub more-tile : (p : ℕ) (ss : List Segment) → Tile p (p + total size_of ss) (more_pieces p ss)
more-tile p [] = omega arith
more-tile p (s ∷ ss) = (refl, refl)

-- the sizes of the first segments and of the others are those of all
pub parts-total : (n : ℕ) (ss : List Segment) → total size_of (take n ss) + total size_of (drop n ss) ≡ total size_of ss
parts-total n ss = sym (total-append (take n ss) (drop n ss)) ∙ ap (total size_of) (take-append-drop n ss)

pub heap-tile : (g : Legend) (at : ℕ) (h : Heap) → base h ≤ h.end → Tile at (at + h.end) (heap_pieces g at h)
heap-tile g at h fits =
    let first = take MOST_SEGMENTS h.segments in
    let others = drop MOST_SEGMENTS h.segments in
    let parts = parts-total MOST_SEGMENTS h.segments in (
      refl,
      tile-join _ _ (at + h.end) (segment_pieces g (at + first_place) first
          ++ more_pieces (at + first_place + total size_of first) others) _
          (tile-join _ _ _ (segment_pieces g (at + first_place) first) _
          (segments-tile g (at + first_place) first)
          (more-tile (at + first_place + total size_of first) others))
          (omega (arith, parts), omega (arith, parts, fits)),
    )

pub flex-tile : (x : Scene) (h p : ℕ) (blocks : List Flex) → Tile p (p + total weight blocks) (flex_pieces x h p blocks)
flex-tile x h p [] = omega arith
flex-tile x h p (b ∷ blocks) =
    (refl, tile-to _ _ _ (flex_pieces x h (p + weight b) blocks) (omega arith) (flex-tile x h (p + weight b) blocks))

pub slot-tile : (x : Scene) (h : ℕ) (s : Slot) → IsSlot s → Tile 0 (page_size * slot_pages s) (slot_pieces x h s)
slot-tile x h s is = (
  refl,
  tile-join heap_place _ (page_size * slot_pages s) (heap_pieces (slot_legend x h) heap_place s.heap
      ++ flex_pieces x h (heap_place + s.heap.end) s.blocks) _
      (tile-join heap_place _ _ (heap_pieces (slot_legend x h) heap_place s.heap) _
      (heap-tile (slot_legend x h) heap_place s.heap is.heap.fits)
      (flex-tile x h (heap_place + s.heap.end) s.blocks))
      (refl, omega arith),
)

pub tiled-of : (d : Desk) → IsDesk d → HasTiledAreas d
tiled-of d is = record {
  slots = all-mono {Q = HasTiledSlot} (λ t slot x. slot-tile x t.handle t.slot slot) d.tasks is.slots;
  module_area = λ s b m.
      tile-to _ _ _ (heap_pieces (module_legend (scene_of d s b m)) 0 d.post.heap) (omega (arith, is.post.heap.whole))
      (heap-tile (module_legend (scene_of d s b m)) 0 d.post.heap is.post.heap.heap.fits);
}

pub always-tiled : Always HasTiledAreas
always-tiled pool handle ref files commands from ranged =
    tiled-of _ (always-is pool handle ref files commands from ranged)
