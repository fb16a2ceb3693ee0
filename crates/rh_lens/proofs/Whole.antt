-- The parts of a lens are all bytes of their area.
use Rattle.std.proofs.Common.{ℕ, ◌+◌, ◌*◌, ◌≡◌, Bool, true, false, refl, sym, ap, ap₂, ◌∙◌, subst, arith, append_assoc, List, [], ◌∷◌, ◌++◌, map}
use Rattle.std.specs.Prelude.{nat_lt, if◌then◌else◌, Option, Some, None}
use Rattle.std.proofs.lemmas.Bool.Decides.{nat_tests}
use Rattle.rh_defs.specs.Messages.{Parcel}
use Rattle.rh_defs.specs.Desk.{Desk, Task, module_pages}
use Rattle.rh_defs.specs.declared.sizes.TheConstants.{C_HEAP_PLACE}
use Rattle.rh_defs.specs.Pieces.{page_size}
use Rattle.rh_defs.specs.Slot.{slot_pages}
use Rattle.rh_defs.proofs.Lists.{all-mono}
use Rattle.rh_figure.specs.Scene.{Scene, scene_of, message_of_scene}
use Rattle.rh_figure.specs.Layout.{Tile, heap_pieces, flex_pieces, slot_legend, module_pieces}
use Rattle.rh_figure.specs.FigureLaws.{HasTiledSlot, HasTiledAreas}
use Rattle.rh_figure.specs.declared.piece.Kind.{Kind}
use Rattle.rh_figure.specs.declared.piece.Kind.TheVariants.{AnchorWords, Descriptor, Claimed, Posted, FreeHole, MoreSegments, FreeTop, FlexBlock, Unused}
use Rattle.rh_figure.specs.declared.piece.Piece.{Piece}
use Rattle.rh_lens.specs.Items.{Item, slot_item, slot_item_of, seen, unused_piece, module_item, module_item_of, posted_item, module_items}
use Rattle.rh_lens.specs.LensSpots.{PartSpot, spots, spots_from, next_spot, spot_here, spot_above, next_x, has_place, width_at}
use Rattle.rh_lens.specs.LensLaws.{pieces_of, ShowsSlot, LeavesNothingOut}

abbrev piece_in : Item → Piece
piece_in i = i.piece

-- of two spots of one item
chosen-kept : (t : Bool) (p q : PartSpot) (i : Item) → p.item ≡ i → q.item ≡ i → (if t then p else q).item ≡ i
chosen-kept true p q i ep eq = ep
chosen-kept false p q i ep eq = eq

next-kept : (r s x row : ℕ) (i : Item) → (next_spot r s x row i).item ≡ i
next-kept r s x row i = chosen-kept
    (has_place r x (width_at r s x i)) (spot_here r s x row i) (spot_above r s row i) i refl refl

spots-kept : (r s x row : ℕ) (items : List Item) → pieces_of (spots_from r s x row items) ≡ map piece_in items
spots-kept r s x row [] = refl
spots-kept r s x row (i ∷ items) =
    ap₂ (λ (j : Item) ps. j.piece ∷ ps) (next-kept r s x row i)
    (spots-kept r s (next_x (next_spot r s x row i)) (next_spot r s x row i).row items)

items-kept : (f : Piece → Item) (ps : List Piece) → ((p : Piece) → (f p).piece ≡ p) → map piece_in (map f ps) ≡ ps
items-kept f [] each = refl
items-kept f (p ∷ ps) each = ap (λ x. x ∷ map piece_in (map f ps)) (each p) ∙ ap (λ xs. p ∷ xs) (items-kept f ps each)

slot-kept : (t : Task) (p : Piece) (k : Kind) → (slot_item_of t p k).piece ≡ p
slot-kept t p AnchorWords = refl
slot-kept t p Descriptor = refl
slot-kept t p (Claimed n) = refl
slot-kept t p (Posted ref) = refl
slot-kept t p FreeHole = refl
slot-kept t p (MoreSegments n) = refl
slot-kept t p FreeTop = refl
slot-kept t p (FlexBlock k n) = refl
slot-kept t p Unused = refl

posted-kept : (x : Scene) (p : Piece) (m : Option Parcel) → (posted_item x p m).piece ≡ p
posted-kept x p None = refl
posted-kept x p (Some m) = refl

module-kept : (x : Scene) (p : Piece) (k : Kind) → (module_item_of x p k).piece ≡ p
module-kept x p AnchorWords = refl
module-kept x p Descriptor = refl
module-kept x p (Claimed n) = refl
module-kept x p (Posted ref) = posted-kept x p (message_of_scene x (p.at + 4))
module-kept x p FreeHole = refl
module-kept x p (MoreSegments n) = refl
module-kept x p FreeTop = refl
module-kept x p (FlexBlock k n) = refl
module-kept x p Unused = refl

-- the spots of pieces have these pieces
all-kept : (r s : ℕ) (f : Piece → Item) (ps : List Piece) → ((p : Piece) → (f p).piece ≡ p)
    → pieces_of (spots r s (map f ps)) ≡ ps
all-kept r s f ps each = spots-kept r s 0 0 (map f ps) ∙ items-kept f ps each

-- ---- pieces without bytes

seen-apart : (t : Bool) (p : Piece) (xs ys : List Piece)
    → ((if t then p ∷ xs else xs) ++ ys) ≡ (if t then p ∷ (xs ++ ys) else (xs ++ ys))
seen-apart true p xs ys = refl
seen-apart false p xs ys = refl

seen-append : (ps qs : List Piece) → seen (ps ++ qs) ≡ seen ps ++ seen qs
seen-append [] qs = refl
seen-append (p ∷ ps) qs =
    ap (λ xs. if nat_lt 0 p.size then p ∷ xs else xs) (seen-append ps qs)
    ∙ sym (seen-apart (nat_lt 0 p.size) p (seen ps) (seen qs))

seen-tile : (t : Bool) (a b : ℕ) (p : Piece) (ps : List Piece) → (t ≡ false → p.size ≡ 0) → p.at ≡ a
    → Tile (a + p.size) b ps → Tile a b (if t then p ∷ ps else ps)
seen-tile true a b p ps none at tile = (at, tile)
seen-tile false a b p ps none at tile = subst (λ n. Tile n b ps) (omega (arith, none refl)) tile

no-bytes : (n : ℕ) → nat_lt 0 n ≡ false → n ≡ 0
no-bytes n e = grind (arith, nat_tests)

-- pieces that lie one after the other do so without those that have no byte
seen-tiled : (a b : ℕ) (ps : List Piece) → Tile a b ps → Tile a b (seen ps)
seen-tiled a b [] tile = tile
seen-tiled a b (p ∷ ps) (at, tile) = seen-tile
    (nat_lt 0 p.size) a b p (seen ps) (no-bytes p.size) at (seen-tiled (a + p.size) b ps tile)

-- ---- areas

-- the two bands of a slot are what is seen of both
bands-kept : (x : Scene) (t : Task) (h f s : ℕ) (hs fs us : List Piece)
    → pieces_of (spots h s (map (slot_item t) (seen hs))) ++ pieces_of (spots f s (map (slot_item t) (seen (fs ++ us))))
    ≡ seen ((hs ++ fs) ++ us)
bands-kept x t h f s hs fs us =
    ap₂ (λ ps qs. ps ++ qs)
    (all-kept h s (slot_item t) (seen hs) (λ p. slot-kept t p p.kind))
    (all-kept f s (slot_item t) (seen (fs ++ us)) (λ p. slot-kept t p p.kind))
    ∙ sym (seen-append hs (fs ++ us)) ∙ ap seen (sym (append_assoc hs fs us))

slot-shown : (t : Task) → HasTiledSlot t → ShowsSlot t
slot-shown t tiled x h f s =
    subst (λ ps. Tile C_HEAP_PLACE (page_size * slot_pages t.slot) ps)
    (sym (bands-kept x t h f s (heap_pieces (slot_legend x t.handle) C_HEAP_PLACE t.slot.heap)
    (flex_pieces x t.handle (C_HEAP_PLACE + t.slot.heap.end) t.slot.blocks) (unused_piece t.slot ∷ [])))
    (seen-tiled C_HEAP_PLACE (page_size * slot_pages t.slot)
    (heap_pieces (slot_legend x t.handle) C_HEAP_PLACE t.slot.heap
    ++ flex_pieces x t.handle (C_HEAP_PLACE + t.slot.heap.end) t.slot.blocks ++ unused_piece t.slot ∷ [])
    (tiled x).1)

module-shown : (x : Scene) (n r s : ℕ) → Tile 0 n (module_pieces x) → Tile 0 n (pieces_of (spots r s (module_items x)))
module-shown x n r s tile = subst (λ ps. Tile 0 n ps)
    (sym (all-kept r s (module_item x) (seen (module_pieces x)) (λ p. module-kept x p p.kind)))
    (seen-tiled 0 n (module_pieces x) tile)

pub left-out-none : (d : Desk) → HasTiledAreas d → LeavesNothingOut d
left-out-none d tiled = record {
  slots = all-mono {Q = ShowsSlot} slot-shown d.tasks tiled.slots;
  module_area = λ h b m r s.
      module-shown (scene_of d h b m) (page_size * module_pages d) r s (tiled.module_area h b m);
}
