-- The pieces of an area end within it; the last piece of a slot; the anchors of its blocks.
use Rattle.rh_pictures.proofs.Common.{◌≡◌, ℕ, suc, ◌+◌, ◌-◌, ◌*◌, ◌<◌, ◌≤◌, refl, ap, sym, ◌∙◌, arith, false, List, [], ◌∷◌, ◌++◌, length, take, drop, Some}
use Rattle.rh_pictures.proofs.Common.{slice_get, AllByRecursion, BlockItem, base, Piece, Scene}
use Rattle.std.proofs.lemmas.List.{take-append-drop}
use Rattle.rh_defs.specs.Heap.{Heap, Segment, Used, Hole, size_of}
use Rattle.rh_defs.specs.Questions.{block_items_from}
use Rattle.rh_defs.specs.Pieces.{page_size, total}
use Rattle.rh_defs.specs.Slot.{Flex, HaveAnchors, Slot, slot_length, slot_pages, weight}
use Rattle.rh_defs.proofs.HeapLists.{total-append}
use Rattle.rh_defs.proofs.Lists.{all-join}
use Rattle.rh_figure.specs.Layout.{Legend, flex_pieces, heap_pieces, more_pieces, segment_pieces, slot_legend, slot_pieces}
use Rattle.rh_figure.specs.declared.piece.Kind.TheVariants.{AnchorWords, Unused}

-- ---- pieces end within an area

abbrev pub EndsBy : ℕ → Piece → Type 0
EndsBy n p = p.at + p.size ≤ n

segments-end : (n : ℕ) (g : Legend) (p : ℕ) (ss : List Segment) → p + total size_of ss ≤ n → AllByRecursion (EndsBy n) (segment_pieces g p ss)
segments-end n g p [] h = tt
segments-end n g p (Used bytes ∷ ss) h = (omega (arith, h), segments-end n g (p + (4 + length bytes)) ss (omega (arith, h)))
segments-end n g p (Hole size ∷ ss) h = (omega (arith, h), segments-end n g (p + size) ss (omega (arith, h)))

more-end : (n p : ℕ) (ss : List Segment) → p + total size_of ss ≤ n → AllByRecursion (EndsBy n) (more_pieces p ss)
more-end n p [] h = tt
more-end n p (s ∷ ss) h = (h, tt)

pub heap-ends : (n : ℕ) (g : Legend) (at : ℕ) (h : Heap) → base h ≤ h.end → at + h.end ≤ n → AllByRecursion (EndsBy n) (heap_pieces g at h)
heap-ends n g at h fits low =
    let first = take 512 h.segments in
    let others = drop 512 h.segments in
    let parts : total size_of first + total size_of others ≡ total size_of h.segments =
    sym (total-append first others) ∙ ap (total size_of) (take-append-drop 512 h.segments) in (
      omega (arith, fits),
      all-join (EndsBy n) (segment_pieces g (at + 16) first ++ more_pieces (at + 16 + total size_of first) others) _
          (all-join (EndsBy n) (segment_pieces g (at + 16) first) (more_pieces (at + 16 + total size_of first) others)
          (segments-end n g (at + 16) first (omega (arith, parts, fits)))
          (more-end n (at + 16 + total size_of first) others (omega (arith, parts, fits))))
          (omega (arith, fits), tt),
    )

flex-end : (n : ℕ) (x : Scene) (h p : ℕ) (blocks : List Flex) → p + total weight blocks ≤ n → AllByRecursion (EndsBy n) (flex_pieces x h p blocks)
flex-end n x h p [] e = tt
flex-end n x h p (b ∷ blocks) e = (omega (arith, e), flex-end n x h (p + weight b) blocks (omega (arith, e)))

pub slot-ends : (n : ℕ) (x : Scene) (h : ℕ) (s : Slot) → base s.heap ≤ s.heap.end → page_size * slot_pages s ≤ n → AllByRecursion (EndsBy n) (slot_pieces x h s)
slot-ends n x h s fits low = (
  omega (arith, low),
  all-join (EndsBy n) (heap_pieces (slot_legend x h) 256 s.heap ++ flex_pieces x h (256 + s.heap.end) s.blocks) _
      (all-join (EndsBy n) (heap_pieces (slot_legend x h) 256 s.heap) (flex_pieces x h (256 + s.heap.end) s.blocks)
      (heap-ends n (slot_legend x h) 256 s.heap fits (omega (arith, low)))
      (flex-end n x h (256 + s.heap.end) s.blocks (omega (arith, low))))
      (omega (arith, low), tt),
)

-- ---- the last piece

last-item : {A : Type 0} (xs : List A) (y : A) → slice_get (xs ++ y ∷ []) (length (xs ++ y ∷ []) - 1) ≡ Some y
last-item [] y = refl
last-item (x ∷ []) y = refl
last-item (x ∷ z ∷ xs) y =
    let k : length (x ∷ z ∷ xs ++ y ∷ []) - 1 ≡ suc (length (z ∷ xs ++ y ∷ []) - 1) = omega arith in
    ap (slice_get (x ∷ z ∷ xs ++ y ∷ [])) k ∙ last-item (z ∷ xs) y

-- what is unused begins where the flex blocks end
pub last-piece : (x : Scene) (h : ℕ) (s : Slot) (p : Piece) → slice_get (slot_pieces x h s) (length (slot_pieces x h s) - 1) ≡ Some p → p.at ≡ slot_length s
last-piece x h s p e =
    let u : Piece = record { kind = Unused; at = slot_length s; size = page_size * slot_pages s - slot_length s; fresh = false } in
    let k : Some u ≡ Some p = sym (last-item (record { kind = AnchorWords; at = 0; size = 256; fresh = false } ∷ heap_pieces
    (slot_legend x h) 256 s.heap ++ flex_pieces x h (256 + s.heap.end) s.blocks) u) ∙ e in
    let q : u ≡ p = cc in
    sym (ap (λ (z : Piece). z.at) q)

-- ---- anchors

pub anchors-small : (place : ℕ) (blocks : List Flex) → HaveAnchors blocks → AllByRecursion (λ (b : BlockItem). b.anchor < 64) (block_items_from place blocks)
anchors-small place [] h = tt
anchors-small place (b ∷ blocks) h = (h.0, anchors-small (place + weight b) blocks h.2)
