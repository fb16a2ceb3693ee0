-- The pieces of a heap and of a slot, joined, and how many they are.
use Rattle.rh_scene.proofs.Common.{◌≡◌, ℕ, ◌+◌, ◌-◌, ◌*◌, ◌<◌, ◌≤◌, Bool, true, false, eqb, refl, ap, sym, ◌∙◌, arith, List, [], ◌∷◌, ◌++◌, length, take}
use Rattle.rh_scene.proofs.Common.{drop, map, ◌||◌, AllByRecursion, eqb-true, length-append, length-take, take-append-drop, BlockItem, total, Heap, Segment}
use Rattle.rh_scene.proofs.Common.{first_place, place_after, size_of, block_items, total-append, Piece, Legend, heap_pieces, more_pieces, segment_pieces}
use Rattle.rh_scene.proofs.Common.{Scene, Hole, Used, HeapOf, area_start_of, heap_start_of, item_pieces, item_weight, legend_of, segment_item}
use Rattle.std.specs.List.{IsDistinct, list_any}
use Rattle.std.proofs.lemmas.List.{append-nil, length-map}
use Rattle.std.proofs.lemmas.Map.Steps.{length-le_from_distinct_below}
use Rattle.rh_defs.specs.SlotImage.{heap_place}
use Rattle.rh_defs.specs.Pieces.{page_size}
use Rattle.rh_defs.specs.Heap.{base}
use Rattle.rh_defs.specs.Slot.{Flex, HaveAnchors, IsFree, Slot, anchor_count, flex_start, slot_length, slot_pages, weight}
use Rattle.rh_defs.proofs.HeapLists.{eqb_apart}
use Rattle.rh_figure.specs.declared.piece.Kind.TheVariants.{AnchorWords, Descriptor, FreeHole, FreeTop, MoreSegments, Unused}
use Rattle.rh_figure.specs.Layout.{flex_pieces, segment_piece, slot_legend, slot_pieces, vacates}
use Rattle.rh_defs.specs.declared.question.SegmentItem.TheVariants as segment
use Rattle.rh_scene.specs.Seen.{handle_for}
use Rattle.rh_scene.specs.declared.sight.HeapOf.TheVariants as heap_of
use Rattle.rh_scene.proofs.Heaps.{IsSeen}
use Rattle.rh_scene.proofs.PieceWalks.{heap-join, items-pieces, items-weight, more-none, more-some, pieces-long}

-- ---- a slot has at most 64 blocks, as each has an anchor of its own

anchors : List Flex → List ℕ
anchors blocks = map (λ (b : Flex). b.anchor) blocks

apart : (k : ℕ) (blocks : List Flex) → IsFree k blocks → AllByRecursion (λ y. eqb k y ≡ false) (anchors blocks)
unfolding anchors
apart k [] f = tt
apart k (b ∷ blocks) f = (eqb_apart k b.anchor (λ e. f.0 (sym e)), apart k blocks f.1)

distinct : (blocks : List Flex) → HaveAnchors blocks → IsDistinct eqb (anchors blocks)
unfolding anchors IsDistinct
distinct [] h = tt
distinct (b ∷ blocks) h = (apart b.anchor blocks h.1, distinct blocks h.2)

small : (blocks : List Flex) → HaveAnchors blocks → (q : ℕ) → list_any (eqb q) (anchors blocks) ≡ true → q < anchor_count
unfolding anchors
small [] h q e = absurd (cc)
small (b ∷ blocks) h q e = go (eqb q b.anchor) refl e (small blocks h.2 q)
  where
    go : (t : Bool) → eqb q b.anchor ≡ t → (t || list_any (eqb q) (anchors blocks)) ≡ true → (list_any (eqb q) (anchors blocks) ≡ true → q < anchor_count)
        → q < anchor_count
    go true s e rest = let same : q ≡ b.anchor = eqb-true _ _ s in omega (arith, h.0)
    go false s e rest = rest e

pub few-blocks : (blocks : List Flex) → HaveAnchors blocks → length blocks ≤ anchor_count
unfolding anchors
few-blocks blocks h =
    omega (arith, length-map blocks (λ (b : Flex). b.anchor), length-le_from_distinct_below (anchors blocks) anchor_count (distinct blocks h) (small blocks h))

-- ---- how many pieces there are

more-few : (p : ℕ) (rest : List Segment) → length (more_pieces p rest) ≤ 1
more-few p [] = omega arith
more-few p (s ∷ rest) = omega arith

pub front-few : (g : Legend) (p : ℕ) (xs : List Segment) (a b : List Piece) → b ≡ a ++ segment_pieces g p (take 512 xs) → length b ≤ length a + 512
front-few g p xs a b e = omega (arith, ap length e, length-append a (segment_pieces g p (take 512 xs)), pieces-long g p (take 512 xs), length-take 512 xs)

pub heap-few : (g : Legend) (at : ℕ) (h : Heap) → length (heap_pieces g at h) ≤ 515
heap-few g at h =
    let front = segment_pieces g (at + first_place) (take 512 h.segments) in
    let more = more_pieces (at + first_place + total size_of (take 512 h.segments)) (drop 512 h.segments) in
    let top : Piece =
    record { kind = FreeTop; at = at + base h; size = h.end - base h; fresh = g.is_vacated (g.start + (at + base h)) (h.end - base h) } in
    omega (
      arith,
      length-append (front ++ more) (top ∷ []),
      length-append front more,
      pieces-long g (at + first_place) (take 512 h.segments),
      length-take 512 h.segments,
      more-few (at + first_place + total size_of (take 512 h.segments)) (drop 512 h.segments),
    )

pub items-few : (x : Scene) (h at : ℕ) (blocks : List BlockItem) → length (item_pieces x h at blocks) ≡ length blocks
items-few x h at [] = refl
items-few x h at (b ∷ blocks) = let rest = items-few x h (at + item_weight b) blocks in omega (arith, rest)

-- ---- a heap's pieces

-- segments that aren't drawn one by one
pub more-then : (off p count end place at : ℕ) (rest : List Segment) (b c : List Piece) (x : Piece) → at ≡ off → place ≡ first_place + p
    → count ≡ length rest → end ≡ place + total size_of rest
    → 0 < count → x ≡ record { kind = MoreSegments count; at = at + place; size = end - place; fresh = false } → c ≡ b ++ x ∷ []
    → c ≡ b ++ more_pieces (off + first_place + p) rest
more-then off p count end place at rest b c x ea ep ec ee lt ex e =
    let q : at + place ≡ off + first_place + p = omega arith in
    let n : end - place ≡ total size_of rest = omega arith in
    let some : 0 < length rest = omega arith in
    let whole : Piece = record { kind = MoreSegments (length rest); at = off + first_place + p; size = total size_of rest; fresh = false } in
    let same : x ≡ whole = cc in
    e ∙ ap (λ z. b ++ z) (ap (λ y. y ∷ []) same ∙ sym (more-some (off + first_place + p) rest some))

pub more-else : (p count : ℕ) (rest : List Segment) (b c : List Piece) → count ≡ length rest → count ≤ 0 → c ≡ b → c ≡ b ++ more_pieces p rest
more-else p count rest b c ec le e =
    let none : length rest ≤ 0 = omega arith in
    e ∙ (sym (append-nil b) ∙ ap (λ z. b ++ z) (sym (more-none p rest none)))

-- where all segments end
ends-base : (n place end : ℕ) (h : Heap) → place ≡ place_after (take n h.segments) → end ≡ place + total size_of (drop n h.segments) → end ≡ base h
ends-base n place end h p e =
    let sum = ap (total size_of) (sym (take-append-drop n h.segments)) ∙ total-append size_of (take n h.segments) (drop n h.segments) in
    omega arith

-- they end below the heap's end
pub fits-at : (n place : ℕ) (h : Heap) → place ≡ place_after (take n h.segments) → IsSeen h → place + total size_of (drop n h.segments) ≤ h.end
fits-at n place h p s =
    let sum = ap (total size_of) (sym (take-append-drop n h.segments)) ∙ total-append size_of (take n h.segments) (drop n h.segments) in
    let fits = s.is.fits in
    omega arith

pub heap-whole : (g : Legend) (off at place end most : ℕ) (h : Heap) (old a b c e : List Piece) (first last : Piece)
    → at ≡ off → first ≡ record { kind = Descriptor; at = at; size = 16; fresh = false }
    → place ≡ place_after (take 512 h.segments) → end ≡ place + total size_of (drop 512 h.segments) → most ≡ h.end
    → last ≡ record { kind = FreeTop; at = at + end; size = most - end; fresh = g.is_vacated (g.start + (at + end)) (most - end) }
    → a ≡ old ++ first ∷ [] → b ≡ a ++ segment_pieces g (off + first_place) (take 512 h.segments)
    → c ≡ b ++ more_pieces (off + first_place + total size_of (take 512 h.segments)) (drop 512 h.segments)
    → e ≡ c ++ last ∷ [] → e ≡ old ++ heap_pieces g off h
heap-whole g off at place end most h old a b c e first last ea ef ep ee em el p q r s =
    let bottom : Piece = record { kind = Descriptor; at = off; size = first_place; fresh = false } in
    let top : Piece =
    record { kind = FreeTop; at = off + base h; size = h.end - base h; fresh = g.is_vacated (g.start + (off + base h)) (h.end - base h) } in
    let up : end ≡ base h = ends-base 512 place end h ep ee in
    let same_first : first ≡ bottom = cc in
    let same_last : last ≡ top = cc in
    heap-join old (segment_pieces g (off + first_place) (take 512 h.segments))
    (more_pieces (off + first_place + total size_of (take 512 h.segments)) (drop 512 h.segments)) a b c e bottom top
    (p ∙ ap (λ y. old ++ y ∷ []) same_first) q r (s ∙ ap (λ y. c ++ y ∷ []) same_last)

-- ---- a slot's pieces

pub weights-are : (s : Slot) (blocks : List BlockItem) → blocks ≡ block_items s → total item_weight blocks ≡ total weight s.blocks
weights-are s blocks e = ap (total item_weight) e ∙ items-weight (flex_start s) s.blocks

pub slot-whole : (x : Scene) (h end most pages : ℕ) (s : Slot) (blocks : List BlockItem) (none a b c e : List Piece) (first last : Piece)
    → none ≡ [] → first ≡ record { kind = AnchorWords; at = 0; size = heap_place; fresh = false } → a ≡ none ++ first ∷ []
    → b ≡ a ++ heap_pieces (slot_legend x h) heap_place s.heap → blocks ≡ block_items s → most ≡ s.heap.end
    → c ≡ b ++ item_pieces x h (heap_place + most) blocks → end ≡ heap_place + most + total item_weight blocks → pages ≡ slot_pages s
    → last ≡ record { kind = Unused; at = end; size = 4096 * pages - end; fresh = false }
    → e ≡ c ++ last ∷ [] → e ≡ slot_pieces x h s
slot-whole x h end most pages s blocks none a b c e first last en ef p q eb em r ee ep el t =
    let bottom : Piece = record { kind = AnchorWords; at = 0; size = heap_place; fresh = false } in
    let rest : Piece = record { kind = Unused; at = slot_length s; size = page_size * slot_pages s - slot_length s; fresh = false } in
    let heap = heap_pieces (slot_legend x h) heap_place s.heap in
    let flex = flex_pieces x h (heap_place + s.heap.end) s.blocks in
    let all = weights-are s blocks eb in
    let up : end ≡ slot_length s = omega arith in
    let same_last : last ≡ rest = cc in
    let drawn : item_pieces x h (heap_place + most) blocks ≡ flex =
    ap (item_pieces x h (heap_place + most)) eb
    ∙ (ap (λ n. item_pieces x h (heap_place + n) (block_items s)) em ∙ items-pieces x h (flex_start s) (heap_place + s.heap.end) s.blocks) in
    let low : a ≡ bottom ∷ [] = p ∙ (ap (λ z. z ++ first ∷ []) en ∙ ap (λ y. y ∷ []) ef) in
    let mid : b ≡ bottom ∷ heap = q ∙ ap (λ z. z ++ heap) low in
    let high : c ≡ bottom ∷ (heap ++ flex) = r ∙ (ap (λ z. z ++ item_pieces x h (heap_place + most) blocks) mid ∙ ap (λ z. bottom ∷ (heap ++ z)) drawn) in
    t ∙ (ap (λ z. z ++ last ∷ []) high ∙ ap (λ y. bottom ∷ ((heap ++ flex) ++ y ∷ [])) same_last)

-- ---- free bytes

-- where an area's legend begins
pub legend-start : (x : Scene) (heap : HeapOf) (h : ℕ) → (legend_of x heap h).start ≡ area_start_of heap
legend-start x (heap_of.Task i) h = refl
legend-start x heap_of.Module h = refl

pub area-low : (heap : HeapOf) → area_start_of heap ≤ heap_start_of heap
area-low (heap_of.Task i) = omega arith
area-low heap_of.Module = omega arith

pub vacated-is : (x : Scene) (heap : HeapOf) (h a n : ℕ)
    → vacates (handle_for heap h) a n x.marks.heap_effect ≡ (legend_of x heap h).is_vacated a n
vacated-is x (heap_of.Task i) h a n = refl
vacated-is x heap_of.Module h a n = refl

-- the piece of a hole
pub hole-is : (g : Legend) (start area place address size : ℕ) (s : Segment) (p : Piece) → area ≤ start → g.start ≡ area
    → segment.Hole address size ≡ segment_item (start + place) s
    → p ≡ record { kind = FreeHole; at = address - area; size = size; fresh = g.is_vacated address size }
    → p ≡ segment_piece g (start - area + place) s
hole-is g start area place address size (Used bytes) p low e is same = absurd (cc)
hole-is g start area place address size (Hole n) p low e is same =
    let here : address ≡ start + place = cc in
    let long : size ≡ n = cc in
    let at : address - area ≡ start - area + place = omega arith in
    let back : g.start + (start - area + place) ≡ address = omega arith in
    cc

-- and that of the top
pub top-is : (g : Legend) (start area at end size : ℕ) (p : Piece) → area ≤ start → g.start ≡ area → at ≡ start - area
    → p ≡ record { kind = FreeTop; at = start - area + end; size = size; fresh = g.is_vacated (start + end) size }
    → p ≡ record { kind = FreeTop; at = at + end; size = size; fresh = g.is_vacated (g.start + (at + end)) size }
top-is g start area at end size p low e same_at same =
    let behind : start + end ≡ g.start + (at + end) = omega arith in
    let here : start - area + end ≡ at + end = omega arith in
    cc
