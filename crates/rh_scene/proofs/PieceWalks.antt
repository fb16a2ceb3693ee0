-- The pieces of segments and of flex blocks, some at a time.
use Rattle.rh_scene.proofs.Common.{◌≡◌, ℕ, zero, suc, ◌+◌, ◌-◌, ◌<◌, ◌≤◌, Bool, false, refl, ap, sym, subst, ◌∙◌, arith, List, [], ◌∷◌, ◌++◌, length}
use Rattle.rh_scene.proofs.Common.{take, drop, get_or, Option, Some, None, slice_get, IfSome, append_assoc, length-append, length-take, take-append-drop}
use Rattle.rh_scene.proofs.Common.{SEGMENTS_AT_ONCE, BlockItem, SegmentItem, total, Heap, Segment, Used, Hole, first_place, place_after, size_of}
use Rattle.rh_scene.proofs.Common.{segment_item, segment_items_from, total-append, Piece, Legend, more_pieces, segment_pieces, Scene, HeapOf, heap_start_of}
use Rattle.rh_scene.proofs.Common.{ComesToRest, item_end, item_pieces, item_weight}
use Rattle.std.proofs.lemmas.List.{drop-take, drop_more, take-take, take_more}
use Rattle.rh_defs.specs.Slot.{Flex, flex_weight, weight}
use Rattle.rh_defs.specs.Questions.{block_items_from}
use Rattle.rh_figure.specs.declared.piece.Kind.TheVariants.{FlexBlock, MoreSegments}
use Rattle.rh_figure.specs.Layout.{flex_piece, flex_pieces, is_fresh_flex, segment_piece}
use Rattle.rh_scene.specs.declared.sight.HeapOf.TheVariants as heap_of
use Rattle.rh_scene.specs.Inner.WalkItems.{IsInArea}
use Rattle.rh_scene.proofs.Heaps.{IsSeen}
use Rattle.rh_scene.proofs.Holders.{total-take}
use Rattle.rh_scene.proofs.SegmentWalks.{last-ends, length-items, none-last, pieces-append, take-items}

take-add : {A : Type 0} (n m : ℕ) (xs : List A) → take (n + m) xs ≡ take n xs ++ take m (drop n xs)
take-add n m xs =
    sym (take-append-drop n (take (n + m) xs))
    ∙ (ap (λ z. z ++ drop n (take (n + m) xs)) (take-take n (n + m) xs (omega arith)) ∙ ap (λ z. take n xs ++ z) (drop-take n m xs))

-- ---- segments

-- the segments from a place on, where so many were passed
pub comes-at : {o : Option Heap} (h : Heap) (n place : ℕ) → o ≡ Some h → place ≡ place_after (take n h.segments) → ComesToRest o place (drop n h.segments)
comes-at h n place e at = record { heap = h; is = e; below = take n h.segments; whole = sym (take-append-drop n h.segments); at = at }

-- 64 more pieces
pub pieces-on : (g : Legend) (off n place : ℕ) (segments : List Segment) (old now new : List Piece) → place ≡ place_after (take n segments)
    → now ≡ old ++ segment_pieces g (off + first_place) (take n segments)
    → new ≡ now ++ segment_pieces g (off + place) (take SEGMENTS_AT_ONCE (drop n segments))
    → new ≡ old ++ segment_pieces g (off + first_place) (take (n + SEGMENTS_AT_ONCE) segments)
pieces-on g off n place segments old now new at p q =
    let same : (off + first_place) + total size_of (take n segments) ≡ off + place = omega arith in
    let front = segment_pieces g (off + first_place) (take n segments) in
    q ∙ (ap (λ z. z ++ segment_pieces g (off + place) (take SEGMENTS_AT_ONCE (drop n segments))) p
    ∙ (append_assoc old front (segment_pieces g (off + place) (take SEGMENTS_AT_ONCE (drop n segments)))
    ∙ ap (λ z. old ++ z) (sym (ap (segment_pieces g (off + first_place)) (take-add n SEGMENTS_AT_ONCE segments)
    ∙ (pieces-append g (off + first_place) (take n segments) (take SEGMENTS_AT_ONCE (drop n segments))
    ∙ ap (λ k. front ++ segment_pieces g k (take SEGMENTS_AT_ONCE (drop n segments))) same)))))

after-add : (n : ℕ) (segments : List Segment)
    → place_after (take (n + SEGMENTS_AT_ONCE) segments) ≡ place_after (take n segments) + total size_of (take SEGMENTS_AT_ONCE (drop n segments))
after-add n segments =
    let more : total size_of (take (n + SEGMENTS_AT_ONCE) segments) ≡ total size_of (take n segments) + total size_of
    (take SEGMENTS_AT_ONCE (drop n segments)) =
    ap (total size_of) (take-add n SEGMENTS_AT_ONCE segments) ∙ total-append size_of (take n segments) (take SEGMENTS_AT_ONCE (drop n segments)) in
    omega arith

-- where the last of them ends
pub place-on : (start n place next : ℕ) (segments : List Segment) (items : List SegmentItem) (last : SegmentItem) → place ≡ place_after (take n segments)
    → items ≡ segment_items_from (start + place) (take SEGMENTS_AT_ONCE (drop n segments)) → Some last ≡ slice_get items (length items - 1)
    → next + start ≡ item_end last → next ≡ place_after (take (n + SEGMENTS_AT_ONCE) segments)
place-on start n place next segments items last at e l q =
    let front = take SEGMENTS_AT_ONCE (drop n segments) in
    let here : Some last ≡ slice_get (segment_items_from (start + place) front) (length (segment_items_from (start + place) front) - 1) =
    l ∙ ap (λ xs. slice_get xs (length xs - 1)) e in
    let ends : item_end last ≡ (start + place) + total size_of front = last-ends (start + place) front last here in
    omega (arith, after-add n segments)

-- where there is none
pub place-same : (start n place : ℕ) (segments : List Segment) (items : List SegmentItem) → place ≡ place_after (take n segments)
    → items ≡ segment_items_from (start + place) (take SEGMENTS_AT_ONCE (drop n segments)) → None ≡ slice_get items (length items - 1)
    → place ≡ place_after (take (n + SEGMENTS_AT_ONCE) segments)
place-same start n place segments items at e l =
    let none : items ≡ [] = none-last items l in
    let long : length items ≡ length (take SEGMENTS_AT_ONCE (drop n segments)) =
    ap length e ∙ length-items (start + place) (take SEGMENTS_AT_ONCE (drop n segments)) in
    let zero-items : length items ≡ 0 = ap length none in
    let no-bytes : total size_of (take SEGMENTS_AT_ONCE (drop n segments)) ≡ 0 = empty-total (take SEGMENTS_AT_ONCE (drop n segments)) (omega arith) in
    omega (arith, after-add n segments)
  where
    empty-total : (xs : List Segment) → length xs ≡ 0 → total size_of xs ≡ 0
    empty-total [] z = refl
    empty-total (x ∷ xs) z = absurd (omega arith)

-- one more segment
pub item-at : (p : ℕ) (segments : List Segment) (items : List SegmentItem) (i : ℕ) (d : SegmentItem) (s : Segment) → items ≡ segment_items_from p segments
    → i < length items → get_or items i d ≡ segment_item (p + total size_of (take i segments)) (get_or segments i s)
item-at p segments items i d s e inside =
    let long : length items ≡ length segments = ap length e ∙ length-items p segments in
    ap (λ z. get_or z i d) e ∙ go p segments i (omega arith)
  where
    go : (p : ℕ) (segments : List Segment) (i : ℕ) → i < length segments
        → get_or (segment_items_from p segments) i d ≡ segment_item (p + total size_of (take i segments)) (get_or segments i s)
    go p [] i l = absurd (omega arith)
    go p (x ∷ xs) zero l = let same : p ≡ p + 0 = omega arith in ap (λ k. segment_item k x) same
    go p (x ∷ xs) (suc i) l =
        let same : (p + size_of x) + total size_of (take i xs) ≡ p + (size_of x + total size_of (take i xs)) = omega arith in
        go (p + size_of x) xs i (omega arith) ∙ ap (λ k. segment_item k (get_or xs i s)) same

pub piece-more : (g : Legend) (p i : ℕ) (segments : List Segment) (s : Segment) → i < length segments
    → segment_pieces g p (take (i + 1) segments) ≡ segment_pieces g p (take i segments) ++ segment_piece g (p + total size_of (take i segments))
    (get_or segments i s) ∷ []
piece-more g p i segments s l = ap (segment_pieces g p) (take_more segments i s l) ∙ pieces-append g p (take i segments) (get_or segments i s ∷ [])

pub item-here : (start place : ℕ) (segments : List Segment) (items : List SegmentItem) (i : ℕ) (d : SegmentItem)
    → items ≡ segment_items_from (start + place) segments → i < length items
    → get_or items i d ≡ segment_item (start + (place + total size_of (take i segments))) (get_or segments i (Hole 0))
item-here start place segments items i d e inside =
    let same : (start + place) + total size_of (take i segments) ≡ start + (place + total size_of (take i segments)) = omega arith in
    item-at (start + place) segments items i d (Hole 0) e inside ∙ ap (λ k. segment_item k (get_or segments i (Hole 0))) same

pub items-on : (g : Legend) (off start place i : ℕ) (segments : List Segment) (items : List SegmentItem) (old now new : List Piece) (x : Piece)
    → items ≡ segment_items_from (start + place) segments → i < length items
    → now ≡ old ++ segment_pieces g (off + place) (take i segments) → new ≡ now ++ x ∷ []
    → x ≡ segment_piece g (off + (place + total size_of (take i segments))) (get_or segments i (Hole 0))
    → new ≡ old ++ segment_pieces g (off + place) (take (i + 1) segments)
items-on g off start place i segments items old now new x e inside p q r =
    let long : length items ≡ length segments = ap length e ∙ length-items (start + place) segments in
    let l : i < length segments = omega arith in
    let same : off + (place + total size_of (take i segments)) ≡ (off + place) + total size_of (take i segments) = omega arith in
    let here : x ≡ segment_piece g ((off + place) + total size_of (take i segments)) (get_or segments i (Hole 0)) =
    r ∙ ap (λ k. segment_piece g k (get_or segments i (Hole 0))) same in
    q ∙ (ap (λ z. z ++ x ∷ []) p
    ∙ (append_assoc old (segment_pieces g (off + place) (take i segments)) (x ∷ [])
    ∙ ap (λ z. old ++ z) (ap (λ y. segment_pieces g (off + place) (take i segments) ++ y ∷ []) here ∙ sym (piece-more g (off + place) i segments (Hole 0) l))))

-- ---- flex blocks

pub blocks-more : (x : Scene) (h end i : ℕ) (blocks : List BlockItem) (b : BlockItem) → i < length blocks → b ≡ get_or blocks i b
    → item_pieces x h end (drop i blocks) ≡ flex_piece end b.anchor b.size (is_fresh_flex x h b.anchor b.size) ∷ item_pieces x h (end + item_weight b)
    (drop (i + 1) blocks)
blocks-more x h end i blocks b l e =
    ap (item_pieces x h end) (drop_more blocks i b l ∙ ap (λ z. z ∷ drop (i + 1) blocks) (sym e))

pub weights-more : (i : ℕ) (blocks : List BlockItem) (b : BlockItem) → i < length blocks → b ≡ get_or blocks i b
    → total item_weight (drop i blocks) ≡ item_weight b + total item_weight (drop (i + 1) blocks)
weights-more i blocks b l e = ap (total item_weight) (drop_more blocks i b l ∙ ap (λ z. z ∷ drop (i + 1) blocks) (sym e))

-- one more block
pub blocks-step : (x : Scene) (h end i : ℕ) (blocks : List BlockItem) (b : BlockItem) (k n w : ℕ) (f : Bool) (now new all : List Piece) → i < length blocks
    → b ≡ get_or blocks i b
    → new ≡ now ++ record { kind = FlexBlock k n; at = end; size = w; fresh = f } ∷ [] → k ≡ b.anchor → n ≡ b.size → w ≡ flex_weight b.size
    → f ≡ is_fresh_flex x h b.anchor b.size → now ++ item_pieces x h end (drop i blocks) ≡ all → new ++ item_pieces x h (end + w) (drop (i + 1) blocks) ≡ all
blocks-step x h end i blocks b k n w f now new all l is e ek en ew ef so_far =
    let p : Piece = record { kind = FlexBlock k n; at = end; size = w; fresh = f } in
    let q : Piece = flex_piece end b.anchor b.size (is_fresh_flex x h b.anchor b.size) in
    let same : p ≡ q = cc in
    let rest = item_pieces x h (end + w) (drop (i + 1) blocks) in
    ap (λ z. z ++ rest) e
    ∙ (append_assoc now (p ∷ []) rest
    ∙ (ap (λ z. now ++ z) (ap (λ y. y ∷ rest) same ∙ (ap (λ m. q ∷ item_pieces x h (end + m) (drop (i + 1) blocks)) ew
    ∙ sym (blocks-more x h end i blocks b l is))) ∙ so_far))

-- the pieces of blocks as they are listed are the scene's
pub items-pieces : (x : Scene) (h place at : ℕ) (blocks : List Flex) → item_pieces x h at (block_items_from place blocks) ≡ flex_pieces x h at blocks
items-pieces x h place at [] = refl
items-pieces x h place at (b ∷ blocks) =
    ap (λ l. flex_piece at b.anchor (length b.bytes) (is_fresh_flex x h b.anchor (length b.bytes)) ∷ l)
    (items-pieces x h (place + weight b) (at + weight b) blocks)

pub items-weight : (place : ℕ) (blocks : List Flex) → total item_weight (block_items_from place blocks) ≡ total weight blocks
items-weight place [] = refl
items-weight place (b ∷ blocks) = ap (λ n. weight b + n) (items-weight (place + weight b) blocks)

pub items-long : (place : ℕ) (blocks : List Flex) → length (block_items_from place blocks) ≡ length blocks
items-long place [] = refl
items-long place (b ∷ blocks) = ap suc (items-long (place + weight b) blocks)

-- ---- a turn of 64 segments

module _ {o : Option Heap} (h : Heap) (e : o ≡ Some h) where
  pub at-heap : (P : Heap → Type 0) → IfSome o P → P h
  at-heap P f = let Q : Option Heap → Type 0 = λ z. IfSome z P in subst Q e f

  pub for-heap : (P : Heap → Type 0) → P h → IfSome o P
  for-heap P f = let Q : Option Heap → Type 0 = λ z. IfSome z P in subst Q (sym e) f

  -- the items that are told there
  pub turn-items : (start n place : ℕ) (items : List SegmentItem) → IfSome o (λ k. place ≡ place_after (take n k.segments))
      → IfSome o (λ k. (below : List Segment) (rest : List Segment) → k.segments ≡ below ++ rest → place ≡ place_after below
      → items ≡ take SEGMENTS_AT_ONCE (segment_items_from (start + place) rest))
      → items ≡ segment_items_from (start + place) (take SEGMENTS_AT_ONCE (drop n h.segments))
  turn-items start n place items at f =
      let here : place ≡ place_after (take n h.segments) = at-heap (λ k. place ≡ place_after (take n k.segments)) at in
      let told = at-heap (λ k. (below : List Segment) (rest : List Segment) → k.segments ≡ below ++ rest → place ≡ place_after below
      → items ≡ take SEGMENTS_AT_ONCE (segment_items_from (start + place) rest)) f in
      told (take n h.segments) (drop n h.segments) (sym (take-append-drop n h.segments)) here ∙ take-items SEGMENTS_AT_ONCE (start + place) (drop n h.segments)

  pub turn-place : (n place : ℕ) → IfSome o (λ k. place ≡ place_after (take n k.segments)) → place ≡ place_after (take n h.segments)
  turn-place n place at = at-heap (λ k. place ≡ place_after (take n k.segments)) at

-- where the last of them ends
pub turn-ends : (start n place : ℕ) (h : Heap) (items : List SegmentItem) (last : SegmentItem) → place ≡ place_after (take n h.segments)
    → items ≡ segment_items_from (start + place) (take SEGMENTS_AT_ONCE (drop n h.segments)) → Some last ≡ slice_get items (length items - 1) → IsSeen h
    → (start ≤ item_end last) × (item_end last ≤ start + 4194304)
turn-ends start n place h items last at e l s =
    let front = take SEGMENTS_AT_ONCE (drop n h.segments) in
    let here : Some last ≡ slice_get (segment_items_from (start + place) front) (length (segment_items_from (start + place) front) - 1) =
    l ∙ ap (λ xs. slice_get xs (length xs - 1)) e in
    let ends : item_end last ≡ (start + place) + total size_of front = last-ends (start + place) front last here in
    let after = after-add n h.segments in
    let some = total-take size_of (n + SEGMENTS_AT_ONCE) h.segments in
    let fits = s.is.fits in
    let few = s.few in
    (omega arith, omega arith)

-- ---- a heap's pieces

pub pieces-long : (g : Legend) (p : ℕ) (xs : List Segment) → length (segment_pieces g p xs) ≡ length xs
pieces-long g p [] = refl
pieces-long g p (x ∷ xs) = ap suc (pieces-long g (p + size_of x) xs)

-- at most 64 pieces more
pub pieces-turn : (g : Legend) (p : ℕ) (xs : List Segment) (now new : List Piece) → new ≡ now ++ segment_pieces g p (take SEGMENTS_AT_ONCE xs)
    → length new ≤ length now + SEGMENTS_AT_ONCE
pieces-turn g p xs now new e =
    omega (
      arith,
      ap length e,
      length-append now (segment_pieces g p (take SEGMENTS_AT_ONCE xs)),
      pieces-long g p (take SEGMENTS_AT_ONCE xs),
      length-take SEGMENTS_AT_ONCE xs,
    )

pub more-some : (p : ℕ) (rest : List Segment) → 0 < length rest
    → more_pieces p rest ≡ record { kind = MoreSegments (length rest); at = p; size = total size_of rest; fresh = false } ∷ []
more-some p [] l = absurd (omega arith)
more-some p (x ∷ rest) l = refl

pub more-none : (p : ℕ) (rest : List Segment) → length rest ≤ 0 → more_pieces p rest ≡ []
more-none p [] l = refl
more-none p (x ∷ rest) l = absurd (omega arith)

-- a first piece, segments, more of them, and a last piece
pub heap-join : (old segs more a b c e : List Piece) (desc top : Piece) → a ≡ old ++ desc ∷ [] → b ≡ a ++ segs → c ≡ b ++ more → e ≡ c ++ top ∷ []
    → e ≡ old ++ desc ∷ ((segs ++ more) ++ top ∷ [])
heap-join old segs more a b c e desc top p q r s =
    s ∙ (ap (λ z. z ++ top ∷ []) (r ∙ ap (λ z. z ++ more) (q ∙ ap (λ z. z ++ segs) p))
    ∙ (ap (λ z. z ++ top ∷ []) (append_assoc (old ++ desc ∷ []) segs more)
    ∙ (append_assoc (old ++ desc ∷ []) (segs ++ more) (top ∷ []) ∙ append_assoc old (desc ∷ []) ((segs ++ more) ++ top ∷ []))))

-- ---- items lie in their area

in-area : (heap : HeapOf) (p : ℕ) (s : Segment) → IsInArea heap (segment_item (heap_start_of heap + p) s)
in-area (heap_of.Task i) p (Used bytes) = omega arith
in-area (heap_of.Task i) p (Hole n) = omega arith
in-area heap_of.Module p (Used bytes) = omega arith
in-area heap_of.Module p (Hole n) = omega arith

pub item-in-area : (heap : HeapOf) (place : ℕ) (segments : List Segment) (items : List SegmentItem) (i : ℕ) (d : SegmentItem)
    → items ≡ segment_items_from (heap_start_of heap + place) segments → i < length items → IsInArea heap (get_or items i d)
item-in-area heap place segments items i d e inside =
    let same : (heap_start_of heap + place) + total size_of (take i segments) ≡ heap_start_of heap + (place + total size_of (take i segments)) = omega arith in
    subst (IsInArea heap) (sym (item-at (heap_start_of heap + place) segments items i d (Hole 0) e inside
    ∙ ap (λ k. segment_item k (get_or segments i (Hole 0))) same))
    (in-area heap (place + total size_of (take i segments)) (get_or segments i (Hole 0)))
