-- The blocks that pieces of a slot, and of the module area, stand for; and which pieces of a slot are which band of a lens.
use Rattle.rh_pictures.proofs.Common.{◌≡◌, ◌⊎◌, ℕ, zero, suc, ◌+◌, ◌-◌, ◌*◌, ◌^◌, ◌<◌, ◌≤◌, Bool, true, false, refl, ap, ap₂, sym, subst, ◌∙◌, arith}
use Rattle.rh_pictures.proofs.Common.{List, [], ◌∷◌, ◌++◌, length, take, drop, Option, Some, None, ◌==◌, find, slice_get, if◌then◌else◌, eq-eqb, ne_eqb, ◌≢◌}
use Rattle.rh_pictures.proofs.Common.{AllByRecursion, append_assoc, length-append, take_all, base, BlockItem, Desk, Heap, Parcel, Piece, Scene, Task}
use Rattle.rh_pictures.proofs.Common.{block_items}
use Rattle.rh_pictures.proofs.Common.{flex_start, heap_start, message_of_scene}
use Rattle.std.proofs.Math.Seq.{take-append_seam, drop-append_seam}
use Rattle.std.proofs.lemmas.List.{take-append-drop}
use Rattle.rh_defs.specs.Heap.{Hole, Segment, Used, block_at, is_block_at, place_after, size_of}
use Rattle.rh_defs.specs.Pieces.{first_at, total}
use Rattle.rh_defs.specs.Questions.{block_items_from}
use Rattle.rh_defs.specs.Slot.{Flex, HaveAnchors, IsFree, Slot, slot_start, weight}
use Rattle.rh_defs.specs.Inner.NonePassing.{NonePass}
use Rattle.rh_defs.proofs.HeapLists.{first_at-found}
use Rattle.rh_defs.proofs.Lists.{all-join, all-mono}
use Rattle.rh_figure.specs.Layout.{Legend, flex_pieces, heap_pieces, module_legend, module_pieces, more_pieces, posted_or, segment_pieces, slot_legend}
use Rattle.rh_figure.specs.Layout.{slot_pieces}
use Rattle.rh_figure.specs.declared.piece.Kind.{Kind}
use Rattle.rh_figure.specs.declared.piece.Kind.TheVariants.{AnchorWords, Claimed, FlexBlock}
use Rattle.rh_lens.specs.Items.{bytes_of_found, bytes_of_flex, unused_piece}
use Rattle.rh_scene.specs.Seen.{IsBlockAt}

-- ---- what holds of each

pub each-of : {A : Type 0} (P : A → Type 0) (xs : List A) → ((i : ℕ) (x : A) → slice_get xs i ≡ Some x → P x) → AllByRecursion P xs
each-of P [] f = tt
each-of P (x ∷ xs) f = (f 0 x refl, each-of P xs (λ i y e. f (suc i) y e))

pub at-of : {A : Type 0} (P : A → Type 0) (xs : List A) (i : ℕ) (x : A) → AllByRecursion P xs → slice_get xs i ≡ Some x → P x
at-of P [] i x all e = absurd (cc)
at-of P (y ∷ ys) zero x all e = let same : y ≡ x = cc in subst P same all.0
at-of P (y ∷ ys) (suc i) x all e = at-of P ys i x all.1 e

pub all-front : {A : Type 0} (P : A → Type 0) (xs ys : List A) → AllByRecursion P (xs ++ ys) → AllByRecursion P xs
all-front P [] ys all = tt
all-front P (x ∷ xs) ys all = (all.0, all-front P xs ys all.1)

pub all-behind : {A : Type 0} (P : A → Type 0) (xs ys : List A) → AllByRecursion P (xs ++ ys) → AllByRecursion P ys
all-behind P [] ys all = all
all-behind P (x ∷ xs) ys all = all-behind P xs ys all.1

-- ---- flex blocks

-- the block that a piece of an anchor and a size stands for, among blocks that are listed from a place on
pub record FlexOf (place : ℕ) (blocks : List Flex) (at k n : ℕ) : Type 0 where
  pub number : ℕ
  pub block : Flex
  pub stands : slice_get blocks number ≡ Some block
  pub listed : slice_get (block_items_from place blocks) number ≡ Some (record { anchor = k; address = slot_start + at + 8; size = n })
  pub anchor : block.anchor ≡ k
  pub size : length block.bytes ≡ n

pub IfFlex : ℕ → List Flex → Piece → Type 0
IfFlex place blocks p = (k n : ℕ) → p.kind ≡ FlexBlock k n → FlexOf place blocks p.at k n

abbrev item_with : ℕ → ℕ → ℕ → BlockItem
item_with k a n = record { anchor = k; address = a; size = n }

item-same : {j k a b m n : ℕ} → j ≡ k → a ≡ b → m ≡ n → item_with j a m ≡ item_with k b n
item-same {j} {k} {a} {b} {m} {n} i l o = ap₂ (λ y z. item_with y z m) i l ∙ ap (item_with k b) o

flex-behind : (place : ℕ) (b : Flex) (blocks : List Flex) (p : Piece) → IfFlex (place + weight b) blocks p → IfFlex place (b ∷ blocks) p
unfolding IfFlex
flex-behind place b blocks p f = λ k n e.
    let r = f k n e in
    record { number = suc r.number; block = r.block; stands = r.stands; listed = r.listed; anchor = r.anchor; size = r.size }

flex-each : (x : Scene) (h at place : ℕ) (blocks : List Flex) → place ≡ slot_start + at → AllByRecursion (IfFlex place blocks) (flex_pieces x h at blocks)
unfolding IfFlex
flex-each x h at place [] e = tt
flex-each x h at place (b ∷ blocks) e =
    let here : place + 8 ≡ slot_start + at + 8 = omega arith in
    let on : place + weight b ≡ slot_start + (at + weight b) = omega arith in (
      λ k n is.
          let ek : b.anchor ≡ k = cc in
          let en : length b.bytes ≡ n = cc in
          record { number = 0; block = b; stands = refl; listed = ap Some (item-same ek here en); anchor = ek; size = en },
      all-mono (flex-behind place b blocks) (flex_pieces x h (at + weight b) blocks) (flex-each x h (at + weight b) (place + weight b) blocks on),
    )

-- no piece of a heap is one
segments-no-flex : (place : ℕ) (blocks : List Flex) (x : Scene) (h at : ℕ) (ss : List Segment)
    → AllByRecursion (IfFlex place blocks) (segment_pieces (slot_legend x h) at ss)
unfolding IfFlex
segments-no-flex place blocks x h at [] = tt
segments-no-flex place blocks x h at (Used bytes ∷ ss) = (λ k n e. absurd (cc), segments-no-flex place blocks x h (at + (4 + length bytes)) ss)
segments-no-flex place blocks x h at (Hole size ∷ ss) = (λ k n e. absurd (cc), segments-no-flex place blocks x h (at + size) ss)

more-no-flex : (place : ℕ) (blocks : List Flex) (at : ℕ) (ss : List Segment) → AllByRecursion (IfFlex place blocks) (more_pieces at ss)
unfolding IfFlex
more-no-flex place blocks at [] = tt
more-no-flex place blocks at (s ∷ ss) = (λ k n e. absurd (cc), tt)

heap-no-flex : (place : ℕ) (blocks : List Flex) (x : Scene) (h at : ℕ) (heap : Heap)
    → AllByRecursion (IfFlex place blocks) (heap_pieces (slot_legend x h) at heap)
unfolding IfFlex
heap-no-flex place blocks x h at heap =
    let first = take 512 heap.segments in
    let others = drop 512 heap.segments in (
      λ k n e. absurd (cc),
      all-join (IfFlex place blocks) (segment_pieces (slot_legend x h) (at + 16) first ++ more_pieces (at + 16 + total size_of first) others) _
          (all-join (IfFlex place blocks) (segment_pieces (slot_legend x h) (at + 16) first) (more_pieces (at + 16 + total size_of first) others)
          (segments-no-flex place blocks x h (at + 16) first) (more-no-flex place blocks (at + 16 + total size_of first) others))
          (λ k n e. absurd (cc), tt),
    )

slot-flex : (x : Scene) (h : ℕ) (s : Slot) → AllByRecursion (IfFlex (flex_start s) s.blocks) (slot_pieces x h s)
unfolding IfFlex
slot-flex x h s =
    let P = IfFlex (flex_start s) s.blocks in
    let place : flex_start s ≡ slot_start + (256 + s.heap.end) = omega arith in (
      λ k n e. absurd (cc),
      all-join P (heap_pieces (slot_legend x h) 256 s.heap ++ flex_pieces x h (256 + s.heap.end) s.blocks) _
          (all-join P (heap_pieces (slot_legend x h) 256 s.heap) (flex_pieces x h (256 + s.heap.end) s.blocks)
          (heap-no-flex (flex_start s) s.blocks x h 256 s.heap) (flex-each x h (256 + s.heap.end) (flex_start s) s.blocks place))
          (λ k n e. absurd (cc), tt),
    )

-- the flex block of a piece of a slot
pub flex-of : (x : Scene) (h : ℕ) (s : Slot) (i : ℕ) (p : Piece) (k n : ℕ) → slice_get (slot_pieces x h s) i ≡ Some p → p.kind ≡ FlexBlock k n
    → FlexOf (flex_start s) s.blocks p.at k n
unfolding IfFlex
flex-of x h s i p k n e is = at-of (IfFlex (flex_start s) s.blocks) (slot_pieces x h s) i p (slot-flex x h s) e k n is

-- ---- the one block of an anchor

apart : (k : ℕ) (blocks : List Flex) (i : ℕ) (b : Flex) → IsFree k blocks → slice_get blocks i ≡ Some b → (k == b.anchor) ≡ false
apart k blocks i b free e =
    let other : b.anchor ≢ k = at-of (λ (z : Flex). z.anchor ≢ k) blocks i b free e in
    ne_eqb k b.anchor (λ q. other (sym q))

pub found-flex : (blocks : List Flex) (i : ℕ) (b : Flex) → HaveAnchors blocks → slice_get blocks i ≡ Some b
    → bytes_of_flex (find (λ (z : Flex). z.anchor == b.anchor) blocks) ≡ b.bytes
found-flex [] i b all e = absurd (cc)
found-flex (c ∷ blocks) zero b all e =
    let same : c ≡ b = cc in
    let yes : (c.anchor == b.anchor) ≡ true = eq-eqb c.anchor b.anchor (ap (λ (z : Flex). z.anchor) same) in
    ap (λ (q : Bool). bytes_of_flex (if q then Some c else find (λ (z : Flex). z.anchor == b.anchor) blocks)) yes ∙ ap (λ (z : Flex). z.bytes) same
found-flex (c ∷ blocks) (suc i) b all e =
    ap (λ (q : Bool). bytes_of_flex (if q then Some c else find (λ (z : Flex). z.anchor == b.anchor) blocks)) (apart c.anchor blocks i b all.1 e)
    ∙ found-flex blocks i b all.2 e

-- ---- blocks of heaps

-- the block that a claimed piece of a heap stands for, in an area in which the heap begins at an offset
pub record ClaimedOf (g : Legend) (off : ℕ) (h : Heap) (at n : ℕ) : Type 0 where
  pub above : off ≤ at
  pub bytes : List ℕ
  pub block : IsBlockAt h (at - off) bytes
  pub kind : g.kind_of (g.start + at + 4) (length bytes) ≡ Claimed n

pub IfClaimed : Legend → ℕ → Heap → Piece → Type 0
IfClaimed g off h p = (n : ℕ) → p.kind ≡ Claimed n → ClaimedOf g off h p.at n

total-snoc : (below : List Segment) (s : Segment) → total size_of (below ++ s ∷ []) ≡ total size_of below + size_of s
total-snoc [] s = omega arith
total-snoc (b ∷ below) s = let rest = total-snoc below s in omega arith

segments-claimed : (g : Legend) (off at : ℕ) (h : Heap) (below ss others : List Segment) → h.segments ≡ below ++ (ss ++ others) → at ≡ off + place_after below
    → AllByRecursion (IfClaimed g off h) (segment_pieces g at ss)
unfolding IfClaimed
segments-claimed g off at h below [] others whole e = tt
segments-claimed g off at h below (Used bytes ∷ ss) others whole e =
    let long : total size_of (below ++ Used bytes ∷ []) ≡ total size_of below + (4 + length bytes) = total-snoc below (Used bytes) in
    let joined : below ++ (Used bytes ∷ ss ++ others) ≡ (below ++ Used bytes ∷ []) ++ (ss ++ others) =
    sym (append_assoc below (Used bytes ∷ []) (ss ++ others)) in (
      λ n is. record { above = omega arith; bytes = bytes; block = record { below = below; above = ss ++ others; whole = whole; at = omega arith }; kind = is },
      segments-claimed g off (at + (4 + length bytes)) h (below ++ Used bytes ∷ []) ss others (whole ∙ joined) (omega arith),
    )
segments-claimed g off at h below (Hole size ∷ ss) others whole e =
    let long : total size_of (below ++ Hole size ∷ []) ≡ total size_of below + size = total-snoc below (Hole size) in
    let joined : below ++ (Hole size ∷ ss ++ others) ≡ (below ++ Hole size ∷ []) ++ (ss ++ others) =
    sym (append_assoc below (Hole size ∷ []) (ss ++ others)) in (
      λ n is. absurd (cc),
      segments-claimed g off (at + size) h (below ++ Hole size ∷ []) ss others (whole ∙ joined) (omega arith),
    )

more-no-claimed : (g : Legend) (off : ℕ) (h : Heap) (at : ℕ) (ss : List Segment) → AllByRecursion (IfClaimed g off h) (more_pieces at ss)
unfolding IfClaimed
more-no-claimed g off h at [] = tt
more-no-claimed g off h at (s ∷ ss) = (λ n e. absurd (cc), tt)

heap-claimed : (g : Legend) (off : ℕ) (h : Heap) → AllByRecursion (IfClaimed g off h) (heap_pieces g off h)
unfolding IfClaimed
heap-claimed g off h =
    let first = take 512 h.segments in
    let others = drop 512 h.segments in
    let from : off + 16 ≡ off + (16 + 0) = omega arith in (
      λ n e. absurd (cc),
      all-join (IfClaimed g off h) (segment_pieces g (off + 16) first ++ more_pieces (off + 16 + total size_of first) others) _
          (all-join (IfClaimed g off h) (segment_pieces g (off + 16) first) (more_pieces (off + 16 + total size_of first) others)
          (segments-claimed g off (off + 16) h [] first others (sym (take-append-drop 512 h.segments)) from)
          (more-no-claimed g off h (off + 16 + total size_of first) others))
          (λ n e. absurd (cc), tt),
    )

flex-no-claimed : (g : Legend) (off : ℕ) (heap : Heap) (x : Scene) (h at : ℕ) (blocks : List Flex)
    → AllByRecursion (IfClaimed g off heap) (flex_pieces x h at blocks)
unfolding IfClaimed
flex-no-claimed g off heap x h at [] = tt
flex-no-claimed g off heap x h at (b ∷ blocks) = (λ n e. absurd (cc), flex-no-claimed g off heap x h (at + weight b) blocks)

slot-claimed : (x : Scene) (h : ℕ) (s : Slot) → AllByRecursion (IfClaimed (slot_legend x h) 256 s.heap) (slot_pieces x h s)
unfolding IfClaimed
slot-claimed x h s =
    let P = IfClaimed (slot_legend x h) 256 s.heap in (
      λ n e. absurd (cc),
      all-join P (heap_pieces (slot_legend x h) 256 s.heap ++ flex_pieces x h (256 + s.heap.end) s.blocks) _
          (all-join P (heap_pieces (slot_legend x h) 256 s.heap) (flex_pieces x h (256 + s.heap.end) s.blocks)
          (heap-claimed (slot_legend x h) 256 s.heap) (flex-no-claimed (slot_legend x h) 256 s.heap x h (256 + s.heap.end) s.blocks))
          (λ n e. absurd (cc), tt),
    )

-- the block of the C heap that a piece of a slot stands for, with its size
pub record SlotClaimed (s : Slot) (at n : ℕ) : Type 0 where
  pub above : 256 ≤ at
  pub bytes : List ℕ
  pub block : IsBlockAt s.heap (at - 256) bytes
  pub size : length bytes ≡ n

pub claimed-of : (x : Scene) (h : ℕ) (s : Slot) (i : ℕ) (p : Piece) (n : ℕ) → slice_get (slot_pieces x h s) i ≡ Some p → p.kind ≡ Claimed n
    → SlotClaimed s p.at n
unfolding IfClaimed
claimed-of x h s i p n e is =
    let r = at-of (IfClaimed (slot_legend x h) 256 s.heap) (slot_pieces x h s) i p (slot-claimed x h s) e n is in
    let kind : Claimed (length r.bytes) ≡ Claimed n = r.kind in
    let size : length r.bytes ≡ n = cc in
    record { above = r.above; bytes = r.bytes; block = r.block; size = size }

-- and of the module area, in which no message lies
pub record ModuleClaimed (x : Scene) (at n : ℕ) : Type 0 where
  pub bytes : List ℕ
  pub block : IsBlockAt x.desk.post.heap at bytes
  pub size : length bytes ≡ n
  pub free : message_of_scene x (at + 4) ≡ None

posted-kind : (n m : ℕ) (o : Option Parcel) → posted_or m o ≡ Claimed n → (o ≡ None) × (m ≡ n)
posted-kind n m None e = let same : m ≡ n = cc in (refl, same)
posted-kind n m (Some p) e = absurd (cc)

pub module-claimed : (x : Scene) (i : ℕ) (p : Piece) (n : ℕ) → slice_get (module_pieces x) i ≡ Some p → p.kind ≡ Claimed n → ModuleClaimed x p.at n
unfolding IfClaimed
module-claimed x i p n e is =
    let h = x.desk.post.heap in
    let r = at-of (IfClaimed (module_legend x) 0 h) (module_pieces x) i p (heap-claimed (module_legend x) 0 h) e n is in
    let k = posted-kind n (length r.bytes) (message_of_scene x (25165824 + p.at + 4 - 25165824)) r.kind in
    let same : 25165824 + p.at + 4 - 25165824 ≡ p.at + 4 = omega arith in
    let here : p.at - 0 ≡ p.at = omega arith in
    record { bytes = r.bytes; block = subst (λ z. IsBlockAt h z r.bytes) here r.block; size = k.1; free = ap (message_of_scene x) (sym same) ∙ k.0 }

-- ---- the block at an address of a heap

none-below : (a at : ℕ) (below : List Segment) → at + total size_of below + 4 ≤ a → NonePass size_of (is_block_at a) at below
none-below a at [] low = tt
none-below a at (Used bytes ∷ below) low =
    let no : (a == at + 4) ≡ false = ne_eqb a (at + 4) (λ q. omega arith) in
    (no, none-below a (at + (4 + length bytes)) below (omega arith))
none-below a at (Hole size ∷ below) low = (refl, none-below a (at + size) below (omega arith))

pub found-block : (h : Heap) (place : ℕ) (bytes : List ℕ) → IsBlockAt h place bytes → bytes_of_found (block_at (place + 4) h) ≡ bytes
found-block h place bytes b =
    let a = place + 4 in
    let at = b.at in
    let pass : (a == 16 + total size_of b.below + 4) ≡ true = eq-eqb a (16 + total size_of b.below + 4) (omega (arith, at)) in
    let found = first_at-found size_of (is_block_at a) 16 b.below (Used bytes) b.above (none-below a 16 b.below (omega arith)) pass in
    ap (λ ss. bytes_of_found (first_at size_of (is_block_at a) 16 ss)) b.whole ∙ ap bytes_of_found found

-- ---- which pieces are which band

pub flex-many : (x : Scene) (h at : ℕ) (blocks : List Flex) → length (flex_pieces x h at blocks) ≡ length blocks
flex-many x h at [] = refl
flex-many x h at (b ∷ blocks) = ap suc (flex-many x h (at + weight b) blocks)

items-many : (place : ℕ) (blocks : List Flex) → length (block_items_from place blocks) ≡ length blocks
items-many place [] = refl
items-many place (b ∷ blocks) = ap suc (items-many (place + weight b) blocks)

module _ (x : Scene) (h : ℕ) (s : Slot) where
  abbrev pub anchors_piece : Piece
  anchors_piece = record { kind = AnchorWords; at = 0; size = 256; fresh = false }

  abbrev pub heap_band : List Piece
  heap_band = heap_pieces (slot_legend x h) 256 s.heap

  abbrev pub flex_band : List Piece
  flex_band = flex_pieces x h (256 + s.heap.end) s.blocks ++ unused_piece s ∷ []

  pub slot-joined : slot_pieces x h s ≡ (anchors_piece ∷ heap_band) ++ flex_band
  slot-joined = ap (λ z. anchors_piece ∷ z) (append_assoc heap_band (flex_pieces x h (256 + s.heap.end) s.blocks) (unused_piece s ∷ []))

  -- there are pieces besides the flex blocks
  pub slot-many : length (block_items s) + 2 ≤ length (slot_pieces x h s)
  slot-many =
      let all = ap length slot-joined ∙ length-append (anchors_piece ∷ heap_band) flex_band in
      let high = length-append (flex_pieces x h (256 + s.heap.end) s.blocks) (unused_piece s ∷ []) in
      omega (arith, flex-many x h (256 + s.heap.end) s.blocks, items-many (flex_start s) s.blocks)

  -- where the upper band begins, counted from the last piece
  slot-parted : (n : ℕ) → n ≡ length (slot_pieces x h s) - length (block_items s) - 1 → n ≡ length (anchors_piece ∷ heap_band)
  slot-parted n e =
      let all = ap length slot-joined ∙ length-append (anchors_piece ∷ heap_band) flex_band in
      let high = length-append (flex_pieces x h (256 + s.heap.end) s.blocks) (unused_piece s ∷ []) in
      omega (arith, flex-many x h (256 + s.heap.end) s.blocks, items-many (flex_start s) s.blocks)

  pub lower-band : (n : ℕ) → n ≡ length (slot_pieces x h s) - length (block_items s) - 1 → take (n - 1) (drop 1 (slot_pieces x h s)) ≡ heap_band
  lower-band n e =
      let parted = slot-parted n e in
      let many : n - 1 ≡ length heap_band = omega arith in
      ap₂ (λ k z. take k (drop 1 z)) many slot-joined ∙ take-append_seam heap_band flex_band

  pub upper-band : (n : ℕ) → n ≡ length (slot_pieces x h s) - length (block_items s) - 1 → drop n (slot_pieces x h s) ≡ flex_band
  upper-band n e = ap₂ drop (slot-parted n e) slot-joined ∙ drop-append_seam (anchors_piece ∷ heap_band) flex_band
