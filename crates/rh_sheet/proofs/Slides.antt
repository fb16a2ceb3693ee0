-- Flex blocks that slide at one call slide equally far.
use Rattle.std.proofs.Common.{ℕ, ◌≡◌, ◌+◌, sym, subst, inl, inr, arith, Bool, true, false, List, [], ◌∷◌, ◌++◌, length, Option, Some, None}
use Rattle.std.specs.Prelude.{◌⊎◌, ◌==◌, ℤ, Ok, Err, IfSome, if◌then◌else◌}
use Rattle.std.specs.Option.{option_map}
use Rattle.std.proofs.lemmas.Bool.Decides.{eqb_tells}
use Rattle.rh_defs.specs.declared.question.BlockItem.{BlockItem}
use Rattle.rh_defs.specs.declared.refusal.Refusal.TheVariants.{NoBlock}
use Rattle.rh_defs.specs.Chain.{Granted, found_or}
use Rattle.rh_defs.specs.Pieces.{Split, with_here}
use Rattle.rh_defs.specs.Heap.{Heap, claim_growing, new_size, released, resize_growing}
use Rattle.rh_defs.specs.Slot.{Slot, Flex, IsSlot, IsFree, HaveAnchors, flex_weight, weight, heap_start, flex_start, block_of, with_block, with_block_bytes}
use Rattle.rh_defs.specs.Slot.{without, with_heap, slot_block, slot_alloc, slot_free, slot_extend, slot_mid, slot_put, slot_claim, slot_release, slot_resize}
use Rattle.rh_defs.specs.Questions.{block_items_from}
use Rattle.rh_defs.proofs.Chains.{OnGrant, granted, refused, granted-then, granted-unless}
use Rattle.rh_defs.proofs.Cuts.{IsCut, first_at-cuts}
use Rattle.rh_figure.specs.Changes.{item_with_anchor}
use Rattle.rh_sheet.specs.Slides.{address_in, Slides, OnGranted, SlideInSlots}

-- a block that lies from a place on
abbrev item_at : ℕ → Flex → BlockItem
item_at place b = record { anchor = b.anchor; address = place + 8; size = length b.bytes }

-- the address of an anchor's block, whose test says whether it is the first of blocks that lie from a place on
abbrev first_or : ℕ → ℕ → Flex → List Flex → Bool → Option ℕ
first_or k place b blocks t = option_map (λ (i : BlockItem). i.address)
    (if t then Some (item_at place b) else item_with_anchor k (block_items_from (place + weight b) blocks))

-- ---- lists of blocks

-- the same blocks from two places on
apart : (k up down : ℕ) (blocks : List Flex) (p q a b : ℕ) → p + up ≡ q + down
    → address_in k (block_items_from p blocks) ≡ Some a → address_in k (block_items_from q blocks) ≡ Some b
    → a + up ≡ b + down
apart k up down [] p q a b is e f = absurd cc
apart k up down (x ∷ blocks) p q a b is e f =
    let go = elim (x.anchor == k) as (λ t. first_or k p x blocks t ≡ Some a → first_or k q x blocks t ≡ Some b →
    a + up ≡ b + down) [
      | true ↦ λ u v.
          let here : Some (p + 8) ≡ Some a = u in
          let there : Some (q + 8) ≡ Some b = v in
          let y : p + 8 ≡ a = cc in
          let z : q + 8 ≡ b = cc in
          omega arith
      | false ↦ λ u v. apart k up down blocks (p + weight x) (q + weight x) a b (omega arith) u v
    ] in go e f

-- more blocks above
kept : (k : ℕ) (blocks more : List Flex) (p a b : ℕ) → address_in k (block_items_from p blocks) ≡ Some a
    → address_in k (block_items_from p (blocks ++ more)) ≡ Some b → a ≡ b
kept k [] more p a b e f = absurd cc
kept k (x ∷ blocks) more p a b e f =
    let go = elim (x.anchor == k) as (λ t. first_or k p x blocks t ≡ Some a → first_or k p x (blocks ++ more) t ≡ Some b →
    a ≡ b) [
      | true ↦ λ u v.
          let here : Some (p + 8) ≡ Some a = u in
          let there : Some (p + 8) ≡ Some b = v in
          cc
      | false ↦ λ u v. kept k blocks more (p + weight x) a b u v
    ] in go e f

-- other bytes in a block
replaced : (k : ℕ) (below : List Flex) (y : Flex) (bytes : List ℕ) (above : List Flex) (p a b : ℕ)
    → address_in k (block_items_from p (below ++ y ∷ above)) ≡ Some a
    → address_in k (block_items_from p (below ++ record { anchor = y.anchor; bytes = bytes } ∷ above)) ≡ Some b
    → (a ≡ b) ⊎ (a + flex_weight (length bytes) ≡ b + weight y)
replaced k [] y bytes above p a b e f =
    let new : Flex = record { anchor = y.anchor; bytes = bytes } in
    let go = elim (y.anchor == k) as (λ t. first_or k p y above t ≡ Some a → first_or k p new above t ≡ Some b →
    (a ≡ b) ⊎ (a + flex_weight (length bytes) ≡ b + weight y)) [
      | true ↦ λ u v.
          let here : Some (p + 8) ≡ Some a = u in
          let there : Some (p + 8) ≡ Some b = v in
          let same : a ≡ b = cc in
          inl same
      | false ↦ λ u v. inr (apart k (flex_weight (length bytes)) (weight y) above (p + weight y)
          (p + flex_weight (length bytes)) a b (omega arith) u v)
    ] in go e f
replaced k (x ∷ below) y bytes above p a b e f =
    let new : Flex = record { anchor = y.anchor; bytes = bytes } in
    let go = elim (x.anchor == k) as (λ t. first_or k p x (below ++ y ∷ above) t ≡ Some a →
    first_or k p x (below ++ new ∷ above) t ≡ Some b → (a ≡ b) ⊎ (a + flex_weight (length bytes) ≡ b + weight y)) [
      | true ↦ λ u v.
          let here : Some (p + 8) ≡ Some a = u in
          let there : Some (p + 8) ≡ Some b = v in
          let same : a ≡ b = cc in
          inl same
      | false ↦ λ u v. replaced k below y bytes above (p + weight x) a b u v
    ] in go e f

-- no block of the anchor has an address
not-there : (k : ℕ) (blocks : List Flex) (p b : ℕ) → IsFree k blocks
    → address_in k (block_items_from p blocks) ≡ Some b → ⊥
not-there k [] p b free e = cc
not-there k (x ∷ blocks) p b free e = elim (eqb_tells x.anchor k) [
  | inl s ↦ free.0 s.1
  | inr s ↦ not-there k blocks (p + weight x) b free.1 (rw s.0 at e)
]

-- a block away, where no block above has its anchor
removed : (k : ℕ) (below : List Flex) (y : Flex) (above : List Flex) (p a b : ℕ) → IsFree y.anchor above
    → address_in k (block_items_from p (below ++ y ∷ above)) ≡ Some a
    → address_in k (block_items_from p (below ++ above)) ≡ Some b → (a ≡ b) ⊎ (a + 0 ≡ b + weight y)
removed k [] y above p a b free e f = elim (eqb_tells y.anchor k) [
  | inl s ↦ absurd (not-there k above p b (subst (λ (n : ℕ). IsFree n above) s.1 free) f)
  | inr s ↦ inr (apart k 0 (weight y) above (p + weight y) p a b (omega arith) (rw s.0 at e) f)
]
removed k (x ∷ below) y above p a b free e f =
    let go = elim (x.anchor == k) as (λ t. first_or k p x (below ++ y ∷ above) t ≡ Some a →
    first_or k p x (below ++ above) t ≡ Some b → (a ≡ b) ⊎ (a + 0 ≡ b + weight y)) [
      | true ↦ λ u v.
          let here : Some (p + 8) ≡ Some a = u in
          let there : Some (p + 8) ≡ Some b = v in
          let same : a ≡ b = cc in
          inl same
      | false ↦ λ u v. removed k below y above (p + weight x) a b free u v
    ] in go e f

-- the blocks above one have other anchors
free-above : (below : List Flex) (y : Flex) (above : List Flex) → HaveAnchors (below ++ y ∷ above) → IsFree y.anchor above
free-above [] y above h = h.1
free-above (x ∷ below) y above h = free-above below y above h.2

-- ---- slots

-- the block of an anchor is cut out of all blocks
whole-cut : (k : ℕ) (s : Slot) (b : Split Flex) → slot_block k s ≡ Ok b → with_here b b.here ≡ s.blocks
unfolding slot_block found_or
whole-cut k s b q = go (block_of k s) (first_at-cuts weight (λ _ (c : Flex). c.anchor == k) (flex_start s) s.blocks) q
  where
    go : (o : Option (Split Flex)) → IfSome o (IsCut weight (λ _ (c : Flex). c.anchor == k) (flex_start s) s.blocks)
        → found_or o NoBlock ≡ Ok b → with_here b b.here ≡ s.blocks
    go None c z = absurd (let y : ◌≡◌ {A = Granted (Split Flex)} (Err NoBlock) (Ok b) = z in (cc))
    go (Some x) c z =
        let y : ◌≡◌ {A = Granted (Split Flex)} (Ok x) (Ok b) = z in
        let same : x ≡ b = cc in
        subst (λ (v : Split Flex). with_here v v.here ≡ s.blocks) same c.whole

-- what holds of a grant
on-granted : {A : Type 0} {P : A → Type 0} {r : Granted A} → OnGrant P r → OnGranted P r
on-granted (granted p) = p
on-granted refused = tt

module _ (s : Slot) where
  bytes-slide : (b : Split Flex) (bytes : List ℕ) → with_here b b.here ≡ s.blocks → Slides s (with_block_bytes b bytes s)
  bytes-slide b bytes whole = record {
    up = flex_weight (length bytes);
    down = weight b.here;
    each = λ k x y e f.
        let was = subst (λ (l : List Flex). address_in k (block_items_from (flex_start s) l) ≡ Some x) (sym whole) e in
        replaced k b.before b.here bytes b.after (flex_start s) x y was f;
  }

  without-slides : IsSlot s → (b : Split Flex) → with_here b b.here ≡ s.blocks → Slides s (without b s)
  without-slides is b whole = record {
    up = 0;
    down = weight b.here;
    each = λ k x y e f.
        let was = subst (λ (l : List Flex). address_in k (block_items_from (flex_start s) l) ≡ Some x) (sym whole) e in
        let free = free-above b.before b.here b.after (subst HaveAnchors (sym whole) is.anchors) in
        removed k b.before b.here b.after (flex_start s) x y free was f;
  }

  block-slides : (k : ℕ) (bytes : List ℕ) → Slides s (with_block k bytes s)
  block-slides k bytes = record {
    up = 0;
    down = 0;
    each = λ j x y e f. inl (kept j s.blocks (record { anchor = k; bytes = bytes } ∷ []) (flex_start s) x y e f);
  }

  heap-slides : (h : Heap) → Slides s (with_heap h s)
  heap-slides h = record {
    up = h.end;
    down = s.heap.end;
    each = λ k x y e f.
        inr (apart k h.end s.heap.end s.blocks (heap_start + s.heap.end) (heap_start + h.end) x y (omega arith) e f);
  }

  -- ---- the calls

  alloc-slides : (free k n : ℕ) → OnGranted (λ (p : Slot × ℕ). Slides s p.0) (slot_alloc free k n s)
  unfolding slot_alloc
  alloc-slides free k n =
      on-granted (granted-unless _ _ _ λ u. granted-unless _ _ _ λ v. granted (block-slides k _))

  free-slides : IsSlot s → (k : ℕ) → OnGranted (Slides s) (slot_free k s)
  unfolding slot_free
  free-slides is k = on-granted (granted-then _ _ λ b e. granted (without-slides is b (whole-cut k s b e)))

  extend-slides : (free k n : ℕ) → OnGranted (Slides s) (slot_extend free k n s)
  unfolding slot_extend
  extend-slides free k n =
      on-granted (granted-then _ _ λ b e. granted-unless _ _ _ λ u. granted (bytes-slide b _ (whole-cut k s b e)))

  mid-slides : (free k offset : ℕ) (by : ℤ) → OnGranted (Slides s) (slot_mid free k offset by s)
  unfolding slot_mid
  mid-slides free k offset by = on-granted (
      granted-then _ _ λ b e. granted-unless _ _ _ λ u. granted-unless _ _ _ λ v.
      granted (bytes-slide b _ (whole-cut k s b e)))

  put-slides : (k offset : ℕ) (bytes : List ℕ) → OnGranted (Slides s) (slot_put k offset bytes s)
  unfolding slot_put
  put-slides k offset bytes =
      on-granted (granted-then _ _ λ b e. granted-unless _ _ _ λ u. granted (bytes-slide b _ (whole-cut k s b e)))

  claim-slides : (free n : ℕ) → OnGranted (λ (p : Slot × ℕ). Slides s p.0) (slot_claim free n s)
  unfolding slot_claim
  claim-slides free n = on-granted (
      granted-unless _ _ _ λ u. granted-unless _ _ _ λ v. granted-unless _ _ _ λ w.
      granted (heap-slides (claim_growing n s.heap).heap))

  release-slides : (address : ℕ) → OnGranted (Slides s) (slot_release address s)
  unfolding slot_release
  release-slides address = on-granted (granted-then _ _ λ b e. granted (heap-slides (released b s.heap)))

  resize-slides : (free address : ℕ) (delta : ℤ) → OnGranted (λ (p : Slot × ℕ). Slides s p.0) (slot_resize free address delta s)
  unfolding slot_resize
  resize-slides free address delta = on-granted (
      granted-then _ _ λ b e. granted-unless _ _ _ λ u. granted-unless _ _ _ λ v. granted-unless _ _ _ λ w.
      granted (heap-slides (resize_growing (new_size delta b) b s.heap).heap))

pub slide-in-slots : SlideInSlots
slide-in-slots s is = record {
  alloc = alloc-slides s;
  free = free-slides s is;
  extend = extend-slides s;
  mid = mid-slides s;
  put = put-slides s;
  claim = claim-slides s;
  release = release-slides s;
  resize = resize-slides s;
}
