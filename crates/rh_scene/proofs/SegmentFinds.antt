-- The first segment of a heap that ends behind an address, by a walk over some segments at a time.
use Rattle.rh_scene.proofs.Common.{◌≡◌, ℕ, zero, suc, ◌+◌, ◌<◌, Bool, true, false, refl, ap, ap₂, sym, ◌∙◌, arith, List, [], ◌∷◌, ◌++◌}
use Rattle.rh_scene.proofs.Common.{length, take, drop, find, Option, Some, None, IfSome, take_all, take-append-drop, SEGMENTS_AT_ONCE, SegmentItem, total}
use Rattle.rh_scene.proofs.Common.{Segment, Used, Hole, size_of, segment_item, segment_items_from, item_end}
use Rattle.std.specs.Prelude.{if◌then◌else◌, is_some}
use Rattle.std.specs.Option.{option_or}
use Rattle.std.proofs.lemmas.List.Folds.{find-append}
use Rattle.std.proofs.lemmas.Bool.Decides.{nat_tests}
use Rattle.rh_figure.specs.HeapSegments.{ends_behind}
use Rattle.rh_scene.proofs.SegmentWalks.{length-items, take-items}
use Rattle.rh_scene.proofs.Heaps.{Counted}

pub items-append : (p : ℕ) (xs ys : List Segment) → segment_items_from p (xs ++ ys) ≡ segment_items_from p xs ++ segment_items_from (p + total size_of xs) ys
items-append p [] ys = let same : p ≡ p + 0 = omega arith in ap (λ q. segment_items_from q ys) same
items-append p (x ∷ xs) ys =
    let same : (p + size_of x) + total size_of xs ≡ p + (size_of x + total size_of xs) = omega arith in
    ap (λ z. segment_item p x ∷ z) (items-append (p + size_of x) xs ys ∙ ap (λ q. segment_items_from (p + size_of x) xs ++ segment_items_from q ys) same)

take-past : {A : Type 0} (xs ys : List A) (m : ℕ) → take (length xs + m) (xs ++ ys) ≡ xs ++ take m ys
take-past [] ys m = let e : 0 + m ≡ m = omega arith in ap (λ n. take n ys) e
take-past (x ∷ xs) ys m =
    let e : suc (length xs) + m ≡ suc (length xs + m) = omega arith in ap (λ n. take n (x ∷ (xs ++ ys))) e ∙ ap (λ z. x ∷ z) (take-past xs ys m)

take-here : {A : Type 0} (xs ys : List A) → take (length xs) (xs ++ ys) ≡ xs
take-here [] ys = refl
take-here (x ∷ xs) ys = ap (λ z. x ∷ z) (take-here xs ys)

take-own : {A : Type 0} (n : ℕ) (xs : List A) → take (length (take n xs)) xs ≡ take n xs
take-own zero xs = refl
take-own (suc n) [] = refl
take-own (suc n) (x ∷ xs) = ap (λ z. x ∷ z) (take-own n xs)

-- the next items stand behind those that were counted
pub taken-more : {start end count : ℕ} {items : List SegmentItem} {all : List Segment} → Counted start 16 end count items all
    → take (count + length items) (segment_items_from (start + 16) all) ≡ take count (segment_items_from (start + 16) all) ++ items
taken-more {start} {end} {count} {items} {all} k =
    let front = segment_items_from (start + 16) k.passed in
    let back = segment_items_from (start + end) k.left in
    let same : start + 16 + total size_of k.passed ≡ start + end = omega (arith, k.at) in
    let whole : segment_items_from (start + 16) all ≡ front ++ back =
    ap (segment_items_from (start + 16)) k.whole ∙ (items-append (start + 16) k.passed k.left ∙ ap (λ p. front ++ segment_items_from p k.left) same) in
    let many : count ≡ length front = k.count_is ∙ sym (length-items (start + 16) k.passed) in
    let next : items ≡ take SEGMENTS_AT_ONCE back = k.items_are ∙ sym (take-items SEGMENTS_AT_ONCE (start + end) k.left) in
    ap₂ (λ n xs. take (n + length items) xs) many whole
    ∙ (take-past front back (length items)
    ∙ (ap (λ z. front ++ z) (ap (λ z. take (length z) back) next ∙ (take-own SEGMENTS_AT_ONCE back ∙ sym next))
    ∙ ap (λ z. z ++ items) (sym (ap₂ take many whole ∙ take-here front back))))

-- ---- a walk that looks for it

-- none of the segments that were passed is the one
pub record Looked (a start end : ℕ) (items : List SegmentItem) (all : List Segment) : Type 0 where
  pub count : ℕ
  pub counted : Counted start 16 end count items all
  pub so_far : find (ends_behind a) (take count (segment_items_from (start + 16) all)) ≡ None

module _ {a start end : ℕ} {items : List SegmentItem} {all : List Segment} (k : Looked a start end items all) where
  -- what is found with the next items
  with-items : find (ends_behind a) (take (k.count + length items) (segment_items_from (start + 16) all)) ≡ find (ends_behind a) items
  with-items =
      ap (find (ends_behind a)) (taken-more k.counted)
      ∙ (find-append (ends_behind a) (take k.count (segment_items_from (start + 16) all)) items
      ∙ ap (λ o. option_or o (find (ends_behind a) items)) k.so_far)

  pub looked-more : {next : ℕ} {items2 : List SegmentItem} → find (ends_behind a) items ≡ None
      → Counted start 16 next (k.count + length items) items2 all → Looked a start next items2 all
  looked-more none more = record { count = k.count + length items; counted = more; so_far = with-items ∙ none }

  pub looked-found : (o : Option SegmentItem) → is_some o ≡ true → o ≡ find (ends_behind a) items
      → o ≡ find (ends_behind a) (segment_items_from (start + 16) all)
  looked-found None some found = absurd (cc)
  looked-found (Some i) some found =
      let list = segment_items_from (start + 16) all in
      let n = k.count + length items in
      let here : find (ends_behind a) (take n list) ≡ Some i = with-items ∙ sym found in
      sym (ap (find (ends_behind a)) (sym (take-append-drop n list)) ∙ (find-append (ends_behind a) (take n list) (drop n list)
      ∙ ap (λ z. option_or z (find (ends_behind a) (drop n list))) here))

  pub looked-all : k.count ≡ length all → None ≡ find (ends_behind a) (segment_items_from (start + 16) all)
  looked-all e =
      let list = segment_items_from (start + 16) all in
      sym k.so_far ∙ ap (find (ends_behind a)) (take_all k.count list (omega (arith, e, length-items (start + 16) all)))

-- ---- where it ends

ends-at : (p : ℕ) (g : Segment) → item_end (segment_item p g) ≡ p + size_of g
ends-at p (Used bytes) = omega arith
ends-at p (Hole size) = omega arith

-- behind the address, and no farther than the last of them
pub ends-within : (a p most : ℕ) (gs : List Segment) → p + total size_of gs < most
    → IfSome (find (ends_behind a) (segment_items_from p gs)) (λ i. (a < item_end i) × (item_end i < most))
ends-within a p most [] fits = tt
ends-within a p most (g ∷ gs) fits = go (ends_behind a (segment_item p g)) refl (ends-within a (p + size_of g) most gs (omega arith))
  where
    go : (b : Bool) → ends_behind a (segment_item p g) ≡ b
        → IfSome (find (ends_behind a) (segment_items_from (p + size_of g) gs)) (λ i. (a < item_end i) × (item_end i < most))
        → IfSome (if b then Some (segment_item p g) else find (ends_behind a) (segment_items_from (p + size_of g) gs))
        (λ i. (a < item_end i) × (item_end i < most))
    go true e rest = let at = ends-at p g in (grind (arith, nat_tests), omega arith)
    go false e rest = rest

pub none-of : {A : Type 0} (o : Option A) → is_some o ≡ false → o ≡ None
none-of None e = refl
none-of (Some x) e = absurd (cc)
