-- Walks over the segments of a heap, some at a time.
use Rattle.rh_scene.proofs.Common.{◌≡◌, ℕ, zero, suc, ◌+◌, ◌-◌, ◌<◌, refl, ap, ◌∙◌, arith, List, [], ◌∷◌, ◌++◌, length, take, Some}
use Rattle.rh_scene.proofs.Common.{None, slice_get, SEGMENTS_AT_ONCE, SegmentItem, total, Segment, Used, Hole, size_of, segment_item, segment_items_from}
use Rattle.rh_scene.proofs.Common.{Legend, segment_pieces, item_end}
use Rattle.rh_figure.specs.Layout.{segment_piece}

pub take-items : (n p : ℕ) (segments : List Segment) → take n (segment_items_from p segments) ≡ segment_items_from p (take n segments)
take-items zero p segments = refl
take-items (suc n) p [] = refl
take-items (suc n) p (g ∷ segments) = ap (λ l. segment_item p g ∷ l) (take-items n (p + size_of g) segments)

pub length-items : (p : ℕ) (segments : List Segment) → length (segment_items_from p segments) ≡ length segments
length-items p [] = refl
length-items p (g ∷ segments) = ap suc (length-items (p + size_of g) segments)

pub pieces-append : (g : Legend) (p : ℕ) (xs ys : List Segment)
    → segment_pieces g p (xs ++ ys) ≡ segment_pieces g p xs ++ segment_pieces g (p + total size_of xs) ys
pieces-append g p [] ys = let same : p ≡ p + 0 = omega arith in ap (λ q. segment_pieces g q ys) same
pieces-append g p (x ∷ xs) ys =
    let same : (p + size_of x) + total size_of xs ≡ p + (size_of x + total size_of xs) = omega arith in
    ap (λ l. segment_piece g p x ∷ l) (pieces-append g (p + size_of x) xs ys ∙ ap (λ q. segment_pieces g (p + size_of x) xs ++ segment_pieces g q ys) same)

item-end : (p : ℕ) (g : Segment) → item_end (segment_item p g) ≡ p + (size_of g + 0)
item-end p (Used bytes) = omega arith
item-end p (Hole size) = omega arith

-- the last of some segments ends where they all do
last-at : (p : ℕ) (g : Segment) (gs : List Segment) (x : SegmentItem)
    → Some x ≡ slice_get (segment_items_from p (g ∷ gs)) (length (segment_items_from (p + size_of g) gs)) → item_end x ≡ p + total size_of (g ∷ gs)
last-at p g [] x e = let is : x ≡ segment_item p g = cc in ap item_end is ∙ item-end p g
last-at p g (f ∷ gs) x e =
    let rest : item_end x ≡ (p + size_of g) + total size_of (f ∷ gs) = last-at (p + size_of g) f gs x e in rest ∙ omega arith

pub last-ends : (p : ℕ) (gs : List Segment) (x : SegmentItem) → Some x ≡ slice_get (segment_items_from p gs) (length (segment_items_from p gs) - 1)
    → item_end x ≡ p + total size_of gs
last-ends p [] x e = absurd (cc)
last-ends p (g ∷ gs) x e = last-at p g gs x (e ∙ ap (slice_get (segment_items_from p (g ∷ gs))) (omega arith))

last-is : {A : Type 0} (x : A) (xs : List A) → None ≡ slice_get (x ∷ xs) (length xs) → x ∷ xs ≡ []
last-is x [] e = absurd (cc)
last-is x (y ∷ xs) e = let none : y ∷ xs ≡ [] = last-is y xs e in absurd (cc)

pub none-last : {A : Type 0} (xs : List A) → None ≡ slice_get xs (length xs - 1) → xs ≡ []
none-last [] e = refl
none-last (x ∷ xs) e = last-is x xs (e ∙ ap (slice_get (x ∷ xs)) (omega arith))

pub some-last : {A : Type 0} (xs : List A) (x : A) → Some x ≡ slice_get xs (length xs - 1) → 0 < length xs
some-last [] x e = absurd (cc)
some-last (y ∷ xs) x e = omega arith

pub no-items : (p : ℕ) (gs : List Segment) → segment_items_from p (take SEGMENTS_AT_ONCE gs) ≡ [] → gs ≡ []
no-items p [] e = refl
no-items p (g ∷ gs) e = absurd (cc)
