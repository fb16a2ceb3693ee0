-- The segments of a heap, place by place.
use Rattle.rh_script.proofs.Common.{◌≡◌, ℕ, zero, suc, ◌+◌, ◌-◌, ◌≤◌, ◌<◌, Bool, true, false, cond, List, [], ◌∷◌, ◌++◌, length, take, drop, Option, Some}
use Rattle.rh_script.proofs.Common.{None, refl, sym, ap, subst, ◌∙◌, arith, append_assoc, append-nil, ◌==◌, slice_get, take-append-drop, flat_map, option_map}
use Rattle.rh_script.proofs.Common.{tests, SegmentItem, segment_line, segment_items_at}
use Rattle.std.proofs.lemmas.Grind.{flat_map-append}
use Rattle.std.specs.List.{AllByRecursion}
use Rattle.rh_defs.specs.declared.sizes.TheConstants.{SEGMENTS_AT_ONCE}
use Rattle.rh_defs.specs.Pieces.{Split, behind, first_at, total}
use Rattle.rh_defs.specs.Heap.{Segment, Used, Hole, Heap, IsTidy, IsHeap, size_of, first_place, place_after, segment_at}
use Rattle.rh_defs.specs.Slot.{heap_start}
use Rattle.rh_defs.specs.Questions.{segment_item, segment_items_from}
use Rattle.rh_defs.proofs.Cuts.{total-append}
use Rattle.rh_heap.specs.Listed.{from_cut}
use Rattle.rh_script.specs.Inner.SegmentsBehind.{item_end}

-- ---- the segment at a place

abbrev pub AllSized : List Segment → Type 0
AllSized segments = AllByRecursion (λ g. 0 < size_of g) segments

pub sized : (b : Bool) (segments : List Segment) → IsTidy b segments → AllSized segments
sized false [] t = tt
sized true [] t = absurd t
sized false (Used bytes ∷ segments) t = (omega arith, sized false segments t.1)
sized true (Used bytes ∷ segments) t = (omega arith, sized false segments t.1)
sized false (Hole n ∷ segments) t = (t.0, sized true segments t.2)
sized true (Hole n ∷ segments) t = absurd t

sized-front : (xs ys : List Segment) → AllSized (xs ++ ys) → AllSized xs
sized-front [] ys all = tt
sized-front (x ∷ xs) ys all = (all.0, sized-front xs ys all.1)

from_cut-behind : (x : Segment) (o : Option (Split Segment)) → from_cut (option_map (behind x) o) ≡ from_cut o
from_cut-behind x None = refl
from_cut-behind x (Some s) = refl

-- behind some segments stand the next ones
at_place : (start place : ℕ) (before after : List Segment) → AllSized before → place ≡ start + total size_of before
    → from_cut (first_at size_of (λ q g. place == q) start (before ++ after)) ≡ after
at_place start place [] [] all e = refl
at_place start place [] (g ∷ after) all e = go (place == start) refl
  where
    go : (b : Bool) → (place == start) ≡ b
        → from_cut (cond b (Some (record { before = []; here = g; after = after }))
        (option_map (behind g) (first_at size_of (λ q x. place == q) (start + size_of g) after))) ≡ g ∷ after
    go true k = refl
    go false k = absurd (grind (arith, tests))
at_place start place (x ∷ xs) after all e = go (place == start) refl (at_place (start + size_of x) place xs after all.1 (omega arith))
  where
    go : (b : Bool) → (place == start) ≡ b → from_cut (first_at size_of (λ q g. place == q) (start + size_of x) (xs ++ after)) ≡ after
        → from_cut (cond b (Some (record { before = []; here = x; after = xs ++ after }))
        (option_map (behind x) (first_at size_of (λ q g. place == q) (start + size_of x) (xs ++ after)))) ≡ after
    go true k h = let low : 0 < size_of x = all.0 in absurd (grind (arith, tests))
    go false k h = from_cut-behind x (first_at size_of (λ q g. place == q) (start + size_of x) (xs ++ after)) ∙ h

-- ---- the walk

items_append : (p : ℕ) (xs ys : List Segment) → segment_items_from p (xs ++ ys) ≡ segment_items_from p xs ++ segment_items_from (p + total size_of xs) ys
items_append p [] ys = ap (λ n. segment_items_from n ys) (omega arith)
items_append p (x ∷ xs) ys =
    let same : p + size_of x + total size_of xs ≡ p + (size_of x + total size_of xs) = omega arith in
    ap (λ z. segment_item p x ∷ z) (items_append (p + size_of x) xs ys ∙ ap (λ n. segment_items_from (p + size_of x) xs ++ segment_items_from n ys) same)

items_taken : (n p : ℕ) (gs : List Segment) → take n (segment_items_from p gs) ≡ segment_items_from p (take n gs)
items_taken zero p gs = refl
items_taken (suc n) p [] = refl
items_taken (suc n) p (g ∷ gs) = ap (λ z. segment_item p g ∷ z) (items_taken n (p + size_of g) gs)

item_ends : (p : ℕ) (g : Segment) → item_end (segment_item p g) ≡ p + size_of g
item_ends p (Used bytes) = omega arith
item_ends p (Hole n) = refl

-- the last of some segments ends where they all do
last_at : (p : ℕ) (g : Segment) (gs : List Segment) (x : SegmentItem)
    → Some x ≡ slice_get (segment_items_from p (g ∷ gs)) (length (segment_items_from (p + size_of g) gs)) → item_end x ≡ p + total size_of (g ∷ gs)
last_at p g [] x e =
    let is : x ≡ segment_item p g = cc in
    omega (arith, ap item_end is, item_ends p g)
last_at p g (f ∷ gs) x e = omega (arith, last_at (p + size_of g) f gs x e)

last_ends : (p : ℕ) (gs : List Segment) (x : SegmentItem) → Some x ≡ slice_get (segment_items_from p gs) (length (segment_items_from p gs) - 1)
    → item_end x ≡ p + total size_of gs
last_ends p [] x e = absurd (cc)
last_ends p (g ∷ gs) x e = last_at p g gs x (e ∙ ap (slice_get (segment_items_from p (g ∷ gs))) (omega arith))

last_is : {A : Type 0} (x : A) (xs : List A) → None ≡ slice_get (x ∷ xs) (length xs) → x ∷ xs ≡ []
last_is x [] e = absurd (cc)
last_is x (y ∷ xs) e = let none = last_is y xs e in absurd (cc)

none_last : {A : Type 0} (xs : List A) → None ≡ slice_get xs (length xs - 1) → xs ≡ []
none_last [] e = refl
none_last (x ∷ xs) e = last_is x xs (e ∙ ap (slice_get (x ∷ xs)) (omega arith))

-- the lines of segments that begin at the heap's first place
abbrev pub lines : List Segment → List ℕ
lines segments = flat_map segment_line (segment_items_from (heap_start + first_place) segments)

-- the segments below a place were written
pub record Walked (segments : List Segment) (place : ℕ) (old new : List ℕ) : Type 0 where
  pub before : List Segment
  pub after : List Segment
  pub whole : before ++ after ≡ segments
  pub stands : place ≡ place_after before
  pub written : new ≡ old ++ lines before

pub walk_none : (segments : List Segment) (o : List ℕ) → Walked segments 16 o o
walk_none segments o = record { before = []; after = segments; whole = refl; stands = refl; written = sym (append-nil o) }

-- what is read at the place
there : (h : Heap) (place : ℕ) {o n : List ℕ} (items : List SegmentItem) → IsHeap h → (w : Walked h.segments place o n) → items ≡ segment_items_at place h
    → items ≡ segment_items_from (heap_start + place) (take SEGMENTS_AT_ONCE w.after)
there h place items is w e =
    let all : AllSized (w.before ++ w.after) = (let P : List Segment → Type 0 = AllSized in subst P (sym w.whole) (sized false h.segments is.tidy)) in
    let after : from_cut (segment_at place h) ≡ w.after = ap (λ gs. from_cut (first_at size_of (λ q g. place == q) first_place gs)) (sym w.whole)
    ∙ at_place first_place place w.before w.after (sized-front w.before w.after all) w.stands in
    e ∙ (ap (λ gs. take SEGMENTS_AT_ONCE (segment_items_from (heap_start + place) gs)) after ∙ items_taken SEGMENTS_AT_ONCE (heap_start + place) w.after)

-- the lines up to some segments and their own
lines_more : (place : ℕ) (before front : List Segment) → place ≡ place_after before
    → lines (before ++ front) ≡ lines before ++ flat_map segment_line (segment_items_from (heap_start + place) front)
lines_more place before front e =
    let same : heap_start + first_place + total size_of before ≡ heap_start + place = omega arith in
    ap (flat_map segment_line) (items_append (heap_start + first_place) before front
    ∙ ap (λ n. segment_items_from (heap_start + first_place) before ++ segment_items_from n front) same)
    ∙ flat_map-append segment_line (segment_items_from (heap_start + first_place) before) (segment_items_from (heap_start + place) front)

-- where these segments end
pub record Ends (h : Heap) (place : ℕ) (last : SegmentItem) : Type 0 where
  pub low : place + heap_start < item_end last
  pub within : item_end last ≤ h.end + heap_start

sized_some : (gs : List Segment) (p : ℕ) (x : SegmentItem) → AllSized gs
    → Some x ≡ slice_get (segment_items_from p gs) (length (segment_items_from p gs) - 1) → 0 < total size_of gs
sized_some [] p x all e = absurd (cc)
sized_some (g ∷ gs) p x all e = omega (arith, all.0)

sized-back : (xs ys : List Segment) → AllSized (xs ++ ys) → AllSized ys
sized-back [] ys all = all
sized-back (x ∷ xs) ys all = sized-back xs ys all.1

pub batch_ends : (h : Heap) (place : ℕ) {o n : List ℕ} (items : List SegmentItem) (last : SegmentItem) → IsHeap h → Walked h.segments place o n
    → items ≡ segment_items_at place h → Some last ≡ slice_get items (length items - 1) → Ends h place last
batch_ends h place items last is w e l =
    let front = take SEGMENTS_AT_ONCE w.after in
    let back = drop SEGMENTS_AT_ONCE w.after in
    let here : Some last ≡ slice_get (segment_items_from (heap_start + place) front) (length (segment_items_from (heap_start + place) front) - 1) =
    l ∙ ap (λ xs. slice_get xs (length xs - 1)) (there h place items is w e) in
    let all : AllSized (w.before ++ w.after) = (let P : List Segment → Type 0 = AllSized in subst P (sym w.whole) (sized false h.segments is.tidy)) in
    let after : AllSized (front ++ back) =
    (let P : List Segment → Type 0 = AllSized in subst P (sym (take-append-drop SEGMENTS_AT_ONCE w.after)) (sized-back w.before w.after all)) in
    let some = sized_some front (heap_start + place) last (sized-front front back after) here in
    let ends = last_ends (heap_start + place) front last here in
    let sum1 : total size_of (w.before ++ w.after) ≡ total size_of h.segments = ap (total size_of) w.whole in
    let sum2 = total-append size_of w.before w.after in
    let sum3 : total size_of (front ++ back) ≡ total size_of w.after = ap (total size_of) (take-append-drop SEGMENTS_AT_ONCE w.after) in
    let sum4 = total-append size_of front back in
    record { low = omega (arith, ends, some); within = omega (arith, ends, sum1, sum2, sum3, sum4, w.stands, is.fits) }

-- the segments below the next place were written
pub batch_more : (h : Heap) (place next : ℕ) {o n u : List ℕ} (items : List SegmentItem) (last : SegmentItem) → IsHeap h → Walked h.segments place o n
    → items ≡ segment_items_at place h → Some last ≡ slice_get items (length items - 1)
    → next + heap_start ≡ item_end last → u ≡ n ++ flat_map segment_line items → Walked h.segments next o u
batch_more h place next {o} {n} {u} items last is w e l q t =
    let front = take SEGMENTS_AT_ONCE w.after in
    let back = drop SEGMENTS_AT_ONCE w.after in
    let these = there h place items is w e in
    let here : Some last ≡ slice_get (segment_items_from (heap_start + place) front) (length (segment_items_from (heap_start + place) front) - 1) =
    l ∙ ap (λ xs. slice_get xs (length xs - 1)) these in
    let ends = last_ends (heap_start + place) front last here in
    record {
      before = w.before ++ front;
      after = back;
      whole = append_assoc w.before front back ∙ (ap (λ gs. w.before ++ gs) (take-append-drop SEGMENTS_AT_ONCE w.after) ∙ w.whole);
      stands = omega (arith, ends, q, w.stands, total-append size_of w.before front);
      written = t ∙ (ap (λ z. z ++ flat_map segment_line items) w.written ∙ (append_assoc o (lines w.before) (flat_map segment_line items)
          ∙ ap (λ z. o ++ z) (ap (λ xs. lines w.before ++ flat_map segment_line xs) these ∙ sym (lines_more place w.before front w.stands))));
    }

all_walked : (segments : List Segment) (p : ℕ) (o n : List ℕ) (before after : List Segment) → before ++ after ≡ segments → n ≡ o ++ lines before
    → segment_items_from p (take SEGMENTS_AT_ONCE after) ≡ [] → n ≡ o ++ lines segments
all_walked segments p o n before [] whole written e = written ∙ ap (λ gs. o ++ lines gs) (sym (append-nil before) ∙ whole)
all_walked segments p o n before (g ∷ rest) whole written e = absurd (cc)

-- all were written where none stands at the place
pub batch_none : (h : Heap) (place : ℕ) {o n : List ℕ} (items : List SegmentItem) → IsHeap h → Walked h.segments place o n → items ≡ segment_items_at place h
    → None ≡ slice_get items (length items - 1) → n ≡ o ++ lines h.segments
batch_none h place {o} {n} items is w e none =
    all_walked h.segments (heap_start + place) o n w.before w.after w.whole w.written (sym (there h place items is w e) ∙ none_last items none)
