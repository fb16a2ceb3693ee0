-- The segments of a C heap in a slice, some at a time.
use Rattle.vf_desk.proofs.Common.{◌≡◌, ℕ, zero, suc, ◌+◌, ◌-◌, ◌≤◌, ◌<◌, Bool, true, false, cond, List, [], ◌∷◌, ◌++◌, length, take, drop, Option, Some, None}
use Rattle.vf_desk.proofs.Common.{Ok, refl, sym, ap, subst, ◌∙◌, arith, append_assoc, append-nil, length-append, ◌==◌, slice_get, map, find, tests}
use Rattle.vf_desk.proofs.Common.{filled_front}
use Rattle.vf_desk.proofs.Common.{◌>>=◌, Desk, Task, named, filled_from}
use Rattle.std.proofs.lemmas.List.{take-append-drop}
use Rattle.std.specs.Option.{option_map}
use Rattle.rh_defs.specs.declared.sizes.TheConstants.{SEGMENTS_AT_ONCE}
use Rattle.rh_defs.specs.declared.question.SegmentItem.{SegmentItem}
use Rattle.rh_defs.specs.declared.refusal.Refusal.TheVariants.{NoName}
use Rattle.rh_defs.specs.declared.question.Numbers.TheVariants as numbers
use Rattle.rh_defs.specs.Chain.{found_or}
use Rattle.rh_defs.specs.Desk.{has_name}
use Rattle.rh_defs.specs.Pieces.{Split, behind, first_at, total}
use Rattle.rh_defs.specs.Heap.{Segment, Used, Hole, Heap, IsHeap, size_of, first_place, place_after, segment_at, largest, free_bytes}
use Rattle.rh_defs.specs.Slot.{heap_start}
use Rattle.rh_defs.specs.Questions.{Segments, segment_item, segment_items, segment_items_from, heap}
use Rattle.rh_defs.proofs.Cuts.{total-append}
use Rattle.rh_heap.specs.Listed.{from_cut}
use Rattle.rh_tasks.specs.WorldLists.{segment_items_at}
use Rattle.rh_script.specs.NamedSlots.{slot_or_empty}
use Rattle.rh_script.specs.Inner.SegmentsBehind.{item_end, segments_of_named}
use Rattle.rh_script.proofs.SegmentLemmas.{AllSized, sized}
use Rattle.vf_desk.specs.DeskItems.{listed_with, as_segment, segments_listed}
use Rattle.vf_desk.specs.declared.items.VfSegment.{VfSegment}
use Rattle.vf_desk.proofs.FillLaws.{filled-behind, filled-none, map-append}
use Rattle.vf_desk.proofs.ListLaws.{map-length}

-- ---- the segments from a place on

sized-parts : (xs ys : List Segment) → AllSized (xs ++ ys) → AllSized xs × AllSized ys
sized-parts [] ys all = (tt, all)
sized-parts (x ∷ xs) ys all = ((all.0, (sized-parts xs ys all.1).0), (sized-parts xs ys all.1).1)

cut-behind : (x : Segment) (o : Option (Split Segment)) → from_cut (option_map (behind x) o) ≡ from_cut o
cut-behind x None = refl
cut-behind x (Some s) = refl

-- behind some segments stand the next ones
at-place : (start place : ℕ) (before after : List Segment) → AllSized before → place ≡ start + total size_of before
    → from_cut (first_at size_of (λ q g. place == q) start (before ++ after)) ≡ after
at-place start place [] [] all e = refl
at-place start place [] (g ∷ after) all e = go (place == start) refl
  where
    go : (b : Bool) → (place == start) ≡ b
        → from_cut (cond b (Some (record { before = []; here = g; after = after }))
        (option_map (behind g) (first_at size_of (λ q x. place == q) (start + size_of g) after))) ≡ g ∷ after
    go true k = refl
    go false k = absurd (grind (arith, tests))
at-place start place (x ∷ xs) after all e = go (place == start) refl (at-place (start + size_of x) place xs after all.1 (omega arith))
  where
    go : (b : Bool) → (place == start) ≡ b → from_cut (first_at size_of (λ q g. place == q) (start + size_of x) (xs ++ after)) ≡ after
        → from_cut (cond b (Some (record { before = []; here = x; after = xs ++ after }))
        (option_map (behind x) (first_at size_of (λ q g. place == q) (start + size_of x) (xs ++ after)))) ≡ after
    go true k h = let low : 0 < size_of x = all.0 in absurd (grind (arith, tests))
    go false k h = cut-behind x (first_at size_of (λ q g. place == q) (start + size_of x) (xs ++ after)) ∙ h

items-append : (p : ℕ) (xs ys : List Segment) → segment_items_from p (xs ++ ys) ≡ segment_items_from p xs ++ segment_items_from (p + total size_of xs) ys
items-append p [] ys = ap (λ n. segment_items_from n ys) (omega arith)
items-append p (x ∷ xs) ys =
    let same : p + size_of x + total size_of xs ≡ p + (size_of x + total size_of xs) = omega arith in
    ap (λ z. segment_item p x ∷ z) (items-append (p + size_of x) xs ys ∙ ap (λ n. segment_items_from (p + size_of x) xs ++ segment_items_from n ys) same)

items-taken : (n p : ℕ) (gs : List Segment) → take n (segment_items_from p gs) ≡ segment_items_from p (take n gs)
items-taken zero p gs = refl
items-taken (suc n) p [] = refl
items-taken (suc n) p (g ∷ gs) = ap (λ z. segment_item p g ∷ z) (items-taken n (p + size_of g) gs)

items-length : (p : ℕ) (gs : List Segment) → length (segment_items_from p gs) ≡ length gs
items-length p [] = refl
items-length p (g ∷ gs) = ap suc (items-length (p + size_of g) gs)

item-ends : (p : ℕ) (g : Segment) → item_end (segment_item p g) ≡ p + size_of g
item-ends p (Used bytes) = omega arith
item-ends p (Hole n) = refl

-- the last of some segments ends where they all do
last-at : (p : ℕ) (g : Segment) (gs : List Segment) (x : SegmentItem)
    → Some x ≡ slice_get (segment_items_from p (g ∷ gs)) (length (segment_items_from (p + size_of g) gs)) → item_end x ≡ p + total size_of (g ∷ gs)
last-at p g [] x e =
    let is : x ≡ segment_item p g = cc in
    omega (arith, ap item_end is, item-ends p g)
last-at p g (f ∷ gs) x e = omega (arith, last-at (p + size_of g) f gs x e)

-- it ends behind the place where they begin
last-ends : (p : ℕ) (gs : List Segment) (x : SegmentItem) → AllSized gs → Some x ≡ slice_get (segment_items_from p gs) (length (segment_items_from p gs) - 1)
    → (item_end x ≡ p + total size_of gs) × (0 < total size_of gs)
last-ends p [] x all e = absurd (cc)
last-ends p (g ∷ gs) x all e =
    (last-at p g gs x (e ∙ ap (slice_get (segment_items_from p (g ∷ gs))) (omega arith)), omega (arith, all.0))

no-last : {A : Type 0} (x : A) (xs : List A) → None ≡ slice_get (x ∷ xs) (length xs) → ⊥
no-last x [] e = cc
no-last x (y ∷ xs) e = no-last y xs e

pub none-last : {A : Type 0} (xs : List A) → None ≡ slice_get xs (length xs - 1) → [] ≡ xs
none-last [] e = refl
none-last (x ∷ xs) e = absurd (no-last x xs (e ∙ ap (slice_get (x ∷ xs)) (omega arith)))

-- there are no more of them than bytes
few-sized : (gs : List Segment) → AllSized gs → length gs ≤ total size_of gs
few-sized [] all = omega arith
few-sized (g ∷ gs) all = omega (arith, few-sized gs all.1, all.0)

-- ---- the walk

-- segments as structs, from the heap's first place on
abbrev pub shown : List Segment → List VfSegment
shown segments = map as_segment (segment_items_from (heap_start + first_place) segments)

-- the segments below a place were put into the slice, and counted
pub record Walked (segments : List Segment) (place count : ℕ) (old now : List VfSegment) : Type 0 where
  pub before : List Segment
  pub after : List Segment
  pub whole : before ++ after ≡ segments
  pub stands : place ≡ place_after before
  pub counted : count ≡ length before
  pub filled_is : now ≡ filled_front (shown before) old

pub walk-none : (segments : List Segment) (old : List VfSegment) → Walked segments first_place 0 old old
walk-none segments old =
    record { before = []; after = segments; whole = refl; stands = refl; counted = refl; filled_is = sym (filled-none old) }

module _ (h : Heap) (place count : ℕ) (old now : List VfSegment) (is : IsHeap h) (w : Walked h.segments place count old now) where
  all-sized : AllSized w.before × AllSized w.after
  all-sized = sized-parts w.before w.after (let P : List Segment → Type 0 = AllSized in subst P (sym w.whole) (sized false h.segments is.tidy))

  there : (items : List SegmentItem) → items ≡ segment_items_at place h → items ≡ segment_items_from (heap_start + place) (take SEGMENTS_AT_ONCE w.after)
  there items e =
      let after : from_cut (segment_at place h) ≡ w.after =
      ap (λ gs. from_cut (first_at size_of (λ q g. place == q) first_place gs)) (sym w.whole)
      ∙ at-place first_place place w.before w.after all-sized.0 w.stands in
      e ∙ (ap (λ gs. take SEGMENTS_AT_ONCE (segment_items_from (heap_start + place) gs)) after ∙ items-taken SEGMENTS_AT_ONCE (heap_start + place) w.after)

  -- there are no more than the heap has bytes
  pub walked-few : count ≤ h.end
  walked-few =
      let sum : total size_of (w.before ++ w.after) ≡ total size_of h.segments = ap (total size_of) w.whole in
      omega (arith, few-sized w.before all-sized.0, w.counted, sum, total-append size_of w.before w.after, is.fits)

  -- where the next ones end
  pub record Ends (last : SegmentItem) : Type 0 where
    pub low : place + heap_start < item_end last
    pub within : item_end last ≤ h.end + heap_start

  module _ (items : List SegmentItem) (last : SegmentItem) (e : items ≡ segment_items_at place h) (l : Some last ≡ slice_get items (length items - 1)) where
    last-here : Some last ≡ slice_get (segment_items_from (heap_start + place) (take SEGMENTS_AT_ONCE w.after))
        (length (segment_items_from (heap_start + place) (take SEGMENTS_AT_ONCE w.after)) - 1)
    last-here = l ∙ ap (λ xs. slice_get xs (length xs - 1)) (there items e)

    parts-sized : AllSized (take SEGMENTS_AT_ONCE w.after) × AllSized (drop SEGMENTS_AT_ONCE w.after)
    parts-sized =
        sized-parts (take SEGMENTS_AT_ONCE w.after) (drop SEGMENTS_AT_ONCE w.after)
        (let P : List Segment → Type 0 = AllSized in subst P (sym (take-append-drop SEGMENTS_AT_ONCE w.after)) all-sized.1)

    pub batch-ends : Ends last
    batch-ends =
        let front = take SEGMENTS_AT_ONCE w.after in
        let back = drop SEGMENTS_AT_ONCE w.after in
        let ends = last-ends (heap_start + place) front last parts-sized.0 last-here in
        let sum1 : total size_of (w.before ++ w.after) ≡ total size_of h.segments = ap (total size_of) w.whole in
        let sum2 = total-append size_of w.before w.after in
        let sum3 : total size_of (front ++ back) ≡ total size_of w.after = ap (total size_of) (take-append-drop SEGMENTS_AT_ONCE w.after) in
        let sum4 = total-append size_of front back in
        record { low = omega (arith, ends); within = omega (arith, ends, sum1, sum2, sum3, sum4, w.stands, is.fits) }

    -- the segments below the next place were put there
    pub batch-more : (next : ℕ) (later : List VfSegment) → next + heap_start ≡ item_end last → later ≡ filled_from count (map as_segment items) now
        → Walked h.segments next (count + length items) old later
    batch-more next later q puts =
        let front = take SEGMENTS_AT_ONCE w.after in
        let back = drop SEGMENTS_AT_ONCE w.after in
        let these : items ≡ segment_items_from (heap_start + place) front = there items e in
        let ends = last-ends (heap_start + place) front last parts-sized.0 last-here in
        let place_is : heap_start + first_place + total size_of w.before ≡ heap_start + place = omega (arith, w.stands) in
        let more : shown (w.before ++ front) ≡ shown w.before ++ map as_segment items =
        ap (map as_segment) (items-append (heap_start + first_place) w.before front
        ∙ ap (λ n. segment_items_from (heap_start + first_place) w.before ++ segment_items_from n front) place_is
        ∙ ap (λ l. segment_items_from (heap_start + first_place) w.before ++ l) (sym these))
        ∙ map-append as_segment (segment_items_from (heap_start + first_place) w.before) items in
        let long : length (shown w.before) ≡ count =
        map-length as_segment (segment_items_from (heap_start + first_place) w.before) ∙ items-length (heap_start + first_place) w.before ∙ sym w.counted in
        let many : length items ≡ length front = ap length these ∙ items-length (heap_start + place) front in
        record {
          before = w.before ++ front;
          after = back;
          whole = append_assoc w.before front back ∙ (ap (λ gs. w.before ++ gs) (take-append-drop SEGMENTS_AT_ONCE w.after) ∙ w.whole);
          stands = omega (arith, ends, q, w.stands, total-append size_of w.before front);
          counted = omega (arith, w.counted, many, length-append w.before front);
          filled_is = puts ∙ ap (λ n. filled_from n (map as_segment items) now) (sym long)
              ∙ ap (filled_from (length (shown w.before)) (map as_segment items)) w.filled_is
              ∙ filled-behind (shown w.before) (map as_segment items) old ∙ ap (λ l. filled_front l old) (sym more);
        }

  all-walked : (p : ℕ) (before after : List Segment) → before ++ after ≡ h.segments → [] ≡ segment_items_from p (take SEGMENTS_AT_ONCE after)
      → before ≡ h.segments
  all-walked p before [] whole none = sym (append-nil before) ∙ whole
  all-walked p before (g ∷ rest) whole none = absurd (cc)

  -- all were put there where none stands at the place
  pub batch-none : [] ≡ segment_items_at place h
      → (now ≡ filled_front (shown h.segments) old) × (count ≡ length (segment_items_from (heap_start + first_place) h.segments))
  batch-none none =
      let all : w.before ≡ h.segments = all-walked (heap_start + place) w.before w.after w.whole (there [] none) in (
        w.filled_is ∙ ap (λ gs. filled_front (shown gs) old) all,
        w.counted ∙ ap length all ∙ sym (items-length (heap_start + first_place) h.segments),
      )

-- ---- what is listed of a task's C heap, or where there is no task

listed_segments : (o : Option Task)
    → segments_listed (listed_with (found_or o NoName
    >>= λ t. Ok (numbers.HeapSums t.slot.heap.end (largest t.slot.heap) (free_bytes t.slot.heap), Segments (segment_items t.slot))))
    ≡ segment_items_from (heap_start + first_place) (slot_or_empty o).heap.segments
unfolding ◌>>=◌ found_or
listed_segments None = refl
listed_segments (Some t) = refl

pub segments-listed : (d : Desk) (name : List ℕ) → segments_listed (listed_with (heap d name)) ≡ segments_of_named name d
unfolding heap named
segments-listed d name = listed_segments (find (has_name name) d.tasks)
