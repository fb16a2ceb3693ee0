-- Bands of a heap's cards: the survey of its segments, and the card of each.
use Rattle.rh_pictures.proofs.Common.{◌≡◌, ℕ, zero, suc, ◌+◌, ◌-◌, ◌<◌, ◌≤◌, Bool, true, false, refl, ap, ap₂, sym, subst, ◌∙◌, arith, eq-eqb, List, [], ◌∷◌}
use Rattle.rh_pictures.proofs.Common.{◌++◌, length, take, drop, get_or, Option, Some, None, IfSome, ◌&&◌, ◌||◌, ◌==◌, filter, find, if◌then◌else◌, nat_le}
use Rattle.rh_pictures.proofs.Common.{slice_get, AllByRecursion, flat_map, list_any, option_map, eqb-true, nat_tests, drop_all, take_all, slice_get-get_or}
use Rattle.rh_pictures.proofs.Common.{slice_get_within, Desk, Task, Heap, IsDesk, Parcel, Card, Scene, message_of_scene, MessageItem, held_on, waiting_on}
use Rattle.rh_pictures.proofs.Common.{SeesBlock, heap_seen, heap_start_of, band_cards, is_fresh_card, with_items}
use Rattle.rh_defs.specs.declared.sizes.TheConstants.{SEGMENTS_AT_ONCE}
use Rattle.rh_defs.specs.declared.question.SegmentItem.{SegmentItem}
use Rattle.rh_defs.specs.declared.question.SegmentItem.TheVariants as segment
use Rattle.rh_defs.specs.Heap.{Hole, Segment, Used, place_after, size_of}
use Rattle.rh_defs.specs.Questions.{segment_item, segment_items_from}
use Rattle.rh_defs.specs.Laws.{IsQueued}
use Rattle.rh_defs.specs.Order.{is_to}
use Rattle.rh_defs.specs.Pieces.{total}
use Rattle.rh_defs.specs.Post.{Seat, has_seat, holds_such, post_is_message}
use Rattle.rh_defs.specs.Records.{is_buffer_of}
use Rattle.rh_figure.specs.Cards.{cards_from, hole_card, in_use_text, post_card, post_or_used_card, used_card}
use Rattle.rh_figure.specs.Layout.{is_fresh_block, vacates}
use Rattle.rh_scene.specs.Seen.{handle_for}
use Rattle.rh_figure.specs.Scene.{held_list}
use Rattle.rh_scene.specs.declared.sight.HeapOf.{HeapOf}
use Rattle.rh_scene.specs.declared.sight.HeapOf.TheVariants as heap_of
use Rattle.rh_scene.specs.Walks.{ComesToRest}
use Rattle.rh_scene.specs.Inner.WalkItems.{IsInArea}
use Rattle.rh_scene.proofs.Heaps.{Counted, told}
use Rattle.rh_scene.proofs.PieceWalks.{item-in-area}
use Rattle.rh_scene.proofs.SegmentWalks.{length-items, take-items}
use Rattle.rh_pictures.specs.Bands.{IsBandFor, IsBandOf, band_card, card_for, card_of_task}
use Rattle.rh_pictures.specs.Inner.Surveys.{is_fresh_at, is_fresh_block_of, is_fresh_or_posted, is_fresh_used}
use Rattle.rh_pictures.specs.Inner.BandItems.{HasSegment, IsItemOf}
use Rattle.rh_pictures.specs.declared.walks.heap_cards.Band.{Band}
use Rattle.rh_pictures.specs.declared.walks.heap_cards.Survey.{Survey}
use Rattle.rh_pictures.proofs.CardLemmas.{Alike, get-front}
use Rattle.rh_pictures.proofs.PostLemmas.{Told, stands_in}

-- ---- the heap of a band

pub record BandHeap (d : Desk) (o : HeapOf) : Type 0 where
  pub heap : Heap
  pub is : heap_seen o d ≡ Some heap

band-heap-for : (d : Desk) (b : Band) (o : HeapOf) → IsBandFor d b o → BandHeap d o
band-heap-for d b (heap_of.Task i) r = record { heap = r.0.slot.heap; is = ap (option_map (λ (t : Task). t.slot.heap)) r.1 }
band-heap-for d b heap_of.Module r = record { heap = d.post.heap; is = refl }

pub band-heap : (d : Desk) (b : Band) → IsBandOf d b → BandHeap d b.heap
band-heap d b r = band-heap-for d b b.heap r

-- all segments come from the first place on
abbrev pub from-first : {o : Option Heap} (h : Heap) → o ≡ Some h → ComesToRest o 16 h.segments
from-first h e = record { heap = h; is = e; below = []; whole = refl; at = refl }

-- what holds of the heap that is there
pub if-heap : (o : Option Heap) (P : Heap → Type 0) → ((h : Heap) → o ≡ Some h → P h) → IfSome o P
if-heap None P f = tt
if-heap (Some h) P f = f h refl

-- ---- a survey, some segments at a time

abbrev pub none_at : ℕ → Survey
none_at c = record { count = c; fresh = None }

abbrev pub some_at : ℕ → SegmentItem → Survey
some_at c item = record { count = c; fresh = Some item }

pub with-append : (test : SegmentItem → Bool) (xs ys : List SegmentItem) (s : Survey) → with_items test (xs ++ ys) s ≡ with_items test ys (with_items test xs s)
with-append test [] ys s = refl
with-append test (x ∷ xs) ys s = with-append test xs ys _

pub with-count : (test : SegmentItem → Bool) (xs : List SegmentItem) (s : Survey) → (with_items test xs s).count ≡ s.count + length xs
with-count test [] s = omega arith
with-count test (x ∷ xs) s = with-count test xs _ ∙ omega arith

with-stays : (test : SegmentItem → Bool) (xs : List SegmentItem) (c : ℕ) (item : SegmentItem) → (with_items test xs (some_at c item)).fresh ≡ Some item
with-stays test [] c item = refl
with-stays test (x ∷ xs) c item = with-stays test xs (c + 1) item

items-append : (p : ℕ) (xs ys : List Segment) → segment_items_from p (xs ++ ys) ≡ segment_items_from p xs ++ segment_items_from (p + total size_of xs) ys
items-append p [] ys = let same : p ≡ p + 0 = omega arith in ap (λ q. segment_items_from q ys) same
items-append p (x ∷ xs) ys =
    let same : (p + size_of x) + total size_of xs ≡ p + (size_of x + total size_of xs) = omega arith in
    ap (λ z. segment_item p x ∷ z) (items-append (p + size_of x) xs ys ∙ ap (λ q. segment_items_from (p + size_of x) xs ++ segment_items_from q ys) same)

take-past : {A : Type 0} (xs ys : List A) (m : ℕ) → take (length xs + m) (xs ++ ys) ≡ xs ++ take m ys
take-past [] ys m = let e : 0 + m ≡ m = omega arith in ap (λ n. take n ys) e
take-past (x ∷ xs) ys m =
    let e : suc (length xs) + m ≡ suc (length xs + m) = omega arith in ap (λ n. take n (x ∷ (xs ++ ys))) e ∙ ap (λ z. x ∷ z) (take-past xs ys m)

take-here : {A : Type 0} (xs ys : List A) → take (length xs) (xs ++ ys) ≡ xs
take-here [] ys = refl
take-here (x ∷ xs) ys = ap (λ z. x ∷ z) (take-here xs ys)

take-own : {A : Type 0} (n : ℕ) (xs : List A) → take (length (take n xs)) xs ≡ take n xs
take-own zero xs = refl
take-own (suc n) [] = refl
take-own (suc n) (x ∷ xs) = ap (λ z. x ∷ z) (take-own n xs)

-- the next items stand behind those that were counted
taken-more : {start end count : ℕ} {items : List SegmentItem} {all : List Segment} → Counted start 16 end count items all
    → take (count + length items) (segment_items_from (start + 16) all) ≡ take count (segment_items_from (start + 16) all) ++ items
taken-more {start} {end} {count} {items} {all} k =
    let front = segment_items_from (start + 16) k.passed in
    let back = segment_items_from (start + end) k.left in
    let same : start + 16 + total size_of k.passed ≡ start + end = omega (arith, k.at) in
    let whole : segment_items_from (start + 16) all ≡ front ++ back =
    ap (segment_items_from (start + 16)) k.whole ∙ (items-append (start + 16) k.passed k.left ∙ ap (λ p. front ++ segment_items_from p k.left) same) in
    let many : count ≡ length front = k.count_is ∙ sym (length-items (start + 16) k.passed) in
    let next : items ≡ take SEGMENTS_AT_ONCE back = k.items_are ∙ sym (take-items SEGMENTS_AT_ONCE (start + end) k.left) in
    ap₂ (λ n xs. take (n + length items) xs) many whole
    ∙ (take-past front back (length items)
    ∙ (ap (λ z. front ++ z) (ap (λ z. take (length z) back) next ∙ (take-own SEGMENTS_AT_ONCE back ∙ sym next))
    ∙ ap (λ z. z ++ items) (sym (ap₂ take many whole ∙ take-here front back))))

-- the segments that were counted are surveyed
pub record Surveyed (test : SegmentItem → Bool) (start end : ℕ) (s : Survey) (items : List SegmentItem) (all : List Segment) : Type 0 where
  pub counted : Counted start 16 end s.count items all
  pub so_far : s ≡ with_items test (take s.count (segment_items_from (start + 16) all)) (none_at 0)

pub surveyed-more : {test : SegmentItem → Bool} {start end next : ℕ} {s : Survey} {items items2 : List SegmentItem} {all : List Segment} (t : Survey)
    → Surveyed test start end s items all
    → t ≡ with_items test items s → Counted start 16 next (s.count + length items) items2 all → Surveyed test start next t items2 all
surveyed-more {test} {start} {end} {next} {s} {items} {items2} {all} t v e k =
    let many : s.count + length items ≡ t.count = sym (ap (λ (z : Survey). z.count) e ∙ with-count test items s) in
    let P : ℕ → Type 0 = λ n. Counted start 16 next n items2 all in
    let list = segment_items_from (start + 16) all in
    record {
      counted = subst P many k;
      so_far = e ∙ (ap (with_items test items) v.so_far
          ∙ (sym (with-append test (take s.count list) items (none_at 0))
          ∙ ap (λ z. with_items test z (none_at 0)) (sym (taken-more v.counted) ∙ ap (λ n. take n list) many)));
    }

pub surveyed-all : {test : SegmentItem → Bool} {start end : ℕ} {s : Survey} {items : List SegmentItem} {all : List Segment}
    → Surveyed test start end s items all → s.count ≡ length all → s ≡ with_items test (segment_items_from (start + 16) all) (none_at 0)
surveyed-all {test} {start} {end} {s} {items} {all} v e =
    let list = segment_items_from (start + 16) all in
    v.so_far ∙ ap (λ z. with_items test z (none_at 0)) (take_all s.count list (omega (arith, e, length-items (start + 16) all)))

-- items lie in their area
all-get : (P : SegmentItem → Type 0) (xs : List SegmentItem) → ((i : ℕ) → i < length xs → (d : SegmentItem) → P (get_or xs i d)) → AllByRecursion P xs
all-get P [] f = tt
all-get P (x ∷ xs) f = (f 0 (omega arith) x, all-get P xs (λ i low d. f (suc i) (omega arith) d))

pub all-in-area : (heap : HeapOf) (place : ℕ) (segments : List Segment) (items : List SegmentItem)
    → items ≡ segment_items_from (heap_start_of heap + place) segments → AllByRecursion (IsInArea heap) items
all-in-area heap place segments items e = all-get (IsInArea heap) items (λ i low d. item-in-area heap place segments items i d e low)

-- ---- which card is changed

abbrev pub firsts : List Card → List Card
firsts cards = take 1 (filter (λ (c : Card). c.fresh) cards)

-- the item and the card of the first changed one
pub record SaysAt (item : SegmentItem) (items : List SegmentItem) (cards behind : List Card) : Type 0 where
  pub k : ℕ
  pub card : Card
  pub item_at : slice_get items k ≡ Some item
  pub card_at : slice_get cards k ≡ Some card
  pub first : firsts behind ≡ card ∷ []

abbrev pub Says : Option SegmentItem → List SegmentItem → List Card → List Card → Type 0
Says None items cards behind = firsts behind ≡ []
Says (Some item) items cards behind = SaysAt item items cards behind

says-on : (o : Option SegmentItem) (x : SegmentItem) (c : Card) (items : List SegmentItem) (cards behind behind2 : List Card)
    → firsts behind ≡ firsts behind2 → Says o items cards behind → Says o (x ∷ items) (c ∷ cards) behind2
says-on None x c items cards behind behind2 e s = sym e ∙ s
says-on (Some item) x c items cards behind behind2 e s =
    record { k = suc s.k; card = s.card; item_at = s.item_at; card_at = s.card_at; first = sym e ∙ s.first }

-- what is found of items, where it is known of the first of them
abbrev picked_after : (SegmentItem → Bool) → List SegmentItem → ℕ → SegmentItem → Bool → Bool → Option SegmentItem
picked_after test items c x p q = (with_items test items (record { count = c + 1; fresh = if p && q then Some x else None })).fresh

pub says : (test : SegmentItem → Bool) (items : List SegmentItem) (cards : List Card) (c : ℕ) → Alike test items cards
    → Says (with_items test items (none_at c)).fresh items cards (drop (22 - c) cards)
says test [] [] c a = ap firsts (drop_all (22 - c) [] (omega arith))
says test [] (z ∷ cards) c a = absurd a
says test (x ∷ items) [] c a = absurd a
says test (x ∷ items) (z ∷ cards) c a = go (nat_le 22 c) refl (test x) refl (says test items cards (c + 1) a.1)
  where
    go : (p : Bool) → nat_le 22 c ≡ p → (q : Bool) → test x ≡ q → Says (picked_after test items c x false false) items cards (drop (22 - (c + 1)) cards)
        → Says (picked_after test items c x (nat_le 22 c) (test x)) (x ∷ items) (z ∷ cards) (drop (22 - c) (z ∷ cards))
    go true e true t rest =
        let many : 22 ≤ c = grind (arith, nat_tests) in
        let none : 0 ≡ 22 - c = omega arith in
        let on : z.fresh ≡ true = sym a.0 ∙ t in
        let here : SaysAt x (x ∷ items) (z ∷ cards) (z ∷ cards) = record { k = 0; card = z; item_at = refl; card_at = refl; first = rw on refl } in
        let P : ℕ → Type 0 = λ n. Says (Some x) (x ∷ items) (z ∷ cards) (drop n (z ∷ cards)) in
        let Q : Option SegmentItem → Type 0 = λ o. Says o (x ∷ items) (z ∷ cards) (drop (22 - c) (z ∷ cards)) in
        subst Q (sym (ap₂ (picked_after test items c x) e t ∙ with-stays test items (c + 1) x)) (subst P none here)
    go true e false t rest =
        let many : 22 ≤ c = grind (arith, nat_tests) in
        let none : 0 ≡ 22 - c = omega arith in
        let none2 : 22 - (c + 1) ≡ 0 = omega arith in
        let off : z.fresh ≡ false = sym a.0 ∙ t in
        let skip : firsts (z ∷ cards) ≡ firsts cards = rw off refl in
        let Q : Option SegmentItem → Type 0 = λ o. Says o (x ∷ items) (z ∷ cards) (drop (22 - c) (z ∷ cards)) in
        subst Q (sym (ap₂ (picked_after test items c x) e t))
        (says-on (picked_after test items c x true false) x z items cards (drop (22 - (c + 1)) cards) (drop (22 - c) (z ∷ cards))
        (ap (λ n. firsts (drop n cards)) none2 ∙ (sym skip ∙ ap (λ n. firsts (drop n (z ∷ cards))) none)) rest)
    go false e q t rest =
        let few : c < 22 = grind (arith, nat_tests) in
        let one : suc (22 - (c + 1)) ≡ 22 - c = omega arith in
        let Q : Option SegmentItem → Type 0 = λ o. Says o (x ∷ items) (z ∷ cards) (drop (22 - c) (z ∷ cards)) in
        subst Q (sym (ap₂ (picked_after test items c x) e t))
        (says-on (picked_after test items c x false q) x z items cards (drop (22 - (c + 1)) cards) (drop (22 - c) (z ∷ cards))
        (ap (λ n. firsts (drop n (z ∷ cards))) one) rest)

-- ---- cards and items of a band

posted-fresh : (x : Scene) (at : ℕ) (bytes : List ℕ) (o : Option Parcel) → is_fresh_or_posted x at o ≡ (post_or_used_card x at bytes o).fresh
posted-fresh x at bytes None = refl
posted-fresh x at bytes (Some p) = refl

fresh-used : (x : Scene) (d : Desk) (b : Band) (o : HeapOf) (p : ℕ) (bytes : List ℕ) → IsBandFor d b o
    → is_fresh_at x b.handle o (p + 4) ≡ (card_for x d o p (Used bytes)).fresh
fresh-used x d b (heap_of.Task i) p bytes r = ap (λ h. is_fresh_block x h (p + 4)) r.2 ∙ sym (ap (λ o. (card_of_task x o p (Used bytes)).fresh) r.1)
fresh-used x d b heap_of.Module p bytes r = posted-fresh x (p + 4) bytes (message_of_scene x (p + 4 - 25165824))

pub fresh-hole : (x : Scene) (d : Desk) (b : Band) (o : HeapOf) (p n : ℕ) → IsBandFor d b o
    → vacates (handle_for o b.handle) p n x.marks.heap_effect ≡ (card_for x d o p (Hole n)).fresh
fresh-hole x d b (heap_of.Task i) p n r =
    ap (λ h. vacates h p n x.marks.heap_effect) r.2 ∙ sym (ap (λ o. (card_of_task x o p (Hole n)).fresh) r.1)
fresh-hole x d b heap_of.Module p n r = refl

band-fresh : (x : Scene) (d : Desk) (b : Band) (p : ℕ) (s : Segment) → IsBandOf d b → is_fresh_card x b (segment_item p s) ≡ (band_card x d b p s).fresh
band-fresh x d b p (Used bytes) r = fresh-used x d b b.heap p bytes r
band-fresh x d b p (Hole n) r = fresh-hole x d b b.heap p n r

pub band-alike : (x : Scene) (d : Desk) (b : Band) (p : ℕ) (segments : List Segment) → IsBandOf d b
    → Alike (is_fresh_card x b) (segment_items_from p segments) (cards_from (band_card x d b) p segments)
band-alike x d b p [] r = tt
band-alike x d b p (s ∷ segments) r = (band-fresh x d b p s r, band-alike x d b (p + size_of s) segments r)

pub cards-long : (f : ℕ → Segment → Card) (p : ℕ) (segments : List Segment) → length (cards_from f p segments) ≡ length segments
cards-long f p [] = refl
cards-long f p (s ∷ segments) = ap suc (cards-long f (p + size_of s) segments)

-- a segment with its item and its card
pub record Stands (f : ℕ → Segment → Card) (p k : ℕ) (segments : List Segment) : Type 0 where
  pub below : List Segment
  pub segment : Segment
  pub above : List Segment
  pub whole : segments ≡ below ++ segment ∷ above
  pub item_at : slice_get (segment_items_from p segments) k ≡ Some (segment_item (p + total size_of below) segment)
  pub card_at : slice_get (cards_from f p segments) k ≡ Some (f (p + total size_of below) segment)

stands : (f : ℕ → Segment → Card) (p k : ℕ) (segments : List Segment) → k < length segments → Stands f p k segments
stands f p k [] low = absurd (omega arith)
stands f p zero (s ∷ segments) low =
    let same : p ≡ p + 0 = omega arith in
    record { below = []; segment = s; above = segments; whole = refl; item_at = ap (λ q. Some (segment_item q s)) same; card_at = ap (λ q. Some (f q s)) same }
stands f p (suc k) (s ∷ segments) low =
    let r = stands f (p + size_of s) k segments (omega arith) in
    let same : (p + size_of s) + total size_of r.below ≡ p + (size_of s + total size_of r.below) = omega arith in
    record {
      below = s ∷ r.below;
      segment = r.segment;
      above = r.above;
      whole = ap (λ z. s ∷ z) r.whole;
      item_at = r.item_at ∙ ap (λ q. Some (segment_item q r.segment)) same;
      card_at = r.card_at ∙ ap (λ q. Some (f q r.segment)) same;
    }

-- the segment at a place in a band
pub record InBand (x : Scene) (d : Desk) (b : Band) (h : Heap) (k : ℕ) : Type 0 where
  pub place : ℕ
  pub segment : Segment
  pub has : HasSegment (heap_seen b.heap d) place segment
  pub item_at : slice_get (segment_items_from (heap_start_of b.heap + 16) h.segments) k ≡ Some (segment_item (heap_start_of b.heap + place) segment)
  pub card_at : slice_get (band_cards x d b h) k ≡ Some (band_card x d b (heap_start_of b.heap + place) segment)

pub in-band : (x : Scene) (d : Desk) (b : Band) (h : Heap) (k : ℕ) → heap_seen b.heap d ≡ Some h → k < length h.segments → InBand x d b h k
in-band x d b h k e low =
    let start = heap_start_of b.heap in
    let r = stands (band_card x d b) (start + 16) k h.segments low in
    let same : start + 16 + total size_of r.below ≡ start + (16 + total size_of r.below) = omega arith in
    record {
      place = place_after r.below;
      segment = r.segment;
      has = record { heap = h; is = e; below = r.below; above = r.above; whole = r.whole; at = refl };
      item_at = r.item_at ∙ ap (λ q. Some (segment_item q r.segment)) same;
      card_at = r.card_at ∙ ap (λ q. Some (band_card x d b q r.segment)) same;
    }

-- the first changed segment of those behind the first 22
pub record BandPicked (x : Scene) (d : Desk) (b : Band) (h : Heap) (item : SegmentItem) : Type 0 where
  pub place : ℕ
  pub segment : Segment
  pub has : HasSegment (heap_seen b.heap d) place segment
  pub item_is : item ≡ segment_item (heap_start_of b.heap + place) segment
  pub first : firsts (drop 22 (band_cards x d b h)) ≡ band_card x d b (heap_start_of b.heap + place) segment ∷ []

module _ (x : Scene) (d : Desk) (b : Band) (h : Heap) (r : IsBandOf d b) (s : Survey)
    (is : s ≡ with_items (is_fresh_card x b) (segment_items_from (heap_start_of b.heap + 16) h.segments) (none_at 0)) where
  band-says : (o : Option SegmentItem) → s.fresh ≡ o
      → Says o (segment_items_from (heap_start_of b.heap + 16) h.segments) (band_cards x d b h) (drop 22 (band_cards x d b h))
  band-says o e =
      let P : Option SegmentItem → Type 0 =
      λ z. Says z (segment_items_from (heap_start_of b.heap + 16) h.segments) (band_cards x d b h) (drop 22 (band_cards x d b h)) in
      subst P (ap (λ (z : Survey). z.fresh) (sym is) ∙ e) (says (is_fresh_card x b) (segment_items_from (heap_start_of b.heap + 16) h.segments)
      (band_cards x d b h) 0 (band-alike x d b (heap_start_of b.heap + 16) h.segments r))

  pub band-none : s.fresh ≡ None → firsts (drop 22 (band_cards x d b h)) ≡ []
  band-none e = band-says None e

  pub band-some : (item : SegmentItem) → s.fresh ≡ Some item → heap_seen b.heap d ≡ Some h → BandPicked x d b h item
  band-some item e seen =
      let w = band-says (Some item) e in
      let low : w.k < length h.segments =
      omega (
        arith,
        slice_get_within (segment_items_from (heap_start_of b.heap + 16) h.segments) w.k item w.item_at,
        length-items (heap_start_of b.heap + 16) h.segments,
      ) in
      let q = in-band x d b h w.k seen low in
      let there : item ≡ segment_item (heap_start_of b.heap + q.place) q.segment = (let u = w.item_at in let v = q.item_at in cc) in
      let card : w.card ≡ band_card x d b (heap_start_of b.heap + q.place) q.segment = (let u = w.card_at in let v = q.card_at in cc) in
      record { place = q.place; segment = q.segment; has = q.has; item_is = there; first = w.first ∙ ap (λ z. z ∷ []) card }

  pub band-many : s.count ≡ length h.segments
  band-many =
      ap (λ (z : Survey). z.count) is
      ∙ (with-count (is_fresh_card x b) (segment_items_from (heap_start_of b.heap + 16) h.segments) (none_at 0)
      ∙ omega (arith, length-items (heap_start_of b.heap + 16) h.segments))

-- ---- the items that are told

pub told-here : {o : Option Heap} (start : ℕ) (h : Heap) (items : List SegmentItem) (k : ℕ) → o ≡ Some h
    → IfSome o (λ h. (below : List Segment) (rest : List Segment) → h.segments ≡ below ++ rest → 16 ≡ place_after below
    → items ≡ take SEGMENTS_AT_ONCE (segment_items_from (start + 16) rest))
    → k < SEGMENTS_AT_ONCE → slice_get items k ≡ slice_get (segment_items_from (start + 16) h.segments) k
told-here start h items k e f low =
    ap (λ xs. slice_get xs k) (told start (from-first h e) f ∙ sym (take-items SEGMENTS_AT_ONCE (start + 16) h.segments))
    ∙ get-front SEGMENTS_AT_ONCE k (segment_items_from (start + 16) h.segments) low

-- ---- the card of a segment

pub record HoleHere (p a n : ℕ) (s : Segment) : Type 0 where
  pub is : s ≡ Hole n
  pub at : p ≡ a

pub hole-here : (p a n : ℕ) (s : Segment) → segment_item p s ≡ segment.Hole a n → HoleHere p a n s
hole-here p a n (Used bytes) e = absurd (cc)
hole-here p a n (Hole m) e = let size : m ≡ n = cc in let at : p ≡ a = cc in record { is = ap Hole size; at = at }

hole-for : (x : Scene) (d : Desk) (b : Band) (o : HeapOf) (p n : ℕ) → IsBandFor d b o
    → hole_card p n (vacates (handle_for o b.handle) p n x.marks.heap_effect) ≡ card_for x d o p (Hole n)
hole-for x d b (heap_of.Task i) p n r =
    ap (λ h. hole_card p n (vacates h p n x.marks.heap_effect)) r.2 ∙ sym (ap (λ o. card_of_task x o p (Hole n)) r.1)
hole-for x d b heap_of.Module p n r = refl

pub hole-card : (x : Scene) (d : Desk) (b : Band) (p a n : ℕ) (s : Segment) → IsBandOf d b → HoleHere p a n s
    → hole_card a n (vacates (handle_for b.heap b.handle) a n x.marks.heap_effect) ≡ band_card x d b p s
hole-card x d b p a n s r q =
    ap (λ z. hole_card z n (vacates (handle_for b.heap b.handle) z n x.marks.heap_effect)) (sym q.at)
    ∙ (hole-for x d b b.heap p n r ∙ ap (band_card x d b p) (sym q.is))

pub record UsedHere (p a n : ℕ) (s : Segment) : Type 0 where
  pub bytes : List ℕ
  pub is : s ≡ Used bytes
  pub at : p + 4 ≡ a
  pub size : length bytes ≡ n

pub used-here : (p a n : ℕ) (s : Segment) → segment_item p s ≡ segment.Used a n → UsedHere p a n s
used-here p a n (Used bytes) e = let size : length bytes ≡ n = cc in let at : p + 4 ≡ a = cc in record { bytes = bytes; is = refl; at = at; size = size }
used-here p a n (Hole m) e = absurd (cc)

pub has-block : {o : Option Heap} {place : ℕ} {s : Segment} (bytes : List ℕ) → HasSegment o place s → s ≡ Used bytes → SeesBlock o place bytes
has-block {o} {place} {s} bytes has e =
    let P : Option Heap → Type 0 = λ z. SeesBlock z place bytes in
    subst P (sym has.is) (record { below = has.below; above = has.above; whole = has.whole ∙ ap (λ z. has.below ++ z ∷ has.above) e; at = has.at })

-- the card of a block that is no message
abbrev pub plain_card : Scene → Band → ℕ → List ℕ → Card
plain_card x b a bytes = used_card a bytes (in_use_text (find (is_buffer_of a) b.taking.now)) (is_fresh_used x b a)

used-task : (x : Scene) (d : Desk) (b : Band) (i p : ℕ) (bytes : List ℕ) → IsBandFor d b (heap_of.Task i)
    → used_card (p + 4) bytes (in_use_text (find (is_buffer_of (p + 4)) b.taking.now)) (is_fresh_block x b.handle (p + 4)) ≡ card_for x d (heap_of.Task i) p
    (Used bytes)
used-task x d b i p bytes r =
    ap₂ (λ tk h. used_card (p + 4) bytes (in_use_text (find (is_buffer_of (p + 4)) tk)) (is_fresh_block x h (p + 4))) r.3 r.2
    ∙ sym (ap (λ o. card_of_task x o p (Used bytes)) r.1)

pub task-is : (x : Scene) (d : Desk) (b : Band) (i p a n : ℕ) (s : Segment) → b.heap ≡ heap_of.Task i → IsBandOf d b → (q : UsedHere p a n s)
    → plain_card x b a q.bytes ≡ band_card x d b p s
task-is x d b i p a n s heap r q =
    ap (λ z. plain_card x b z q.bytes) (sym q.at)
    ∙ (ap (λ o. used_card (p + 4) q.bytes (in_use_text (find (is_buffer_of (p + 4)) b.taking.now)) (is_fresh_block_of x b.handle o (p + 4))) heap
    ∙ (used-task x d b i p q.bytes (subst (IsBandFor d b) heap r)
    ∙ (ap (λ o. card_for x d o p (Used q.bytes)) (sym heap) ∙ ap (band_card x d b p) (sym q.is))))

used-module : (x : Scene) (d : Desk) (b : Band) (p : ℕ) (bytes : List ℕ) → b.taking.now ≡ [] → message_of_scene x (p + 4 - 25165824) ≡ None
    → used_card (p + 4) bytes (in_use_text (find (is_buffer_of (p + 4)) b.taking.now)) (x.marks.module_block == p + 4) ≡ card_for x d heap_of.Module p
    (Used bytes)
used-module x d b p bytes none e =
    ap (λ tk. used_card (p + 4) bytes (in_use_text (find (is_buffer_of (p + 4)) tk)) (x.marks.module_block == p + 4)) none
    ∙ sym (ap (λ o. post_or_used_card x (p + 4) bytes o) e)

pub module-is : (x : Scene) (d : Desk) (b : Band) (p a n : ℕ) (s : Segment) → b.heap ≡ heap_of.Module → IsBandOf d b → message_of_scene x (a - 25165824) ≡ None
    → (q : UsedHere p a n s) → plain_card x b a q.bytes ≡ band_card x d b p s
module-is x d b p a n s heap r e q =
    ap (λ z. plain_card x b z q.bytes) (sym q.at)
    ∙ (ap (λ o. used_card (p + 4) q.bytes (in_use_text (find (is_buffer_of (p + 4)) b.taking.now)) (is_fresh_block_of x b.handle o (p + 4))) heap
    ∙ (used-module x d b p q.bytes (subst (IsBandFor d b) heap r) (ap (λ z. message_of_scene x (z - 25165824)) q.at ∙ e)
    ∙ (ap (λ o. card_for x d o p (Used q.bytes)) (sym heap) ∙ ap (band_card x d b p) (sym q.is))))

pub posted-is : (x : Scene) (d : Desk) (b : Band) (p a n : ℕ) (s : Segment) (m : Parcel) → b.heap ≡ heap_of.Module → message_of_scene x (a - 25165824) ≡ Some m
    → UsedHere p a n s → post_card x m ≡ band_card x d b p s
posted-is x d b p a n s m heap e q =
    sym (ap (λ o. post_or_used_card x (p + 4) q.bytes o) (ap (λ z. message_of_scene x (z - 25165824)) q.at ∙ e))
    ∙ (ap (λ o. card_for x d o p (Used q.bytes)) (sym heap) ∙ ap (band_card x d b p) (sym q.is))

-- ---- messages in blocks

pub record Posted (b : ℕ) (m : MessageItem) (o : Option Parcel) : Type 0 where
  pub parcel : Parcel
  pub is : o ≡ Some parcel
  pub item : IsItemOf m parcel
  pub at : parcel.block ≡ b

pub told-some : (b : ℕ) (m : MessageItem) (o : Option Parcel) → Told b (Some m) o → Posted b m o
told-some b m None t = absurd t
told-some b m (Some p) t = record { parcel = p; is = refl; item = t.0; at = t.1 }

pub told-none : (b : ℕ) (o : Option Parcel) → Told b None o → o ≡ None
told-none b None t = refl
told-none b (Some p) t = absurd t

find-front : (b : ℕ) (xs ys : List Parcel) → find (stands_in b) (xs ++ ys) ≡ None → (find (stands_in b) xs ≡ None) × (find (stands_in b) ys ≡ None)
find-front b [] ys e = (refl, e)
find-front b (x ∷ xs) ys e = go (x.block == b) refl (find-front b xs ys)
  where
    go : (t : Bool) → (x.block == b) ≡ t → (find (stands_in b) (xs ++ ys) ≡ None → (find (stands_in b) xs ≡ None) × (find (stands_in b) ys ≡ None))
        → (find (stands_in b) (x ∷ xs) ≡ None) × (find (stands_in b) ys ≡ None)
    go true k rest = let q : Some x ≡ None = rw k at e in absurd (cc)
    go false k rest = let q : find (stands_in b) (xs ++ ys) ≡ None = rw k at e in rw k (rest q)

-- no message of these is for the handle and stands in the block
abbrev NoneFor : ℕ → List Parcel → ℕ → Type 0
NoneFor b ps h = find (stands_in b) (filter (is_to h) ps) ≡ None

seat-none : (b h : ℕ) (queued : List Parcel) (seats : List Seat) → find (stands_in b) (flat_map (λ (s : Seat). filter (is_to s.handle) queued) seats) ≡ None
    → has_seat h seats ≡ true → NoneFor b queued h
seat-none b h queued [] e live = absurd (cc)
seat-none b h queued (s ∷ seats) e live = go (seat-none b h queued seats) (s.handle == h) refl
    (find-front b (filter (is_to s.handle) queued) (flat_map (λ (z : Seat). filter (is_to z.handle) queued) seats) e)
  where
    go : (find (stands_in b) (flat_map (λ (z : Seat). filter (is_to z.handle) queued) seats) ≡ None → has_seat h seats ≡ true → NoneFor b queued h)
        → (t : Bool) → (s.handle == h) ≡ t
        → (NoneFor b queued s.handle) × (find (stands_in b) (flat_map (λ (z : Seat). filter (is_to z.handle) queued) seats) ≡ None) → NoneFor b queued h
    go more true k r = subst (NoneFor b queued) (eqb-true s.handle h k) r.0
    go more false k r = let q : has_seat h seats ≡ true = rw k at live in more r.1 q

queue-none : (b next : ℕ) (seats : List Seat) (ps : List Parcel) → AllByRecursion (IsQueued next seats) ps
    → ((h : ℕ) → has_seat h seats ≡ true → NoneFor b ps h) → list_any (stands_in b) ps ≡ false
queue-none b next seats [] all f = refl
queue-none b next seats (p ∷ ps) all f =
    let mine : NoneFor b (p ∷ ps) p.to = f p.to all.0.live in
    let same : (p.to == p.to) ≡ true = eq-eqb p.to p.to refl in
    let here : (if p.block == b then Some p else find (stands_in b) (filter (is_to p.to) ps)) ≡ None = rw same at mine in
    go (queue-none b next seats ps all.1) (p.block == b) refl here
  where
    rest : (p.block == b) ≡ false → (h : ℕ) → has_seat h seats ≡ true → NoneFor b ps h
    rest k h live = pick (p.to == h) refl (f h live)
      where
        pick : (t : Bool) → (p.to == h) ≡ t → NoneFor b (p ∷ ps) h → NoneFor b ps h
        pick true e n = rw (e, k) at n
        pick false e n = rw e at n

    go : (((h : ℕ) → has_seat h seats ≡ true → NoneFor b ps h) → list_any (stands_in b) ps ≡ false) → (t : Bool) → (p.block == b) ≡ t
        → (if t then Some p else find (stands_in b) (filter (is_to p.to) ps)) ≡ None → list_any (stands_in b) (p ∷ ps) ≡ false
    go more true k e = absurd (cc)
    go more false k e = rw k (more (rest k))

held-none : (b : ℕ) (seats : List Seat) → find (stands_in b) (flat_map (λ (s : Seat). held_list s.holds) seats) ≡ None
    → list_any (λ (s : Seat). holds_such (stands_in b) s.holds) seats ≡ false
held-none b [] e = refl
held-none b (s ∷ seats) e = go (held-none b seats) s.holds refl e
  where
    go : (find (stands_in b) (flat_map (λ (z : Seat). held_list z.holds) seats) ≡ None
        → list_any (λ (z : Seat). holds_such (stands_in b) z.holds) seats ≡ false) → (o : Option Parcel) → s.holds ≡ o → find (stands_in b) (held_list o
        ++ flat_map (λ (z : Seat). held_list z.holds) seats) ≡ None → list_any (λ (z : Seat). holds_such (stands_in b) z.holds) (s ∷ seats) ≡ false
    go more None k q = rw k (more q)
    go more (Some p) k q =
        let r = find-front b (p ∷ []) (flat_map (λ (z : Seat). held_list z.holds) seats) q in
        rw k (one (p.block == b) refl r.0 (more r.1))
      where
        one : (t : Bool) → (p.block == b) ≡ t → find (stands_in b) (p ∷ []) ≡ None → list_any (λ (z : Seat). holds_such (stands_in b) z.holds) seats ≡ false
            → ((p.block == b) || list_any (λ (z : Seat). holds_such (stands_in b) z.holds) seats) ≡ false
        one true e n rest = let u : Some p ≡ None = rw e at n in absurd (cc)
        one false e n rest = rw e rest

-- where the list has no message in a block, none lies there
pub block-free : {d : Desk} (is : IsDesk d) (b : ℕ) → find (stands_in b) (waiting_on d ++ held_on d) ≡ None → post_is_message b d.post ≡ false
unfolding post_is_message
block-free {d} is b e =
    let r = find-front b (waiting_on d) (held_on d) e in
    let q = queue-none b d.post.next_ref d.post.seats d.post.queued is.post.queued (λ h live. seat-none b h d.post.queued d.post.seats r.0 live) in
    let s = held-none b d.post.seats r.1 in
    ap₂ (λ u v. u || v) q s

-- an item that was read is the one that stands there
pub got-is : (items : List SegmentItem) (k : ℕ) (item none : SegmentItem) → slice_get items k ≡ Some item → get_or items k none ≡ item
got-is items k item none e =
    let low = slice_get_within items k item e in
    let there = slice_get-get_or items k none low in
    cc

pub band-long : (x : Scene) (d : Desk) (b : Band) (h : Heap) (r : IsBandOf d b) (s : Survey)
    → s ≡ with_items (is_fresh_card x b) (segment_items_from (heap_start_of b.heap + 16) h.segments) (none_at 0) → s.count ≡ length (band_cards x d b h)
band-long x d b h r s is = band-many x d b h r s is ∙ sym (cards-long (band_card x d b) (heap_start_of b.heap + 16) h.segments)
