-- Segments of a heap as they are listed, many at once.
use Rattle.rh_tasks.proofs.Common.{◌≡◌, ℕ, zero, suc, ◌+◌, ◌-◌, ◌<◌, ◌≤◌, List, [], ◌∷◌, ◌++◌, length, take, refl, sym, ap, ◌∙◌, arith, Option, Some, None}
use Rattle.rh_tasks.proofs.Common.{IfSome, map, ◌==◌, AllByRecursion, eqb-true, length-map, map-append, length-take, take_all, SegmentItem, Split, total}
use Rattle.rh_tasks.proofs.Common.{Heap, Used, Hole, size_of, segment_at, first_place, base, segment_item, IsCut, first_at-cuts, cut-total}
use Rattle.std.proofs.Common.{get_or}
use Rattle.std.proofs.lemmas.List.{take-map, take_more}
use Rattle.rh_defs.specs.declared.sizes.TheConstants.{SEGMENTS_AT_ONCE}
use Rattle.rh_defs.specs.declared.question.SegmentItem.TheVariants as segment
use Rattle.rh_defs.specs.Heap as heap
use Rattle.rh_defs.specs.Questions.{segment_items_from}
use Rattle.rh_heap.specs.declared.layout.Segment.{Segment}
use Rattle.rh_heap.specs.HeapChecks.{listed}
use Rattle.rh_heap.specs.Listed.{from_cut, segments_from}
use Rattle.rh_tasks.specs.WorldItems.{placed_item, IsSmallSegment}
use Rattle.rh_tasks.specs.WorldLists.{items_at}
use Rattle.rh_store.specs.Limits.{area_limit}

items_listed : (start place : ℕ) (gs : List heap.Segment) → map (placed_item start) (listed place gs) ≡ segment_items_from (start + place) gs
items_listed start place [] = refl
items_listed start place (Used bytes ∷ gs) =
    let next : start + (place + (4 + length bytes)) ≡ start + place + (4 + length bytes) = omega arith in
    let size : 4 + length bytes - 4 ≡ length bytes = omega arith in
    ap (λ n. segment.Used (start + place + 4) n ∷ map (placed_item start) (listed (place + (4 + length bytes)) gs)) size
    ∙ ap (λ l. segment_item (start + place) (Used bytes) ∷ l) (items_listed start (place + (4 + length bytes)) gs ∙ ap (λ p. segment_items_from p gs) next)
items_listed start place (Hole n ∷ gs) =
    let next : start + (place + n) ≡ start + place + n = omega arith in
    ap (λ l. segment_item (start + place) (Hole n) ∷ l) (items_listed start (place + n) gs ∙ ap (λ p. segment_items_from p gs) next)

-- the segments that a heap gives, as they are listed
pub items_from : (start place : ℕ) (h : Heap) → map (placed_item start) (segments_from place h) ≡ items_at start place h
items_from start place h =
    sym (take-map (placed_item start) SEGMENTS_AT_ONCE (listed place (from_cut (segment_at place h))))
    ∙ ap (take SEGMENTS_AT_ONCE) (items_listed start place (from_cut (segment_at place h)))

-- ---- they are small

small_listed : (place : ℕ) (gs : List heap.Segment) → place + total size_of gs ≤ area_limit → AllByRecursion IsSmallSegment (listed place gs)
small_listed place [] l = tt
small_listed place (Used bytes ∷ gs) l = ((omega arith, omega arith), small_listed (place + (4 + length bytes)) gs (omega arith))
small_listed place (Hole n ∷ gs) l = ((omega arith, omega arith), small_listed (place + n) gs (omega arith))

small_taken : (n : ℕ) (xs : List Segment) → AllByRecursion IsSmallSegment xs → AllByRecursion IsSmallSegment (take n xs)
small_taken zero xs all = tt
small_taken (suc n) [] all = tt
small_taken (suc n) (x ∷ xs) all = (all.0, small_taken n xs all.1)

small_cut : (place : ℕ) (h : Heap) (o : Option (Split heap.Segment)) → IfSome o (IsCut size_of (λ q g. place == q) first_place h.segments)
    → base h ≤ area_limit → AllByRecursion IsSmallSegment (listed place (from_cut o))
small_cut place h None c l = tt
small_cut place h (Some cut) c l =
    let same : place ≡ first_place + total size_of cut.before = eqb-true _ _ c.passes in
    small_listed place (cut.here ∷ cut.after) (omega (arith, same, cut-total c))

pub small_from : (place : ℕ) (h : Heap) → base h ≤ area_limit → AllByRecursion IsSmallSegment (segments_from place h)
small_from place h l =
    small_taken SEGMENTS_AT_ONCE (listed place (from_cut (segment_at place h)))
    (small_cut place h (segment_at place h) (first_at-cuts size_of (λ q g. place == q) first_place h.segments) l)

-- ---- one by one

pub is_small : (xs : List Segment) (i : ℕ) (d : Segment) → AllByRecursion IsSmallSegment xs → i < length xs → IsSmallSegment (get_or xs i d)
is_small [] i d all l = absurd (omega arith)
is_small (y ∷ xs) zero d all l = all.0
is_small (y ∷ xs) (suc i) d all l = is_small xs i d all.1 (omega arith)

pub listed_more : (start : ℕ) (xs : List Segment) (i : ℕ) (d : Segment) (items : List SegmentItem) → items ≡ map (placed_item start) (take i xs) → i < length xs
    → items ++ placed_item start (get_or xs i d) ∷ [] ≡ map (placed_item start) (take (i + 1) xs)
listed_more start xs i d items is l =
    ap (λ z. z ++ placed_item start (get_or xs i d) ∷ []) is
    ∙ (sym (map-append (placed_item start) (take i xs) (get_or xs i d ∷ [])) ∙ ap (map (placed_item start)) (sym (take_more xs i d l)))

pub listed_few : (start : ℕ) (xs : List Segment) (i : ℕ) (items : List SegmentItem) → items ≡ map (placed_item start) (take i xs) → i < length xs
    → length xs ≤ SEGMENTS_AT_ONCE → length items < SEGMENTS_AT_ONCE
listed_few start xs i items is l few = omega (arith, ap length is, length-map (take i xs) (placed_item start), length-take i xs)

pub listed_all : (start : ℕ) (xs : List Segment) (i : ℕ) (items : List SegmentItem) → items ≡ map (placed_item start) (take i xs) → length xs ≤ i
    → items ≡ map (placed_item start) xs
listed_all start xs i items is l = is ∙ ap (map (placed_item start)) (take_all i xs l)
