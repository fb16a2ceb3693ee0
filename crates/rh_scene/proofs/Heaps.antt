-- Heaps that are seen, and walks over their segments.
use Rattle.rh_scene.proofs.Common.{◌≡◌, ℕ, zero, suc, ◌+◌, ◌-◌, ◌*◌, ◌<◌, ◌≤◌, Bool, true, false, refl, ap, sym, subst, ◌∙◌, arith, List, [], ◌∷◌, ◌++◌}
use Rattle.rh_scene.proofs.Common.{length, take, drop, Option, Some, None, slice_get, IfSome, AllByRecursion, option_map, append_assoc, length-append}
use Rattle.rh_scene.proofs.Common.{take-append-drop, SEGMENTS_AT_ONCE, SegmentItem, total, Heap, Segment, Used, Hole, size_of, place_after, IsDesk, Desk}
use Rattle.rh_scene.proofs.Common.{Task, task_pages, segment_items_from, total-append, Census, HeapOf, heap_seen, heap_start_of, ComesToRest, item_end}
use Rattle.rh_defs.specs.Pieces.{page_size}
use Rattle.rh_defs.specs.Heap.{IsHeap, IsTidy}
use Rattle.rh_defs.specs.Slot.{IsSlot, slot_length}
use Rattle.rh_scene.specs.declared.sight.HeapOf.TheVariants as heap_of
use Rattle.rh_scene.specs.Walks.{census_of}
use Rattle.rh_scene.proofs.SegmentWalks.{last-ends, length-items, no-items, none-last, some-last, take-items}

-- ---- what a heap that is seen is

pub total-one : {A : Type 0} (f : A → ℕ) (xs : List A) (i : ℕ) (x : A) → slice_get xs i ≡ Some x → f x ≤ total f xs
total-one f [] i x e = cc
total-one f (y ∷ xs) zero x e = let same : f y ≡ f x = (let q : y ≡ x = cc in ap f q) in omega arith
total-one f (y ∷ xs) (suc i) x e = let rest : f x ≤ total f xs = total-one f xs i x e in omega arith

all-one : {A : Type 0} (P : A → Type 0) (xs : List A) (i : ℕ) (x : A) → AllByRecursion P xs → slice_get xs i ≡ Some x → P x
all-one P [] i x all e = cc
all-one P (y ∷ xs) zero x all e = let same : y ≡ x = cc in subst P same all.0
all-one P (y ∷ xs) (suc i) x all e = all-one P xs i x all.1 e

-- a heap that the pool has room for
pub record IsSeen (h : Heap) : Type 0 where
  pub is : IsHeap h
  pub few : h.end ≤ 4194304

module _ {d : Desk} (is : IsDesk d) where
  pub task-slot : (i : ℕ) (t : Task) → slice_get d.tasks i ≡ Some t → IsSlot t.slot
  task-slot i t e = all-one (λ (x : Task). IsSlot x.slot) d.tasks i t is.slots e

  pub task-length : (i : ℕ) (t : Task) → slice_get d.tasks i ≡ Some t → (slot_length t.slot ≤ page_size * task_pages t) × (page_size * task_pages t ≤ 4194304)
  task-length i t e =
      let one : task_pages t ≤ total task_pages d.tasks = total-one task_pages d.tasks i t e in
      let used = is.pages in
      let pool = is.pool in
      (omega arith, omega arith)

  task-seen : (i : ℕ) (h : Heap) (o : Option Task) → slice_get d.tasks i ≡ o → option_map (λ (t : Task). t.slot.heap) o ≡ Some h → IsSeen h
  task-seen i h None q e = cc
  task-seen i h (Some t) q e =
      let room = task-length i t q in
      let same : t.slot.heap ≡ h = cc in
      subst IsSeen same (record { is = (task-slot i t q).heap; few = omega arith })

  module-seen : IsSeen d.post.heap
  module-seen =
      let whole = is.post.heap.whole in
      let used = is.pages in
      let pool = is.pool in
      record { is = is.post.heap.heap; few = omega arith }

  pub seen : (heap : HeapOf) (h : Heap) → heap_seen heap d ≡ Some h → IsSeen h
  seen (heap_of.Task i) h e = task-seen i h (slice_get d.tasks i) refl e
  seen heap_of.Module h e = let same : d.post.heap ≡ h = cc in subst IsSeen same module-seen

-- ---- segments have bytes

abbrev pub AllSized : List Segment → Type 0
AllSized segments = AllByRecursion (λ (g : Segment). 0 < size_of g) segments

sized : (b : Bool) (segments : List Segment) → IsTidy b segments → AllSized segments
sized false [] t = tt
sized true [] t = absurd t
sized false (Used bytes ∷ segments) t = (omega arith, sized false segments t.1)
sized true (Used bytes ∷ segments) t = (omega arith, sized false segments t.1)
sized false (Hole n ∷ segments) t = (t.0, sized true segments t.2)
sized true (Hole n ∷ segments) t = absurd t

sized-back : (xs ys : List Segment) → AllSized (xs ++ ys) → AllSized ys
sized-back [] ys all = all
sized-back (x ∷ xs) ys all = sized-back xs ys all.1

sized-front : (xs ys : List Segment) → AllSized (xs ++ ys) → AllSized xs
sized-front [] ys all = tt
sized-front (x ∷ xs) ys all = (all.0, sized-front xs ys all.1)

pub sized-many : (xs : List Segment) → AllSized xs → length xs ≤ total size_of xs
sized-many [] all = omega arith
sized-many (x ∷ xs) all = let rest : length xs ≤ total size_of xs = sized-many xs all.1 in let one = all.0 in omega arith

-- ---- the segments from a place on

pub record Room (h : Heap) (place : ℕ) (rest : List Segment) : Type 0 where
  pub sized : AllSized rest
  pub fits : place + total size_of rest ≤ h.end

-- what lies from the place on has room in the heap
pub room : {o : Option Heap} {place : ℕ} {rest : List Segment} (w : ComesToRest o place rest) → IsSeen w.heap → Room w.heap place rest
room {rest = rest} w s =
    let all : AllSized (w.below ++ rest) = subst AllSized w.whole (sized false w.heap.segments s.is.tidy) in
    let sum : total size_of w.heap.segments ≡ total size_of w.below + total size_of rest = ap (total size_of) w.whole ∙ total-append size_of w.below rest in
    let fits = s.is.fits in
    let at = w.at in
    record { sized = sized-back w.below rest all; fits = omega arith }

-- the items that are told there
pub told : {o : Option Heap} {place : ℕ} (start : ℕ) {rest : List Segment} {items : List SegmentItem} (w : ComesToRest o place rest)
    → IfSome o (λ h. (below : List Segment) (rest : List Segment) → h.segments ≡ below ++ rest → place ≡ place_after below
    → items ≡ take SEGMENTS_AT_ONCE (segment_items_from (start + place) rest)) → items ≡ segment_items_from (start + place) (take SEGMENTS_AT_ONCE rest)
told {place = place} start {rest = rest} {items = items} w f =
    let P : Option Heap → Type 0 = λ o. IfSome o (λ h. (below : List Segment) (rest : List Segment) → h.segments ≡ below ++ rest → place ≡ place_after below
    → items ≡ take SEGMENTS_AT_ONCE (segment_items_from (start + place) rest)) in
    let g = subst P w.is f in
    g w.below rest w.whole w.at ∙ take-items SEGMENTS_AT_ONCE (start + place) rest

-- behind some of them
pub comes-on : {o : Option Heap} {place : ℕ} (passed left : List Segment) → ComesToRest o place (passed ++ left) → ComesToRest o
    (place + total size_of passed) left
comes-on passed left w = record {
  heap = w.heap;
  is = w.is;
  below = w.below ++ passed;
  whole = w.whole ∙ sym (append_assoc w.below passed left);
  at = (let at = w.at in omega (arith, total-append size_of w.below passed));
}

-- ---- a walk that counts them

abbrev pub end_of : Option Heap → ℕ
end_of None = 0
end_of (Some h) = h.end

pub start-small : (heap : HeapOf) → heap_start_of heap ≤ 25165824
start-small (heap_of.Task i) = omega arith
start-small heap_of.Module = omega arith

-- those that were passed, and those that are left
pub record Counted (start place end count : ℕ) (items : List SegmentItem) (rest : List Segment) : Type 0 where
  pub passed : List Segment
  pub left : List Segment
  pub whole : rest ≡ passed ++ left
  pub at : end ≡ place + total size_of passed
  pub count_is : count ≡ length passed
  pub items_are : items ≡ segment_items_from (start + end) (take SEGMENTS_AT_ONCE left)

pub counted-none : {start place : ℕ} {items : List SegmentItem} {rest : List Segment}
    → items ≡ segment_items_from (start + place) (take SEGMENTS_AT_ONCE rest) → Counted start place place 0 items rest
counted-none {rest = rest} e = record { passed = []; left = rest; whole = refl; at = omega arith; count_is = refl; items_are = e }

-- the next ones
pub record Stepped (o : Option Heap) (start end next count : ℕ) (items : List SegmentItem) (last : SegmentItem) : Type 0 where
  pub low : start ≤ item_end last
  pub small : item_end last ≤ start + 4194304
  pub goes : next + start ≡ item_end last → end < next
  pub within : next + start ≡ item_end last → next ≤ end_of o
  pub few : count + length items ≤ 4194304

module _ {o : Option Heap} {start place end count : ℕ} {items : List SegmentItem} {rest : List Segment} (w : ComesToRest o place rest)
    (k : Counted start place end count items rest) where
  comes : ComesToRest o end k.left
  comes =
      let P : List Segment → Type 0 = λ z. ComesToRest o place z in
      let Q : ℕ → Type 0 = λ z. ComesToRest o z k.left in
      subst Q (sym k.at) (comes-on k.passed k.left (subst P k.whole w))

  abbrev front : List Segment
  front = take SEGMENTS_AT_ONCE k.left

  abbrev back : List Segment
  back = drop SEGMENTS_AT_ONCE k.left

  parts : front ++ back ≡ k.left
  parts = take-append-drop SEGMENTS_AT_ONCE k.left

  last-here : (last : SegmentItem) → Some last ≡ slice_get items (length items - 1)
      → (item_end last ≡ (start + end) + total size_of front) × (0 < length front) × (length items ≡ length front)
  last-here last e =
      let here : Some last ≡ slice_get (segment_items_from (start + end) front) (length (segment_items_from (start + end) front) - 1) =
      e ∙ ap (λ xs. slice_get xs (length xs - 1)) k.items_are in
      let long : length items ≡ length front = ap length k.items_are ∙ length-items (start + end) front in
      let some = some-last items last e in
      (last-ends (start + end) front last here, omega arith, long)

  pub stepped : (next : ℕ) (last : SegmentItem) → IsSeen w.heap → Some last ≡ slice_get items (length items - 1) → Stepped o start end next count items last
  stepped next last s e =
      let h = last-here last e in
      let ends = h.0 in
      let some = h.1 in
      let long = h.2 in
      let all = room w s in
      let whole : total size_of rest ≡ total size_of k.passed + total size_of k.left = ap (total size_of) k.whole ∙ total-append size_of k.passed k.left in
      let halves : total size_of k.left ≡ total size_of front + total size_of back = ap (total size_of) (sym parts) ∙ total-append size_of front back in
      let sized-all : AllSized (k.passed ++ k.left) = subst AllSized k.whole all.sized in
      let sized-left : AllSized (front ++ back) = subst AllSized (sym parts) (sized-back k.passed k.left sized-all) in
      let passed-many = sized-many k.passed (sized-front k.passed k.left sized-all) in
      let front-many = sized-many front (sized-front front back sized-left) in
      let fits = all.fits in
      let few = s.few in
      let at = k.at in
      let count_is = k.count_is in
      let bound : w.heap.end ≡ end_of o = ap end_of (sym w.is) in
      record { low = omega arith; small = omega arith; goes = λ q. omega arith; within = λ q. omega arith; few = omega arith }

  pub counted-more : (next : ℕ) (last : SegmentItem) (items2 : List SegmentItem) → Some last ≡ slice_get items (length items - 1) → next + start ≡ item_end last
      → IfSome o (λ h. (below : List Segment) (rest : List Segment) → h.segments ≡ below ++ rest → next ≡ place_after below
      → items2 ≡ take SEGMENTS_AT_ONCE (segment_items_from (start + next) rest)) → Counted start place next (count + length items) items2 rest
  counted-more next last items2 e q f =
      let h = last-here last e in
      let ends = h.0 in
      let long = h.2 in
      let count_is = k.count_is in
      let at = k.at in
      let moved : next ≡ end + total size_of front = omega arith in
      let P : List Segment → Type 0 = λ z. ComesToRest o end z in
      let Q : ℕ → Type 0 = λ z. ComesToRest o z back in
      record {
        passed = k.passed ++ front;
        left = back;
        whole = k.whole ∙ (ap (λ z. k.passed ++ z) (sym parts) ∙ sym (append_assoc k.passed front back));
        at = omega (arith, total-append size_of k.passed front);
        count_is = omega (arith, length-append k.passed front);
        items_are = told start (subst Q (sym moved) (comes-on front back (subst P (sym parts) comes))) f;
      }

  pub comes-next : (next : ℕ) (last : SegmentItem) → Some last ≡ slice_get items (length items - 1) → next + start ≡ item_end last → ComesToRest o next back
  comes-next next last e q =
      let h = last-here last e in
      let ends = h.0 in
      let moved : next ≡ end + total size_of front = omega arith in
      let P : List Segment → Type 0 = λ z. ComesToRest o end z in
      let Q : ℕ → Type 0 = λ z. ComesToRest o z back in
      subst Q (sym moved) (comes-on front back (subst P (sym parts) comes))

  pub counted-all : None ≡ slice_get items (length items - 1) → (count ≡ length rest) × (end ≡ place + total size_of rest)
  counted-all e =
      let none : k.left ≡ [] = no-items (start + end) k.left (sym k.items_are ∙ none-last items e) in
      let whole : length rest ≡ length k.passed + length k.left = ap length k.whole ∙ length-append k.passed k.left in
      let sums : total size_of rest ≡ total size_of k.passed + total size_of k.left = ap (total size_of) k.whole ∙ total-append size_of k.passed k.left in
      let zero-long : length k.left ≡ 0 = ap length none in
      let zero-sum : total size_of k.left ≡ 0 = ap (total size_of) none in
      let count_is = k.count_is in
      let at = k.at in
      (omega arith, omega arith)

-- as a call asks for it
pub comes-parts : {o : Option Heap} {place : ℕ} {rest : List Segment} → ComesToRest o place rest
    → IfSome o (λ h. (x : List Segment) × (y : List Segment) × (h.segments ≡ x ++ y) × (place ≡ place_after x))
comes-parts {o = o} {place = place} {rest = rest} w =
    let P : Option Heap → Type 0 = λ z. IfSome z (λ h. (x : List Segment) × (y : List Segment) × (h.segments ≡ x ++ y) × (place ≡ place_after x)) in
    subst P (sym w.is) (w.below, rest, w.whole, w.at)

pub counted-so : {start place end n : ℕ} {items : List SegmentItem} {rest : List Segment} (count : ℕ) (next : List SegmentItem)
    → Counted start place end (count + length next) items rest → n ≡ length next → Counted start place end (count + n) items rest
counted-so {start = start} {place = place} {end = end} {items = items} {rest = rest} count next k e =
    let P : ℕ → Type 0 = λ m. Counted start place end (count + m) items rest in subst P (sym e) k

pub census-is : {count end : ℕ} (place : ℕ) (rest : List Segment) → (count ≡ length rest) × (end ≡ place + total size_of rest)
    → (let x : Census = record { count = count; end = end } in x) ≡ census_of place rest
census-is place rest e = let a = e.0 in let b = e.1 in cc
