-- What is read of a live task that is seen, and of the module area.
use Rattle.std.proofs.Common.{◌≡◌, ℕ, zero, suc, ◌+◌, ◌-◌, ◌≤◌, Bool, true, false, refl, ap, sym, subst, ◌∙◌, arith, eq-eqb, List, [], ◌∷◌, ◌++◌, length}
use Rattle.std.proofs.Common.{take, Option, Some, None, Result, Ok, Err}
use Rattle.std.specs.Prelude.{IfErr, IfOk, IsOk, OnOk, slice_get}
use Rattle.std.specs.Option.{option_map}
use Rattle.std.specs.Result.{MatchResult}
use Rattle.std.proofs.lemmas.Bool.{ne_eqb}
use Rattle.std.proofs.lemmas.Bool.Decides.{nat_tests}
use Rattle.rh_defs.specs.declared.sizes.TheConstants.{SEGMENTS_AT_ONCE}
use Rattle.rh_defs.specs.declared.question.BlockItem.{BlockItem}
use Rattle.rh_defs.specs.declared.question.SegmentItem.{SegmentItem}
use Rattle.rh_defs.specs.declared.refusal.Refusal.{Refusal}
use Rattle.rh_defs.specs.declared.refusal.Refusal.TheVariants.{BadRange, NotABlock, NoTask}
use Rattle.rh_defs.specs.Chain.{Granted, found_or}
use Rattle.rh_defs.specs.Commands.{own_block}
use Rattle.rh_defs.specs.Desk.{module_start, Desk, Task, task_at}
use Rattle.rh_defs.specs.Heap.{Heap, Hole, IsTidy, Segment, Used, block_at, bytes_of, is_block_at, place_after, size_of}
use Rattle.rh_defs.specs.Laws.{IsDesk}
use Rattle.rh_defs.specs.Questions.{block_items, block_items_from, segment_items_from}
use Rattle.rh_defs.specs.Pieces.{Split, first_at, total}
use Rattle.rh_defs.specs.Inner.NonePassing.{NonePass}
use Rattle.rh_defs.specs.Post.{post_is_message}
use Rattle.rh_defs.specs.Slot.{Flex, Slot, flex_start, heap_start, weight}
use Rattle.rh_defs.proofs.Cuts.{total-append}
use Rattle.rh_defs.proofs.HeapLists.{first_at-found}
use Rattle.rh_scene.specs.declared.sight.HeapOf.{HeapOf}
use Rattle.rh_scene.specs.declared.sight.HeapOf.TheVariants as heap_of
use Rattle.rh_scene.specs.Seen.{SeesBlock, HasFlex, IsBlockAt, heap_seen}
use Rattle.rh_scene.proofs.Heaps as heaps
use Rattle.rh_tasks.specs.WorldLists.{items_at, segment_items_at}
use Rattle.rh_tasks.specs.Sights.{blocks_in, module_shown, segments_in, slot_bytes}
use Rattle.rh_tasks.proofs.Chains.{begins, past}
use Rattle.rh_tasks.proofs.FirstBytes.{first-read, flex-first, flex-holds, heap-first, heap-holds}
use Rattle.rh_tasks.proofs.ModuleCommands.{unmarked-is}
use Rattle.rh_run.proofs.SegmentLaws.{from_place}

-- ---- a task that is seen
pub there : (h : ℕ) (o : Option Task) → Some h ≡ option_map (λ (t : Task). t.handle) o → (t : Task) × (o ≡ Some t)
there h None e = absurd (cc)
there h (Some t) e = (t, refl)

-- ---- what is granted
pub is-granted : {A B : Type 0} (Q : Refusal → Type 0) (r : Result A Refusal) (g : Granted B) (y : B) → IfErr r (λ e. (g ≡ Err e) × Q e) → g ≡ Ok y → IsOk r
is-granted Q (Ok x) g y err e = refl
is-granted Q (Err q) g y err e = absurd (let refused = err.0 in cc)

pub granted-none : {A B : Type 0} (r : Result A Refusal) (g : Granted B) (y : B) → IfErr r (λ e. g ≡ Err e) → g ≡ Ok y → IsOk r
granted-none (Ok x) g y err e = refl
granted-none (Err q) g y err e = absurd (let refused = err in cc)

pub given : {A B : Type 0} (r : Result A Refusal) (g : Granted B) (x y : B) → OnOk r (g ≡ Ok x) → IsOk r → g ≡ Ok y → x ≡ y
given (Ok a) g x y ok is e = let same = ok in cc
given (Err q) g x y ok is e = absurd (cc)

pub granted-if : {X B : Type 0} (show : X → B) (r : Result X Refusal) (x : X) (g : Granted B) (y : B) → IfOk r (λ z. g ≡ Ok (show z)) → r ≡ Ok x
    → g ≡ Ok y → show x ≡ y
granted-if show (Ok z) x g y ok is e = let same : z ≡ x = cc in let told = ok in let shown : show z ≡ y = cc in ap show (sym same) ∙ shown
granted-if show (Err q) x g y ok is e = absurd (cc)

pub as-granted : {B : Type 0} (P : B → Type 0) (Q : Refusal → Type 0) (g : Granted B) (y : B) → MatchResult g P Q → g ≡ Ok y → P y
as-granted {B} P Q g y m e = subst (λ (g : Granted B). MatchResult g P Q) e m

module _ (d : Desk) (h : ℕ) (t : Task) (live : task_at h d ≡ Some t) where
  pub blocks-there : blocks_in d h ≡ Ok (block_items t.slot)
  unfolding blocks_in found_or
  blocks-there = begins _ (ap (λ o. found_or o NoTask) live) refl

  pub segments-there : (place : ℕ) → segments_in d h place ≡ Ok (segment_items_at place t.slot.heap)
  unfolding segments_in found_or
  segments-there place = begins _ (ap (λ o. found_or o NoTask) live) refl

-- ---- a flex block by its place in the list
pub record Lies (start : ℕ) (blocks : List Flex) (item : BlockItem) (b : Flex) : Type 0 where
  pub before : List Flex
  pub after : List Flex
  pub whole : blocks ≡ before ++ b ∷ after
  pub at : item.address ≡ start + total weight before + 8
  pub long : item.size ≡ length b.bytes

lies : (start : ℕ) (blocks : List Flex) (i : ℕ) (item : BlockItem) (b : Flex) → slice_get (block_items_from start blocks) i ≡ Some item
    → slice_get blocks i ≡ Some b → Lies start blocks item b
lies start [] i item b e f = absurd (cc)
lies start (x ∷ blocks) zero item b e f =
    let same : x ≡ b = cc in
    let place : start + 8 ≡ item.address = cc in
    let size : length x.bytes ≡ item.size = cc in
    record { before = []; after = blocks; whole = ap (λ z. z ∷ blocks) same; at = omega arith; long = sym size ∙ ap (λ (y : Flex). length y.bytes) same }
lies start (x ∷ blocks) (suc i) item b e f =
    let rest = lies (start + weight x) blocks i item b e f in
    let at = rest.at in
    record { before = x ∷ rest.before; after = rest.after; whole = ap (λ l. x ∷ l) rest.whole; at = omega arith; long = rest.long }

-- the list has its size
pub flex-long : (o : Option Task) (item : BlockItem) (bytes : List ℕ) → HasFlex o item bytes → item.size ≡ length bytes
flex-long o item bytes f =
    let s : Slot = f.task.slot in (lies (flex_start s) s.blocks f.place item f.block f.listed f.stands).long ∙ ap length (sym f.bytes_are)

-- the first bytes of a flex block
pub flex-there : (d : Desk) (h : ℕ) (o : Option Task) (item : BlockItem) (bytes : List ℕ) (n : ℕ) → task_at h d ≡ o → HasFlex o item bytes → n ≤ length bytes
    → slot_bytes d h item.address n ≡ Ok (take n bytes)
flex-there d h o item bytes n live f few =
    let s : Slot = f.task.slot in
    let l = lies (flex_start s) s.blocks f.place item f.block f.listed f.stands in
    let room : n ≤ length f.block.bytes = omega (arith, ap length f.bytes_are) in
    ap (λ x. slot_bytes d h x n) l.at
    ∙ first-read d h _ n f.task (take n bytes) (live ∙ f.is) (flex-holds s l.before l.after f.block n l.whole room)
    (flex-first s l.before l.after f.block n l.whole room ∙ ap (take n) (sym f.bytes_are))

-- ---- a block of a heap
pub block-room : (h : Heap) (place : ℕ) (bytes : List ℕ) → IsBlockAt h place bytes → heaps.IsSeen h → place + 4 + length bytes ≤ 4194304
block-room h place bytes b s =
    let fits = s.is.fits in
    let few = s.few in
    let at = b.at in
    omega (arith, ap (total size_of) b.whole, total-append size_of b.below (Used bytes ∷ b.above))

pub heap-there : (d : Desk) (h : ℕ) (t : Task) (place x n : ℕ) (bytes : List ℕ) → task_at h d ≡ Some t → heaps.IsSeen t.slot.heap
    → IsBlockAt t.slot.heap place bytes → n ≤ length bytes
    → x ≡ heap_start + place + 4 → slot_bytes d h x n ≡ Ok (take n bytes)
heap-there d h t place x n bytes live s b few e =
    let at = b.at in
    let same : x ≡ heap_start + (16 + total size_of b.below + 4) = omega arith in
    ap (λ z. slot_bytes d h z n) same
    ∙ first-read d h _ n t (take n bytes) live (heap-holds t.slot b.below b.above bytes n b.whole s.is.fits few)
    (heap-first t.slot b.below b.above bytes n b.whole s.is.fits few)

none-there : (b : Bool) (a p : ℕ) (below rest : List Segment) → IsTidy b (below ++ rest) → a ≡ p + total size_of below + 4
    → NonePass size_of (is_block_at a) p below
none-there b a p [] rest t e = tt
none-there false a p (Used bytes ∷ below) rest t e =
    (ne_eqb a (p + 4) (λ q. absurd (omega arith)), none-there false a (p + (4 + length bytes)) below rest t.1 (omega arith))
none-there true a p (Used bytes ∷ below) rest t e =
    (ne_eqb a (p + 4) (λ q. absurd (omega arith)), none-there false a (p + (4 + length bytes)) below rest t.1 (omega arith))
none-there false a p (Hole n ∷ below) rest t e = (refl, none-there true a (p + n) below rest t.2 (omega arith))
none-there true a p (Hole n ∷ below) rest t e = absurd t

block-found : (h : Heap) (place : ℕ) (bytes : List ℕ) → IsTidy false h.segments → (b : IsBlockAt h place bytes)
    → block_at (place + 4) h ≡ Some (record { before = b.below; here = Used bytes; after = b.above })
block-found h place bytes tidy b =
    let at = b.at in
    let a : ℕ = place + 4 in
    ap (first_at size_of (is_block_at a) 16) b.whole
    ∙ first_at-found size_of (is_block_at a) 16 b.below (Used bytes) b.above
    (none-there false a 16 b.below (Used bytes ∷ b.above) (subst (IsTidy false) b.whole tidy) (omega arith))
    (eq-eqb a (16 + total size_of b.below + 4) (omega arith))

pub module-there : (d : Desk) (place x n : ℕ) (bytes : List ℕ) → heaps.IsSeen d.post.heap → IsBlockAt d.post.heap place bytes
    → post_is_message (place + 4) d.post ≡ false → n ≤ length bytes
    → x ≡ module_start + place + 4 → module_shown d x 0 n ≡ Ok (length bytes, take n bytes)
unfolding module_shown found_or
module-there d place x n bytes s b free few e =
    let away : x - module_start ≡ place + 4 = omega arith in
    let own : own_block x d ≡ Ok (record { before = b.below; here = Used bytes; after = b.above }) =
    unmarked-is x d (ap (λ a. post_is_message a d.post) away ∙ free)
    ∙ ap (λ a. found_or (block_at a d.post.heap) NotABlock) away ∙ ap (λ o. found_or o NotABlock) (block-found d.post.heap place bytes s.is.tidy b) in
    begins _ own (past _ BadRange _ (grind (arith, nat_tests)) refl)

-- ---- the heap that is looked at
pub task-seen : {d : Desk} → IsDesk d → (i : ℕ) (t : Task) → slice_get d.tasks i ≡ Some t → heaps.IsSeen t.slot.heap
task-seen {d} is i t e = heaps.seen is (heap_of.Task i) t.slot.heap (ap (option_map (λ (x : Task). x.slot.heap)) e)

pub module-seen : {d : Desk} → IsDesk d → heaps.IsSeen d.post.heap
module-seen {d} is = heaps.seen is heap_of.Module d.post.heap refl

pub in-heap : (d : Desk) (heap : HeapOf) (i : ℕ) (t : Task) (place : ℕ) (bytes : List ℕ) → heap ≡ heap_of.Task i → slice_get d.tasks i ≡ Some t
    → SeesBlock (heap_seen heap d) place bytes
    → IsBlockAt t.slot.heap place bytes
in-heap d heap i t place bytes of e has =
    subst (λ (o : Option Heap). SeesBlock o place bytes) (ap (λ (h : HeapOf). heap_seen h d) of ∙ ap (option_map (λ (x : Task). x.slot.heap)) e) has

pub in-module : (d : Desk) (heap : HeapOf) (place : ℕ) (bytes : List ℕ) → heap ≡ heap_of.Module → SeesBlock (heap_seen heap d) place bytes
    → IsBlockAt d.post.heap place bytes
in-module d heap place bytes of has = subst (λ (o : Option Heap). SeesBlock o place bytes) (ap (λ (h : HeapOf). heap_seen h d) of) has

-- a place has one block
pub block-same : (h : Heap) (place : ℕ) (xs ys : List ℕ) → heaps.IsSeen h → IsBlockAt h place xs → IsBlockAt h place ys → xs ≡ ys
block-same h place xs ys s a b =
    let one = sym (block-found h place xs s.is.tidy a) ∙ block-found h place ys s.is.tidy b in
    let both : Some xs ≡ Some ys = ap (option_map (λ (cut : Split Segment). bytes_of cut.here)) one in cc

-- ---- segments from a place on
pub items-from : (start : ℕ) (h : Heap) (place : ℕ) (items : List SegmentItem) → IsTidy false h.segments → items ≡ items_at start place h
    → (below rest : List Segment)
    → h.segments ≡ below ++ rest → place ≡ place_after below → items ≡ take SEGMENTS_AT_ONCE (segment_items_from (start + place) rest)
items-from start h place items tidy e below rest whole at = e
    ∙ ap (λ r. take SEGMENTS_AT_ONCE (segment_items_from (start + place) r)) (from_place h tidy below rest place whole at)
