-- What is read of a world beside the answers to questions.
use Rattle.rh_tasks.proofs.Common.{◌≡◌, ℕ, ◌+◌, ◌-◌, ◌<◌, ◌≤◌, Bool, true, false, cond, refl, ap, sym, ◌∙◌, arith, List, [], ◌∷◌, length, Option, Some, None}
use Rattle.rh_tasks.proofs.Common.{Ok, Err, not, nat_lt, map, take, drop, slice_get, ok_or, ◌==◌, position, option_map, length-map, length-take, Memory}
use Rattle.rh_tasks.proofs.Common.{bytes, FileList, Refusal, NoTask, BadRange, NotABlock, Granted, ◌>>=◌, ◌>>◌, refuse_if, found_or, Split, first_at, zeros}
use Rattle.rh_tasks.proofs.Common.{Heap, Segment, Used, Hole, bytes_of, block_at, block_size, size_of, holds, Post, post_poll, Desk, next_ref, task_at}
use Rattle.rh_tasks.proofs.Common.{module_start, block_items, module_heap_in, slot_in, post_in, Seat, MadeArea, ScrapFile, Kept, the_module, task_of, made_of}
use Rattle.rh_tasks.proofs.Common.{desk_of, scrap_of, scrap_from, scrap_size, IsWorld, FoundSeat, segment_items_at, bytes_held, begins, ends, past, stops}
use Rattle.rh_tasks.proofs.Common.{lt-true, lt-false, named-is, Sits, mapped-at}
use Rattle.std.proofs.lemmas.Option.{slice_get_past}
use Rattle.rh_defs.specs.declared.sizes.TheConstants.{SEGMENTS_AT_ONCE}
use Rattle.rh_defs.specs.declared.question.SegmentItem.TheVariants as segment
use Rattle.rh_defs.specs.Blocks.{blank, block_bytes, SameShape}
use Rattle.rh_defs.specs.Pieces.{behind}
use Rattle.rh_defs.specs.Post.{post_is_message}
use Rattle.rh_defs.specs.Questions.{segment_items_from}
use Rattle.rh_defs.proofs.BlockLaws.{block_at-bytes, bytes_here}
use Rattle.rh_defs.proofs.ShapeLaws.{len0}
use Rattle.rh_heap.specs.Listed.{from_cut}
use Rattle.rh_wimp.specs.PostIn.{post_of}
use Rattle.rh_wimp.proofs.BesideLaws.{off-message}
use Rattle.rh_tasks.specs.WorldLists.{items_at}
use Rattle.rh_tasks.specs.Sights.{blocks_in, scrap_file_of, module_shown, next_message, segments_in, slot_bytes}
use Rattle.rh_tasks.proofs.ModuleCommands.{unmarked-is}
use Rattle.rh_tasks.proofs.Posts.{is-post}
use Rattle.rh_tasks.proofs.TransferBlocks.{SeatOf, a-task, no-task}

-- ---- heaps of one shape list the same segments

-- a segment is listed by its size and kind alone
blank-items : (place : ℕ) (ss : List Segment) → segment_items_from place (blank ss) ≡ segment_items_from place ss
blank-items place [] = refl
blank-items place (Used bs ∷ ss) =
    ap (λ n. segment.Used (place + 4) n ∷ segment_items_from (place + (4 + n)) (blank ss)) (len0 (length bs))
    ∙ ap (λ l. segment.Used (place + 4) (length bs) ∷ l) (blank-items (place + (4 + length bs)) ss)
blank-items place (Hole n ∷ ss) = ap (λ l. segment.Hole place n ∷ l) (blank-items (place + n) ss)

-- the segments from the one that begins at a place on, where the first begins at another
abbrev tail : ℕ → ℕ → List Segment → List Segment
tail p q ss = from_cut (first_at size_of (λ place g. p == place) q ss)

from-behind : (g : Segment) (o : Option (Split Segment)) → from_cut (option_map (behind g) o) ≡ from_cut o
from-behind g None = refl
from-behind g (Some cut) = refl

tail-on : (p q : ℕ) (g : Segment) (ss : List Segment) → tail p q (g ∷ ss) ≡ cond (p == q) (g ∷ ss) (tail p (q + size_of g) ss)
tail-on p q g ss = go (p == q)
  where
    go : (t : Bool) → from_cut (cond t (Some (record { before = []; here = g; after = ss }))
        (option_map (behind g) (first_at size_of (λ place x. p == place) (q + size_of g) ss)))
        ≡ cond t (g ∷ ss) (tail p (q + size_of g) ss)
    go true = refl
    go false = from-behind g (first_at size_of (λ place x. p == place) (q + size_of g) ss)

blank-either : (t : Bool) (xs ys : List Segment) → cond t (blank xs) (blank ys) ≡ blank (cond t xs ys)
blank-either true xs ys = refl
blank-either false xs ys = refl

tail-blank : (p q : ℕ) (ss : List Segment) → tail p q (blank ss) ≡ blank (tail p q ss)
tail-blank p q [] = refl
tail-blank p q (Used bs ∷ ss) =
    tail-on p q (Used (zeros (length bs))) (blank ss)
    ∙ ap (λ n. cond (p == q) (Used (zeros (length bs)) ∷ blank ss) (tail p (q + (4 + n)) (blank ss))) (len0 (length bs))
    ∙ ap (cond (p == q) (Used (zeros (length bs)) ∷ blank ss)) (tail-blank p (q + (4 + length bs)) ss)
    ∙ blank-either (p == q) (Used bs ∷ ss) (tail p (q + (4 + length bs)) ss)
    ∙ ap blank (sym (tail-on p q (Used bs) ss))
tail-blank p q (Hole n ∷ ss) =
    tail-on p q (Hole n) (blank ss)
    ∙ ap (cond (p == q) (Hole n ∷ blank ss)) (tail-blank p (q + n) ss)
    ∙ blank-either (p == q) (Hole n ∷ ss) (tail p (q + n) ss)
    ∙ ap blank (sym (tail-on p q (Hole n) ss))

items-alike : (start place : ℕ) (h k : Heap) → SameShape h k → items_at start place h ≡ items_at start place k
items-alike start place h k s =
    let there : blank (tail place 16 h.segments) ≡ blank (tail place 16 k.segments) =
    sym (tail-blank place 16 h.segments) ∙ ap (tail place 16) s.blank ∙ tail-blank place 16 k.segments in
    ap (take SEGMENTS_AT_ONCE) (sym (blank-items (start + place) (tail place 16 h.segments)) ∙ ap (segment_items_from (start + place)) there
    ∙ blank-items (start + place) (tail place 16 k.segments))

-- ---- the block with an address

-- what a look for a block finds, by its bytes
block-there : {B : Type 0} (o : Option (Split Segment)) (bs : List ℕ) (next : Split Segment → Granted B) (x : Granted B) → bytes_here o ≡ Some bs
    → ((cut : Split Segment) → bytes_of cut.here ≡ bs → next cut ≡ x) → (found_or o NotABlock >>= next) ≡ x
unfolding ◌>>=◌ found_or
block-there None bs next x e f = absurd cc
block-there (Some cut) bs next x e f = let same : bytes_of cut.here ≡ bs = cc in f cut same

-- a block's size is that of its bytes
pub sized-bytes : (a : ℕ) (h : Heap) (n : ℕ) → Ok n ≡ ok_or (block_size a h) NotABlock → (bs : List ℕ) × ((block_bytes a h ≡ Some bs) × (length bs ≡ n))
sized-bytes a h n e = go (block_at a h) (block_at-bytes a h) e
  where
    go : (o : Option (Split Segment)) → bytes_here o ≡ block_bytes a h → Ok n ≡ ok_or (option_map (λ (s : Split Segment). length (bytes_of s.here)) o) NotABlock
        → (bs : List ℕ) × ((block_bytes a h ≡ Some bs) × (length bs ≡ n))
    go None b e = absurd cc
    go (Some cut) b e = (bytes_of cut.here, (sym b, (let same : n ≡ length (bytes_of cut.here) = cc in sym same)))

pub unsized-block : (a : ℕ) (h : Heap) (r : Refusal) → Err r ≡ ok_or (block_size a h) NotABlock → (block_bytes a h ≡ None) × (r ≡ NotABlock)
unsized-block a h r e = go (block_at a h) (block_at-bytes a h) e
  where
    go : (o : Option (Split Segment)) → bytes_here o ≡ block_bytes a h
        → Err r ≡ ok_or (option_map (λ (s : Split Segment). length (bytes_of s.here)) o) NotABlock → (block_bytes a h ≡ None) × (r ≡ NotABlock)
    go None b e = (sym b, cc)
    go (Some cut) b e = absurd cc

none-there : {B : Type 0} (o : Option (Split Segment)) (next : Split Segment → Granted B) → bytes_here o ≡ None
    → (found_or o NotABlock >>= next) ≡ Err NotABlock
unfolding ◌>>=◌ found_or
none-there None next e = refl
none-there (Some cut) next e = absurd cc

-- ---- the world

module _ {m : Memory} {seats : List Seat} {made : List MadeArea} {files : FileList} {kept : Kept} (w : IsWorld m seats made files kept) where
  abbrev d : Desk
  d = desk_of m seats made files kept

  abbrev the_post : Post
  the_post = post_in m the_module kept.queue

  -- the task at a place, and that it is live
  pub task-there : {i : ℕ} {s : Seat} → Sits seats i s → slice_get d.tasks i ≡ Some (task_of m s)
  task-there {i} {s} at = mapped-at (task_of m) seats i s at

  pub no-task-there : (i : ℕ) → length seats ≤ i → slice_get d.tasks i ≡ None
  no-task-there i beyond = slice_get_past (map (task_of m) seats) i (omega (arith, beyond, length-map seats (task_of m)))

  pub task-live : {i : ℕ} {s : Seat} → Sits seats i s → task_at s.handle d ≡ slice_get d.tasks i
  task-live at = a-task w (record { at = at; handle = refl }) ∙ sym (task-there at)

  -- the made area at a place
  pub made-there : {i : ℕ} {a : MadeArea} → Sits made i a → slice_get d.made i ≡ Some (made_of m a)
  made-there {i} {a} at = mapped-at (made_of m) made i a at

  pub no-made-there : (i : ℕ) → length made ≤ i → slice_get d.made i ≡ None
  no-made-there i beyond = slice_get_past (map (made_of m) made) i (omega (arith, beyond, length-map made (made_of m)))

  -- ---- a task's blocks, by its handle

  module _ {h i : ℕ} {s : Seat} (a : SeatOf seats h i s) where
    task-found : found_or (task_at h d) NoTask ≡ Ok (task_of m s)
    unfolding found_or
    task-found = ap (λ o. found_or o NoTask) (a-task w a)

    pub blocks-are : blocks_in d h ≡ Ok (block_items (slot_in m s.slot))
    unfolding blocks_in task_of
    blocks-are = begins _ task-found refl

    pub segments-are : (place : ℕ) → segments_in d h place ≡ Ok (segment_items_at place (slot_in m s.slot).heap)
    unfolding segments_in task_of
    segments-are place = begins _ task-found refl

    pub bytes-outside : (x n : ℕ) → holds x n (slot_in m s.slot) ≡ false → slot_bytes d h x n ≡ Err BadRange
    unfolding slot_bytes task_of
    bytes-outside x n e = begins _ task-found (stops _ BadRange _ (ap not e))

    pub bytes-inside : (x n : ℕ) → holds x n (slot_in m s.slot) ≡ true → slot_bytes d h x n ≡ Ok (bytes_held x n (slot_in m s.slot))
    unfolding slot_bytes task_of
    bytes-inside x n e = begins _ task-found (past _ BadRange _ (ap not e) refl)

  module _ (h : ℕ) (none : position (λ (s : Seat). s.handle == h) seats ≡ None) where
    nobody-there : found_or (task_at h d) NoTask ≡ Err NoTask
    unfolding found_or
    nobody-there = ap (λ o. found_or o NoTask) (no-task w h none)

    pub no-blocks : blocks_in d h ≡ Err NoTask
    unfolding blocks_in
    no-blocks = ends _ nobody-there

    pub no-segments : (place : ℕ) → segments_in d h place ≡ Err NoTask
    unfolding segments_in
    no-segments place = ends _ nobody-there

    pub no-bytes : (x n : ℕ) → slot_bytes d h x n ≡ Err NoTask
    unfolding slot_bytes
    no-bytes x n = ends _ nobody-there

  -- ---- the module area

  pub module-items : (start place : ℕ) → items_at start place (module_heap_in m the_module) ≡ items_at start place d.post.heap
  module-items start place = items-alike start place (module_heap_in m the_module) the_post.heap (is-post w).linked.shape

  module _ (address : ℕ) (none : post_is_message (address - module_start) the_post ≡ false) where
    abbrev place : ℕ
    place = address - module_start

    plain-bytes : block_bytes place (module_heap_in m the_module) ≡ block_bytes place the_post.heap
    plain-bytes = (is-post w).linked.others place (off-message (module_heap_in m the_module) kept.queue the_post place (is-post w) none)

    pub module-unsized : (offset n : ℕ) → block_bytes place (module_heap_in m the_module) ≡ None → module_shown d address offset n ≡ Err NotABlock
    unfolding module_shown
    module-unsized offset n e =
        ap (λ g. g >>= (λ b. refuse_if (nat_lt (length (bytes_of b.here)) (offset + n)) BadRange >> Ok
        (length (bytes_of b.here), take n (drop offset (bytes_of b.here))))) (unmarked-is address d none)
        ∙ none-there (block_at place the_post.heap) _ (block_at-bytes place the_post.heap ∙ sym plain-bytes ∙ e)

    module _ (offset n : ℕ) (bs : List ℕ) (e : block_bytes place (module_heap_in m the_module) ≡ Some bs) where
      abbrev given : List ℕ → Granted (ℕ × List ℕ)
      given l = refuse_if (nat_lt (length l) (offset + n)) BadRange >> Ok (length l, take n (drop offset l))

      module-sized : module_shown d address offset n ≡ given bs
      unfolding module_shown
      module-sized =
          ap (λ g. g >>= (λ b. given (bytes_of b.here))) (unmarked-is address d none)
          ∙ block-there (block_at place the_post.heap) bs _ (given bs) (block_at-bytes place the_post.heap ∙ sym plain-bytes ∙ e) (λ cut same. ap given same)

      pub module-short : length bs < offset + n → module_shown d address offset n ≡ Err BadRange
      module-short l = module-sized ∙ stops (nat_lt (length bs) (offset + n)) BadRange _ (lt-true (length bs) (offset + n) l)

      pub module-given : offset + n ≤ length bs → module_shown d address offset n ≡ Ok (length bs, take n (drop offset bs))
      module-given l = module-sized ∙ past (nat_lt (length bs) (offset + n)) BadRange _ (lt-false (length bs) (offset + n) l) refl

  -- ---- messages and the scrap file

  pub next-is : {name : List ℕ} {i : ℕ} {s : Seat} → FoundSeat name seats i s → next_message d name ≡ Ok (post_poll s.handle d.post).1
  unfolding next_message task_of
  next-is f = begins _ (named-is m made files kept f) refl

  pub ref-is : kept.queue.next_ref ≡ next_ref d
  unfolding post_of
  ref-is = refl

  pub scrap-seen : kept.scrap ≡ option_map scrap_file_of d.scrap
  unfolding scrap_of
  scrap-seen = go kept.scrap w.scrap
    where
      go : (o : Option ScrapFile) → scrap_size o ≤ length (bytes m 5) → o ≡ option_map scrap_file_of (option_map (scrap_from (bytes m 5)) o)
      go None l = refl
      go (Some file) l =
          let size : length (take file.size (bytes m 5)) ≡ file.size = omega (arith, length-take file.size (bytes m 5), l) in
          ap (λ n. Some (let f : ScrapFile = record { load = file.load; size = n } in f)) (sym size)
