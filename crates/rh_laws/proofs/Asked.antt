-- What holds of each question: by which conditions it is refused, and that its answer follows a renaming of bytes.
use Rattle.rh_laws.proofs.Common.{◌≡◌, ℕ, ◌+◌, List, [], ◌∷◌, ◌++◌, length, map, refl, ap, ◌∙◌, length-map, Question, Segment, Used, Hole}
use Rattle.rh_laws.proofs.Common.{first_place, size_of, largest, free_bytes, Flex, flex_weight, heap_start, Desk, Task, free_pages, named, Bytes}
use Rattle.rh_laws.proofs.Common.{Told, heap, asked, Follows, follows-as, not, Ok, ◌>>=◌, refuse_if, slot_block}
use Rattle.std.specs.List.{enumerate_from}
use Rattle.rh_defs.specs.declared.question.Question.TheVariants as question
use Rattle.rh_defs.specs.declared.question.Numbers.TheVariants as numbers
use Rattle.rh_defs.specs.declared.question.BlockItem.{BlockItem}
use Rattle.rh_defs.specs.declared.question.SegmentItem.TheVariants as segment
use Rattle.rh_defs.specs.declared.question.AreaItem.{AreaItem}
use Rattle.rh_defs.specs.declared.question.AreaItem.TheVariants as item
use Rattle.rh_defs.specs.Slot.{weight, flex_start}
use Rattle.rh_defs.specs.Desk.{Made, task_pages}
use Rattle.rh_defs.specs.Questions.{Blocks, Segments, Areas, block_items_from, segment_item, segment_items_from, area_item, show, read, blocks, status}
use Rattle.rh_laws.specs.Renaming.{renamed_block, renamed_segment, renamed_slot, renamed_task, renamed, renamed_listed}
use Rattle.rh_laws.proofs.RenamedParts.{By, follows-by}
use Rattle.rh_laws.proofs.RenamedHeaps.{size-renamed, largest-renamed, free_bytes-renamed}
use Rattle.rh_laws.proofs.RenamedSlots.{bytes_held-renamed, holds-renamed, pages-renamed, slot_block-renamed}
use Rattle.rh_defs.specs.declared.refusal.Refusal.TheVariants.{BadRange}
use Rattle.rh_defs.specs.declared.reply.Reply.TheVariants as reply
use Rattle.rh_laws.specs.Conditions.{asked_rows}
use Rattle.rh_laws.proofs.RefusalSteps.{GoesBy, done, found_then, granted_then, in_steps, in_steps_both, refused_if}
use Rattle.rh_laws.proofs.RenamedDesks.{free-renamed, named-renamed}

-- ---- refusals

module _ (d : Desk) where
  pub ask-goes : (q : Question) → GoesBy (asked d q >>= λ told. Ok (d, reply.Answered told.0)) (asked_rows d q)
  unfolding named show read blocks heap status slot_block
  ask-goes (question.Show name k) =
      in_steps _ _ _ _ (found_then _ _ _ _ λ t e. rw e (in_steps _ _ _ _ (found_then _ _ _ _ λ b f.
      granted_then _ _ _ _ refl (done _ refl))))
  ask-goes (question.Read name x n) =
      in_steps _ _ _ _ (found_then _ _ _ _ λ t e. rw e (in_steps_both _ _ _ _ (refused_if _ _ BadRange _ _ refl λ fits.
      granted_then _ _ _ _ refl (done _ refl))))
  ask-goes (question.Blocks name) = in_steps _ _ _ _ (found_then _ _ _ _ λ t e. granted_then _ _ _ _ refl (done _ refl))
  ask-goes (question.Heap name) = in_steps _ _ _ _ (found_then _ _ _ _ λ t e. granted_then _ _ _ _ refl (done _ refl))
  ask-goes (question.Status name) = in_steps _ _ _ _ (found_then _ _ _ _ λ t e. granted_then _ _ _ _ refl (done _ refl))
  ask-goes question.Areas = granted_then _ _ _ _ refl (done _ refl)

-- ---- bytes that are renamed

module _ (f : ℕ → ℕ) where
  block_items-renamed : (place : ℕ) (bs : List Flex) → block_items_from place (map (renamed_block f) bs) ≡ block_items_from place bs
  block_items-renamed place [] = refl
  block_items-renamed place (b ∷ bs) =
      ap (λ n. item_of n ∷ block_items_from (place + flex n) (map (renamed_block f) bs)) (length-map b.bytes f)
      ∙ ap (λ l. item_of (length b.bytes) ∷ l) (block_items-renamed (place + weight b) bs)
    where
      item_of : ℕ → BlockItem
      item_of n = record { anchor = b.anchor; address = place + 8; size = n }

      flex : ℕ → ℕ
      flex n = flex_weight n

  segment_item-renamed : (place : ℕ) (g : Segment) → segment_item place (renamed_segment f g) ≡ segment_item place g
  segment_item-renamed place (Used bytes) = ap (segment.Used (place + 4)) (length-map bytes f)
  segment_item-renamed place (Hole size) = refl

  segment_items-renamed : (place : ℕ) (ss : List Segment) → segment_items_from place (map (renamed_segment f) ss) ≡ segment_items_from place ss
  segment_items-renamed place [] = refl
  segment_items-renamed place (g ∷ ss) =
      ap (λ i. i ∷ segment_items_from (place + size_of (renamed_segment f g)) (map (renamed_segment f) ss)) (segment_item-renamed place g)
      ∙ ap (λ n. segment_item place g ∷ segment_items_from (place + n) (map (renamed_segment f) ss)) (size-renamed f g)
      ∙ ap (λ l. segment_item place g ∷ l) (segment_items-renamed (place + size_of g) ss)

  slot_items-renamed : (ts : List Task) → map (λ (t : Task). item.Slot t.name (task_pages t)) (map (renamed_task f) ts)
      ≡ map (λ (t : Task). item.Slot t.name (task_pages t)) ts
  slot_items-renamed [] = refl
  slot_items-renamed (t ∷ ts) =
      ap (λ n. item.Slot t.name n ∷ map (λ (t : Task). item.Slot t.name (task_pages t)) (map (renamed_task f) ts)) (pages-renamed f t.slot)
      ∙ ap (λ l. item.Slot t.name (task_pages t) ∷ l) (slot_items-renamed ts)

  -- an answer with the bytes renamed that it shows
  abbrev pub retold : Told → Told
  retold told = (told.0, renamed_listed f told.1)

  show-renamed : (d : Desk) (name : List ℕ) (k : ℕ) → Follows (By retold) (show d name k) (show (renamed f d) name k)
  unfolding show
  show-renamed d name k =
      follows-by _ _ (named-renamed f name d) λ t. follows-by _ _ (slot_block-renamed f k t.slot) λ b.
      Follows.both (ap (λ n. (numbers.Shown n, Bytes (map f b.here.bytes))) (length-map b.here.bytes f))

  read-renamed : (d : Desk) (name : List ℕ) (x n : ℕ) → Follows (By retold) (read d name x n) (read (renamed f d) name x n)
  unfolding read
  read-renamed d name x n =
      follows-by _ _ (named-renamed f name d) λ t.
      follows-as _ _ _ _ (ap (λ b. refuse_if (not b) BadRange) (holds-renamed f x n t.slot))
      (Follows.both (ap (λ l. (numbers.Shown n, Bytes l)) (bytes_held-renamed f x n t.slot)))

  blocks-renamed : (d : Desk) (name : List ℕ) → Follows (By retold) (blocks d name) (blocks (renamed f d) name)
  unfolding blocks
  blocks-renamed d name =
      follows-by _ _ (named-renamed f name d) λ t.
      Follows.both (
      ap (λ n. (numbers.BlockCount n, Blocks (block_items_from (flex_start t.slot) (map (renamed_block f) t.slot.blocks)))) (length-map t.slot.blocks
      (renamed_block f))
      ∙ ap (λ l. (numbers.BlockCount (length t.slot.blocks), Blocks l)) (block_items-renamed (flex_start t.slot) t.slot.blocks)
      )

  heap-renamed : (d : Desk) (name : List ℕ) → Follows (By retold) (heap d name) (heap (renamed f d) name)
  unfolding heap
  heap-renamed d name =
      follows-by _ _ (named-renamed f name d) λ t.
      Follows.both (
      ap (λ n. (
        numbers.HeapSums t.slot.heap.end n (free_bytes (renamed_slot f t.slot).heap),
        Segments (segment_items_from (heap_start + first_place)
            (map (renamed_segment f) t.slot.heap.segments)),
      )) (largest-renamed f t.slot.heap)
      ∙ ap (λ n. (
        numbers.HeapSums t.slot.heap.end (largest t.slot.heap) n,
        Segments (segment_items_from (heap_start + first_place) (map
            (renamed_segment f) t.slot.heap.segments)),
      )) (free_bytes-renamed f t.slot.heap)
      ∙ ap (λ l. (numbers.HeapSums t.slot.heap.end (largest t.slot.heap) (free_bytes t.slot.heap), Segments l)) (segment_items-renamed
      (heap_start + first_place) t.slot.heap.segments)
      )

  status-renamed : (d : Desk) (name : List ℕ) → Follows (By retold) (status d name) (status (renamed f d) name)
  unfolding status
  status-renamed d name = follows-by _ _ (named-renamed f name d) λ t. Follows.both refl

  pub asked-renamed : (d : Desk) (q : Question) → Follows (By retold) (asked d q) (asked (renamed f d) q)
  asked-renamed d (question.Show name k) = show-renamed d name k
  asked-renamed d (question.Read name x n) = read-renamed d name x n
  asked-renamed d (question.Blocks name) = blocks-renamed d name
  asked-renamed d (question.Heap name) = heap-renamed d name
  asked-renamed d (question.Status name) = status-renamed d name
  asked-renamed d question.Areas =
      Follows.both (
      ap (λ n. (numbers.FreePages n, Areas (fixed (renamed f d) ++ made ++ slots (map (renamed_task f) d.tasks)))) (free-renamed f d)
      ∙ ap (λ l. (numbers.FreePages (free_pages d), Areas (fixed (renamed f d) ++ made ++ l))) (slot_items-renamed d.tasks)
      ∙ ap (λ l. (numbers.FreePages (free_pages d), Areas (l ++ made ++ slots d.tasks))) (same (enumerate_from 0 d.areas))
      )
    where
      fixed : Desk → List AreaItem
      fixed e = map (area_item e) (enumerate_from 0 d.areas)

      same : (areas : List (ℕ × ℕ)) → map (area_item (renamed f d)) areas ≡ map (area_item d) areas
      same [] = refl
      same (area ∷ areas) = ap (λ l. area_item d area ∷ l) (same areas)

      made : List AreaItem
      made = map (λ (m : Made). item.Area m.number m.pages) d.made

      slots : List Task → List AreaItem
      slots ts = map (λ (t : Task). item.Slot t.name (task_pages t)) ts
