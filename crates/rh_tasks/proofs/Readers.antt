-- What the readers give of a slot, and that it is small.
use Rattle.rh_tasks.proofs.Common.{◌≡◌, ℕ, ◌+◌, ◌≤◌, ap, sym, ◌∙◌, arith, List, length, Option, Some, None, Ok, Err, IfSome, Result, Bool, ◌==◌, option_map}
use Rattle.rh_tasks.proofs.Common.{Memory, bytes, NoBlock, SegmentItem, Granted, ◌>>=◌, found_or, outcome_of, result_or, Split, total, Heap, segment_at}
use Rattle.rh_tasks.proofs.Common.{segment_item, IsCut, first_at-cuts, cut-total, IsSlotIn, slot_in}
use Rattle.std.specs.Result.{MatchResult}
use Rattle.rh_defs.specs.Heap.{largest, free_bytes}
use Rattle.rh_defs.specs.Slot as plain
use Rattle.rh_heap.specs.declared.layout.Segment.{Segment}
use Rattle.rh_heap.specs.Segments.{piece}
use Rattle.rh_slot.specs.declared.slot.Slot.{Slot}
use Rattle.rh_tasks.specs.WorldItems.{segment_item_of}
use Rattle.rh_tasks.proofs.ItemLaws.{blocks-weigh, largest-small, free-small}
use Rattle.rh_tasks.proofs.QuestionLaws.{IsPiece, piece-at, piece-none, segment-listed}
use Rattle.rh_store.specs.Limits.{area_limit}

-- ---- a result that is known

pub if-ok : {A E : Type 0} (P : A → Type 0) (Q : E → Type 0) {r : Result A E} {a : A} → r ≡ Ok a → P a → MatchResult r P Q
if-ok P Q e h = rw e h

pub if-err : {A E : Type 0} (P : A → Type 0) (Q : E → Type 0) {r : Result A E} {x : E} → r ≡ Err x → Q x → MatchResult r P Q
if-err P Q e h = rw e h

-- what a refused call leaves is what there was
pub kept : {A E : Type 0} {x : E} (old new : A) (g : Result A E) → Err x ≡ outcome_of g → new ≡ result_or old g → new ≡ old
kept old new (Ok y) e is = absurd (cc)
kept old new (Err y) e is = is

-- ---- the C heap's sums, and the segment at a place

abbrev pub Listed : Type 0
Listed = Granted ((ℕ × ℕ × ℕ) × Option SegmentItem)

abbrev with_sums : Heap → Option SegmentItem → Listed
with_sums h item = Ok ((h.end, largest h, free_bytes h), item)

abbrev pub listed_heap : ℕ → Heap → Listed
listed_heap place h = with_sums h (option_map (λ c. segment_item (plain.heap_start + place) c.here) (segment_at place h))

pub listed-none : (place : ℕ) (h : Heap) → None ≡ option_map piece (segment_at place h) → listed_heap place h ≡ with_sums h None
listed-none place h e =
    ap (λ o. with_sums h (option_map (λ c. segment_item (plain.heap_start + place) c.here) o)) (piece-none place h e)

pub listed-some : (place : ℕ) (h : Heap) (p : Segment) (i : SegmentItem) → Some p ≡ option_map piece (segment_at place h)
    → i ≡ segment_item_of plain.heap_start place p → listed_heap place h ≡ with_sums h (Some i)
listed-some place h p i e is =
    let at = piece-at place h p e in
    ap (λ o. with_sums h (option_map (λ c. segment_item (plain.heap_start + place) c.here) o)) at.found
    ∙ ap (λ x. with_sums h (Some x)) (sym (is ∙ ap (segment_item_of plain.heap_start place) (sym at.is)
    ∙ segment-listed place at.cut.here at.cut.before at.cut.after))

-- ---- all that is told of a slot fits a word

size-by : (test : ℕ → plain.Flex → Bool) (place : ℕ) (blocks : List plain.Flex) (o : Option (Split plain.Flex)) (n : ℕ)
    → IfSome o (IsCut plain.weight test place blocks) → Ok n ≡ (found_or o NoBlock >>= λ b. Ok (length b.here.bytes)) → n ≤ total plain.weight blocks
unfolding ◌>>=◌ found_or
size-by test place blocks None n cut e = absurd (cc)
size-by test place blocks (Some b) n cut e = let q : n ≡ length b.here.bytes = cc in omega (arith, q, cut-total cut)

size-within : (k n : ℕ) (s : plain.Slot) → Ok n ≡ plain.slot_size k s → n ≤ total plain.weight s.blocks
unfolding plain.slot_size plain.slot_block
size-within k n s e = size-by (λ _ b. b.anchor == k) (plain.flex_start s) s.blocks (plain.block_of k s) n
    (first_at-cuts plain.weight (λ _ b. b.anchor == k) (plain.flex_start s) s.blocks) e

module _ {m : Memory} {slot : Slot} (is : IsSlotIn m slot) (small : length (bytes m slot.area.0) ≤ area_limit) where
  abbrev s : plain.Slot
  s = slot_in m slot

  pub few-blocks : length s.blocks ≤ area_limit
  few-blocks = omega (arith, blocks-weigh s.blocks, is.spells.words.within, small)

  pub small-size : (k n : ℕ) → Ok n ≡ plain.slot_size k s → n ≤ area_limit
  small-size k n e = omega (arith, size-within k n s e, is.spells.words.within, small)

  pub small-end : s.heap.end ≤ area_limit
  small-end = omega (arith, is.spells.words.within, small)

  pub small-largest : largest s.heap ≤ area_limit
  small-largest = omega (arith, largest-small s.heap is.spells.words.heap.heap.fits, small-end)

  pub small-free : free_bytes s.heap ≤ area_limit
  small-free = omega (arith, free-small s.heap is.spells.words.heap.heap.fits, small-end)

  module _ (place : ℕ) (p : Segment) (e : Some p ≡ option_map piece (segment_at place s.heap)) where
    at : IsPiece place s.heap p
    at = piece-at place s.heap p e

    pub small-place : place ≤ area_limit
    small-place = omega (arith, at.low, is.spells.words.heap.heap.fits, small-end)

    pub small-piece : p.size ≤ area_limit
    small-piece = omega (arith, at.low, ap (λ (x : Segment). x.size) at.is, is.spells.words.heap.heap.fits, small-end)
