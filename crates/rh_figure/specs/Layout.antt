-- The pieces of an area: its bytes, one thing after the other. Read Scene first.
-- Offsets count from the area's first byte. x is the scene, g the legend of a heap, p an offset or a piece, s a
-- segment, h a heap or a handle, k an anchor, n a size.
use Rattle.std.specs.Prelude.{◌≡◌, ℕ, ◌+◌, ◌-◌, ◌*◌, ◌==◌, ◌&&◌, ◌||◌, not, nat_le, nat_lt, Bool, false, List, [], ◌∷◌, ◌++◌, length, take, drop, Option, Some, None}
use Rattle.std.specs.List.{list_any}
use Rattle.rh_defs.specs.declared.question.BlockItem.{BlockItem}
use Rattle.rh_defs.specs.declared.sizes.TheConstants.{C_HEAP_PLACE}
use Rattle.rh_defs.specs.Pieces.{page_size, total}
use Rattle.rh_defs.specs.Heap.{Segment, Used, Hole, Heap, size_of, first_place, base}
use Rattle.rh_defs.specs.Slot.{Slot, Flex, flex_weight, weight, slot_start, slot_length, slot_pages}
use Rattle.rh_defs.specs.Messages.{Parcel}
use Rattle.rh_defs.specs.Desk.{module_start}
use Rattle.rh_figure.specs.Scene.{Scene, message_of_scene}
use Rattle.rh_figure.specs.declared.heap_effect.HeapEffect.{HeapEffect}
use Rattle.rh_figure.specs.declared.heap_effect.HeapEffect.TheVariants.{Released, Resized}
use Rattle.rh_figure.specs.declared.limits.TheConstants.{MOST_SEGMENTS}
pub use Rattle.rh_figure.specs.declared.piece.Kind.{Kind}
pub use Rattle.rh_figure.specs.declared.piece.Kind.TheVariants.{AnchorWords, Descriptor, Claimed, Posted, FreeHole, MoreSegments, FreeTop, FlexBlock, Unused}
pub use Rattle.rh_figure.specs.declared.piece.Piece.{Piece}

-- the pieces lie one after the other between two offsets
abbrev pub Tile : ℕ → ℕ → List Piece → Type 0
Tile low high [] = low ≡ high
Tile low high (p ∷ ps) = (p.at ≡ low) × Tile (low + p.size) high ps

-- ---- heaps

-- What a used segment is, by the address of its block and its size, and whether it has changed; and whether a block was
-- taken from among free bytes, by their address and how many they are.
pub record Legend : Type 0 where
  pub start : ℕ
  pub kind_of : ℕ → ℕ → Kind
  pub is_fresh : ℕ → Bool
  pub is_vacated : ℕ → ℕ → Bool

-- whether the block that was released, or moved away, lay among n bytes at an address of a heap
abbrev pub vacates : ℕ → ℕ → ℕ → HeapEffect → Bool
vacates h a n (Released owner at) = owner == h && (nat_le a at && nat_lt at (a + n))
vacates h a n (Resized owner from to) = owner == h && (nat_le a from && nat_lt from (a + n))
vacates h a n _ = false

abbrev pub segment_piece : Legend → ℕ → Segment → Piece
segment_piece g p (Used bytes) = record {
  kind = g.kind_of (g.start + p + 4) (length bytes);
  at = p;
  size = 4 + length bytes;
  fresh = g.is_fresh (g.start + p + 4);
}
segment_piece g p (Hole size) = record {
  kind = FreeHole;
  at = p;
  size = size;
  fresh = g.is_vacated (g.start + p) size;
}

-- segments that lie from an offset on
abbrev pub segment_pieces : Legend → ℕ → List Segment → List Piece
segment_pieces g p [] = []
segment_pieces g p (s ∷ segments) = segment_piece g p s ∷ segment_pieces g (p + size_of s) segments

-- segments that aren't drawn one by one
abbrev pub more_pieces : ℕ → List Segment → List Piece
more_pieces p [] = []
more_pieces p (s ∷ segments) = record {
  kind = MoreSegments (length (s ∷ segments));
  at = p;
  size = total size_of (s ∷ segments);
  fresh = false;
} ∷ []

-- a heap at an offset of an area
abbrev pub heap_pieces : Legend → ℕ → Heap → List Piece
heap_pieces g at h =
    record { kind = Descriptor; at = at; size = first_place; fresh = false }
    ∷ (
    segment_pieces g (at + first_place) (take MOST_SEGMENTS h.segments)
    ++ more_pieces (at + first_place + total size_of (take MOST_SEGMENTS h.segments)) (drop MOST_SEGMENTS h.segments)
    ++ record {
      kind = FreeTop;
      at = at + base h;
      size = h.end - base h;
      fresh = g.is_vacated (g.start + (at + base h)) (h.end - base h);
    } ∷ []
    )

-- ---- slots

-- whether the flex block of a task is the one that was written to
abbrev pub is_put : ℕ → ℕ → Option (ℕ × ℕ) → Bool
is_put h k None = false
is_put h k (Some b) = b.0 == h && b.1 == k

-- whether a block of that anchor and size was there
abbrev pub had_block : ℕ → ℕ → List BlockItem → Bool
had_block k n before = list_any (λ (b : BlockItem). b.anchor == k && b.size == n) before

-- whether the block of a task with an anchor and a size was written to, or is the named task's and wasn't there before
abbrev pub is_fresh_flex : Scene → ℕ → ℕ → ℕ → Bool
is_fresh_flex x h k n =
    is_put h k x.marks.put || (h == x.marks.handle && not (had_block k n x.before.blocks))

-- whether the command made or changed the block of the C heap
abbrev pub is_fresh_block : Scene → ℕ → ℕ → Bool
is_fresh_block x h address = x.marks.heap.0 == h && x.marks.heap.1 == address

-- a flex block of so many bytes at an offset
abbrev pub flex_piece : ℕ → ℕ → ℕ → Bool → Piece
flex_piece p k n fresh = record { kind = FlexBlock k n; at = p; size = flex_weight n; fresh = fresh }

-- flex blocks that lie from an offset on
abbrev pub flex_pieces : Scene → ℕ → ℕ → List Flex → List Piece
flex_pieces x h p [] = []
flex_pieces x h p (b ∷ blocks) =
    flex_piece p b.anchor (length b.bytes) (is_fresh_flex x h b.anchor (length b.bytes))
    ∷ flex_pieces x h (p + weight b) blocks

abbrev pub slot_legend : Scene → ℕ → Legend
slot_legend x h = record {
  start = slot_start;
  kind_of = λ _ n. Claimed n;
  is_fresh = is_fresh_block x h;
  is_vacated = λ a n. vacates h a n x.marks.heap_effect;
}

-- anchor words, C heap, flex blocks, and what is unused of the last page
abbrev pub slot_pieces : Scene → ℕ → Slot → List Piece
slot_pieces x h s =
    record { kind = AnchorWords; at = 0; size = C_HEAP_PLACE; fresh = false }
    ∷ (
    heap_pieces (slot_legend x h) C_HEAP_PLACE s.heap
    ++ flex_pieces x h (C_HEAP_PLACE + s.heap.end) s.blocks
    ++ record { kind = Unused; at = slot_length s; size = page_size * slot_pages s - slot_length s; fresh = false } ∷ []
    )

-- ---- the module area

abbrev pub posted_or : ℕ → Option Parcel → Kind
posted_or n None = Claimed n
posted_or n (Some p) = Posted p.message.my_ref

-- whether the message was sent by this command
abbrev pub is_new_message : Scene → Option Parcel → Bool
is_new_message x None = false
is_new_message x (Some p) = p.message.my_ref == x.before.next_ref

abbrev pub module_legend : Scene → Legend
module_legend x = record {
  start = module_start;
  kind_of = λ address n. posted_or n (message_of_scene x (address - module_start));
  is_fresh = λ address. x.marks.module_block == address || is_new_message x (message_of_scene x (address - module_start));
  is_vacated = λ a n. vacates 0 a n x.marks.heap_effect;
}

abbrev pub module_pieces : Scene → List Piece
module_pieces x = heap_pieces (module_legend x) 0 x.desk.post.heap
