-- The bytes that spell a heap, and the first fault of bytes that spell none. Read Bytes and Heap first.
-- b is the bytes, p the place of a segment, f the place of the link that leads to the next hole, k at most so many
-- steps. A hole has its link and then its size, a used segment its size and then its block. A link counts from its own
-- place. Only sizes of 4 at least spell a used segment: `-` of naturals stops at 0 below, in bytes that spell no heap.
use Rattle.std.specs.Prelude.{◌≡◌, ℕ, zero, suc, ◌+◌, ◌-◌, ◌%◌, ◌≤◌, ◌==◌, Bool, nat_le, nat_lt, ◌&&◌, ◌||◌, if◌then◌else◌, List, [], ◌∷◌, length, Option, Some, None}
use Rattle.rh_defs.specs.Bytes.{word, part}
use Rattle.rh_defs.specs.Heap.{Segment, Used, Hole, Heap, IsHeap, base, first_place}
use Rattle.rh_defs.specs.declared.heap.HeapFault.{HeapFault}
use Rattle.rh_defs.specs.declared.heap.HeapFault.TheVariants.{BadSize, BadDescriptor, BadLink}
use Rattle.rh_defs.specs.declared.sizes.TheConstants.{HEAP_WORD}

-- The segments stand in the bytes from place p on. The link at place f leads to their first hole, each hole's to the next, and the last link is 0.
abbrev pub Stand : List ℕ → ℕ → ℕ → List Segment → Type 0
Stand b f p [] = word b f ≡ 0
Stand b f p (Used bytes ∷ segments) =
    (word b p ≡ 4 + length bytes) × (part b (p + 4) (length bytes) ≡ bytes) × Stand b f (p + (4 + length bytes)) segments
Stand b f p (Hole size ∷ segments) = (f + word b f ≡ p) × (word b (p + 4) ≡ size) × Stand b p (p + size) segments

-- the bytes `Heap`
abbrev pub special_word : ℕ
special_word = HEAP_WORD

-- the bytes from a place on spell the heap: its descriptor of four words, and its segments
pub record Spells (b : List ℕ) (at : ℕ) (h : Heap) : Type 0 where
  pub heap : IsHeap h
  pub within : at + h.end ≤ length b
  pub special : word b at ≡ special_word
  pub base : word b (at + 8) ≡ base h
  pub last : word b (at + 12) ≡ h.end
  pub stand : Stand b (at + 4) (at + first_place) h.segments

-- the bytes are those of a heap, and no more
pub record IsImage (b : List ℕ) (h : Heap) : Type 0 where
  pub whole : length b ≡ h.end
  pub spells : Spells b 0 h

-- The segments that stand in n bytes from place p on, where f is the place of the link before them. The first argument bounds how many.
unfoldable pub segments_read : ℕ → List ℕ → ℕ → ℕ → ℕ → List Segment
segments_read zero b f p n = []
segments_read (suc k) b f p zero = []
segments_read (suc k) b f p (suc n) =
    if f + word b f == p then Hole (word b (p + 4)) ∷ segments_read k b p (p + word b (p + 4)) (suc n - word b (p + 4))
    else Used (part b (p + 4) (word b p - 4)) ∷ segments_read k b f (p + word b p) (suc n - word b p)

-- the heap that the bytes from a place on spell, if they spell one
unfoldable pub heap_of : List ℕ → ℕ → Heap
heap_of b at = record {
  segments = segments_read (length b) b (at + 4) (at + first_place) (word b (at + 8) - first_place);
  end = word b (at + 12);
}

-- ---- faults

abbrev pub is_multiple : ℕ → Bool
is_multiple n = n % 8 == 0

abbrev pub is_size : ℕ → Bool
is_size n = nat_lt 0 n && is_multiple n

-- whether the link at place f is 0, or leads to a place from p on where a hole has room below base
abbrev pub is_link : List ℕ → ℕ → ℕ → ℕ → Bool
is_link b base f p =
    word b f == 0 || (is_multiple (f + word b f) && nat_le p (f + word b f) && nat_le (f + word b f + 8) base)

-- where the next hole stands, or base
abbrev pub next_place : List ℕ → ℕ → ℕ → ℕ
next_place b base f = if word b f == 0 then base else f + word b f

-- the first fault of the segments that stand from place p on; the first argument bounds how many
unfoldable pub fault_from : ℕ → List ℕ → ℕ → ℕ → ℕ → Option HeapFault
fault_from zero b base f p = None
fault_from (suc k) b base f p =
    if nat_le base p then None
    else if nat_lt p (next_place b base f) then
    (if is_size (word b p) && nat_le (p + word b p) (next_place b base f) then fault_from k b base f (p + word b p)
    else Some BadSize)
    else if is_size (word b (p + 4)) && nat_lt (p + word b (p + 4)) base then
    (if is_link b base p (p + word b (p + 4) + 1) then fault_from k b base p (p + word b (p + 4)) else Some BadLink)
    else Some BadSize

-- whether the length and the words at 0, 8 and 12 are those of a heap
abbrev pub has_descriptor : List ℕ → Bool
has_descriptor b =
    is_multiple (length b) && nat_le first_place (length b) && word b 0 == special_word && word b 12 == length b
    && is_multiple (word b 8) && nat_le first_place (word b 8) && nat_le (word b 8) (length b)

-- the first fault: of the descriptor, then of the link to the first hole, then place by place
unfoldable pub fault_of : List ℕ → Option HeapFault
fault_of b =
    if has_descriptor b then
    (if is_link b (word b 8) 4 first_place then fault_from (length b) b (word b 8) 4 first_place else Some BadLink)
    else Some BadDescriptor
