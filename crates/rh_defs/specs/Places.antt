-- Bytes at addresses of a slot, and the anchors without a block. Read Slot first.
-- x and y are addresses, n and m numbers of bytes, k an anchor, s a slot, b a cut at the block that holds the bytes.
-- `-` of naturals stops at 0: an address below the C heap becomes 0 there, where no block is. A block that was found
-- holds the address, which makes the offset in it exact.
use Rattle.std.specs.Prelude.{ℕ, zero, suc, ◌+◌, ◌-◌, Bool, ◌&&◌, nat_lt, nat_le, if◌then◌else◌, List, [], length, take, drop, Option, Some, None}
use Rattle.rh_defs.specs.Pieces.{Split, with_here, written}
use Rattle.rh_defs.specs.Heap.{Segment, Used, bytes_of, place_after, block_around}
use Rattle.rh_defs.specs.Slot.{Slot, Flex, heap_start, flex_address, flex_around, heap_block_at, is_used, with_block_bytes, with_heap, anchor_count}

-- the slot with bytes written into the block of its C heap at the cut, from an offset on
abbrev pub with_heap_bytes : Split Segment → ℕ → List ℕ → Slot → Slot
with_heap_bytes b offset bytes s =
    with_heap (record s.heap { segments = with_here b (Used (written (bytes_of b.here) offset bytes)) }) s

-- a block, where it has so many bytes
abbrev pub roomy_in : ℕ → Option (Split Segment) → Option (Split Segment)
roomy_in n None = None
roomy_in n (Some b) = if nat_le n (length (bytes_of b.here)) then Some b else None

-- the block of the C heap at an address, where it has so many bytes
abbrev pub buffer_at : ℕ → ℕ → Slot → Option (Split Segment)
buffer_at address n s = roomy_in n (heap_block_at address s)

-- the slot with bytes written at an address, in the block of the C heap that holds them
abbrev pub written_heap : ℕ → List ℕ → Option (Split Segment) → Slot → Slot
written_heap x bytes None s = s
written_heap x bytes (Some b) s = with_heap_bytes b (x - (heap_start + place_after b.before + 4)) bytes s

-- the slot with bytes written at an address: in the flex block that holds them where there is one, else in the C heap's
abbrev pub written_around : ℕ → List ℕ → Option (Split Flex) → Slot → Slot
written_around x bytes None s = written_heap x bytes (block_around (x - heap_start) (length bytes) s.heap) s
written_around x bytes (Some b) s = with_block_bytes b (written b.here.bytes (x - flex_address s b.before) bytes) s

-- the slot with bytes written at an address: into the block of the C heap there, else into any block that holds them
abbrev pub written_in : ℕ → List ℕ → Option (Split Segment) → Slot → Slot
written_in x bytes (Some b) s = with_heap_bytes b 0 bytes s
written_in x bytes None s = written_around x bytes (flex_around x (length bytes) s) s

-- n bytes at an address, of the block of the C heap that holds them
abbrev pub bytes_in_heap : ℕ → ℕ → Option (Split Segment) → List ℕ
bytes_in_heap x n None = []
bytes_in_heap x n (Some b) = take n (drop (x - (heap_start + place_after b.before + 4)) (bytes_of b.here))

-- n bytes at an address: of the flex block that holds them where there is one, else of the C heap's
abbrev pub bytes_around : ℕ → ℕ → Slot → Option (Split Flex) → List ℕ
bytes_around x n s None = bytes_in_heap x n (block_around (x - heap_start) n s.heap)
bytes_around x n s (Some b) = take n (drop (x - flex_address s b.before) b.here.bytes)

-- n bytes at an address of a slot
abbrev pub bytes_held : ℕ → ℕ → Slot → List ℕ
bytes_held x n s = bytes_around x n s (flex_around x n s)

-- the slot with bytes written at an address, in the block that holds them
abbrev pub written_held : ℕ → List ℕ → Slot → Slot
written_held x bytes s = written_around x bytes (flex_around x (length bytes) s) s

-- whether n bytes at x and m bytes at y share one
abbrev pub overlap : ℕ → ℕ → ℕ → ℕ → Bool
overlap x n y m = nat_lt 0 n && nat_lt 0 m && nat_lt x (y + m) && nat_lt y (x + n)

-- the first n bytes of the block of the C heap at an address
abbrev pub first_bytes : ℕ → Option (Split Segment) → List ℕ
first_bytes n None = []
first_bytes n (Some b) = take n (bytes_of b.here)

-- the lowest anchor without a block, of so many from k on
abbrev pub free_from : ℕ → ℕ → Slot → Option ℕ
free_from k zero s = None
free_from k (suc rest) s = if is_used k s then free_from (k + 1) rest s else Some k

-- the lowest anchor without a block
abbrev pub free_anchor : Slot → Option ℕ
free_anchor s = free_from 0 anchor_count s
