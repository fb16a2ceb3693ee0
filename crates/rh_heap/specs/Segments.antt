-- Where a walk over a heap's segments has come to, and the segment that it found.
use Rattle.std.specs.Prelude.{◌≡◌, ◌≢◌, ℕ, ◌+◌, ◌<◌, ◌≤◌, ◌%◌, Bool, true, false, List, [], ◌∷◌, ◌++◌, length, Some}
use Rattle.rh_defs.specs.Pieces.{Split, total}
use Rattle.rh_defs.specs.Heap.{Segment, Used, Hole, Heap, IsTidy, size_of, base, place_after, block_at, segment_at}
use Rattle.rh_heap.specs.declared.layout.Segment as layout
use Rattle.rh_heap.specs.declared.span.segments.Spot.{Spot}
use Rattle.rh_heap.specs.declared.span.holes.Gap.{Gap}
use Rattle.rh_defs.specs.HeapParts.{last_link, LinksTo}
use Rattle.rh_defs.specs.declared.sizes.TheConstants.{HEAP_FIRST, HEAP_FREE, HEAP_UNIT, WORD}
use Rattle.rh_heap.specs.declared.layout.TheConstants.{BLOCK}

-- the hole just before a place, if there is one, and the links before it and behind it
pub data GapIs (low place link from : ℕ) : List Segment → Type 0 where
  no_gap : low ≡ place → from ≡ link → GapIs low place link from []
  a_gap : (size : ℕ) → place ≡ low + size → from ≡ low → GapIs low place link from (Hole size ∷ [])

-- The walk has passed some segments, of which the last may be a hole.
pub record Reached (at : ℕ) (h : Heap) (link low from place : ℕ) : Type 0 where
  pub front : List Segment
  pub gap : List Segment
  pub rest : List Segment
  pub is : h.segments ≡ (front ++ gap) ++ rest
  pub gap_is : GapIs low place link from gap
  pub low_is : low ≡ HEAP_FIRST + total size_of front
  pub link_is : at + link ≡ last_link (at + HEAP_FREE) (at + HEAP_FIRST) front
  pub place_is : place ≡ HEAP_FIRST + total size_of (front ++ gap)
  pub from_is : at + from ≡ last_link (at + HEAP_FREE) (at + HEAP_FIRST) (front ++ gap)
  pub tidy : IsTidy false front
  pub link_below : link + WORD ≤ low
  pub behind : from + WORD ≤ place
  pub inside : place ≤ base h

-- a segment and its size
pub data HereIs (size : ℕ) : Bool → Segment → Type 0 where
  used_here : (bytes : List ℕ) → size ≡ BLOCK + length bytes → HereIs size true (Used bytes)
  hole_here : (n : ℕ) → size ≡ n → HereIs size false (Hole n)

-- the segment to which a walk has come
pub record Met (at : ℕ) (h : Heap) (spot : Spot) : Type 0 where
  pub reached : Reached at h spot.link spot.low spot.from spot.place
  pub here : Segment
  pub after : List Segment
  pub rest_is : reached.rest ≡ here ∷ after
  pub here_is : HereIs spot.size spot.used here
  pub size_fits : spot.place + spot.size ≤ base h
  pub least : HEAP_UNIT ≤ spot.size

-- the segment at a place
pub record FoundSegment (at : ℕ) (h : Heap) (target : ℕ) (spot : Spot) : Type 0 where
  pub met : Met at h spot
  pub place_is : spot.place ≡ target
  pub found : segment_at target h ≡ Some (record { before = met.reached.front ++ met.reached.gap; here = met.here; after = met.after })

-- no hole from the link at `from` on begins at the target or below it
pub record NoHole (b : List ℕ) (at from target : ℕ) : Type 0 where
  pub next : ℕ
  pub links : LinksTo b at (at + from) next
  pub beyond : next ≢ 0 → target < next

-- a hole as a segment; no hole stands just before it
abbrev pub hole_spot : Gap → Spot
hole_spot gap = record { place = gap.place; size = gap.size; used = false; from = gap.from; low = gap.place; link = gap.from }

-- the last hole that begins at the target or below it
pub record LastHole (b : List ℕ) (at : ℕ) (h : Heap) (target : ℕ) (gap : Gap) : Type 0 where
  pub met : Met at h (hole_spot gap)
  pub from_on : gap.place ≤ target
  pub no_more : NoHole b at gap.place target

-- the segment of the block at an address
pub record FoundBlock (at : ℕ) (h : Heap) (address : ℕ) (spot : Spot) : Type 0 where
  pub reached : Reached at h spot.link spot.low spot.from spot.place
  pub bytes : List ℕ
  pub after : List Segment
  pub rest_is : reached.rest ≡ Used bytes ∷ after
  pub size_is : spot.size ≡ BLOCK + length bytes
  pub address_is : spot.place + BLOCK ≡ address
  pub found : block_at address h ≡ Some (record { before = reached.front ++ reached.gap; here = Used bytes; after = after })
  pub size_fits : spot.place + spot.size ≤ base h
  pub least : HEAP_UNIT ≤ spot.size
  pub multiple : spot.size % HEAP_UNIT ≡ 0

abbrev pub is_used_segment : Segment → Bool
is_used_segment (Used bytes) = true
is_used_segment (Hole size) = false

-- the segment at a cut
abbrev pub piece : Split Segment → layout.Segment
piece s = record { place = place_after s.before; size = size_of s.here; used = is_used_segment s.here }
