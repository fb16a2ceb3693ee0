-- A heap as the map from addresses to bytes that a transfer rests on.
use Rattle.rh_safety.proofs.Common.{◌≡◌, ℕ, ◌+◌, ◌≤◌, List, [], ◌∷◌, length, Option, Some, None, Split, with_here, put, Segment, Used, Hole, Heap, Placed}
use Rattle.rh_safety.proofs.Common.{Way, Stays, Shrinks, GrowsIntoHole, GrowsAtTop, MovesToHole, MovesToTop}
use Rattle.rh_defs.specs.Blocks as blocks

-- the bytes of the block at an address, of segments that begin at a place
abbrev pub bytes_at : ℕ → List Segment → ℕ → Option (List ℕ)
bytes_at place segments a = blocks.bytes_at a place segments

-- a heap as a map from addresses to the bytes of blocks
abbrev pub heap_map : Heap → ℕ → Option (List ℕ)
heap_map h a = blocks.block_bytes a h

-- a cut of a heap's segments
pub record CutOf (h : Heap) (s : Split Segment) : Type 0 where
  pub whole : with_here s s.here ≡ h.segments

-- a hole that is large enough
pub record HoleFor (n : ℕ) (h : Heap) (s : Split Segment) : Type 0 where
  pub size : ℕ
  pub cut : CutOf h s
  pub here : s.here ≡ Hole size
  pub room : 4 + n ≤ size

-- a block with these bytes at the cut
pub record BlockOf (bytes : List ℕ) (h : Heap) (s : Split Segment) : Type 0 where
  pub cut : CutOf h s
  pub here : s.here ≡ Used bytes

-- a claim writes one place of the map, which was free
pub record IsClaimed (h : Heap) (p : Placed) (bytes : List ℕ) : Type 0 where
  pub free : heap_map h p.address ≡ None
  pub written : (a : ℕ) → heap_map p.heap a ≡ put (heap_map h) p.address (Some bytes) a

-- a release clears one place
abbrev pub IsReleased : Heap → Heap → ℕ → Type 0
IsReleased h after address = (a : ℕ) → heap_map after a ≡ put (heap_map h) address None a

-- a block gone from one address and then there at another, or the same one, which was free by then
pub record IsMoved (h after : Heap) (old new : ℕ) (bytes : List ℕ) : Type 0 where
  pub free : put (heap_map h) old None new ≡ None
  pub moved : (a : ℕ) → heap_map after a ≡ put (put (heap_map h) old None) new (Some bytes) a

-- what a way wants of the block at the cut and of its new bytes; a block that stays is not moved
abbrev pub CanGo : Way → List ℕ → List ℕ → Heap → Split Segment → Type 0
CanGo Stays old bytes h s = bytes ≡ old
CanGo Shrinks old bytes h s = length bytes ≤ length old
CanGo (GrowsIntoHole size rest) old bytes h s = (s.after ≡ Hole size ∷ rest) × (length bytes ≤ length old + size)
CanGo GrowsAtTop old bytes h s = s.after ≡ []
CanGo (MovesToHole hole) old bytes h s = HoleFor (length bytes) h hole
CanGo MovesToTop old bytes h s = Unit {0}
