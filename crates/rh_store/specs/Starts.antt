-- The map of where a heap's segments begin, and when the map that a store keeps is that of the heap in the bytes.
use Rattle.std.specs.Prelude.{◌≡◌, ◌≢◌, ℕ, ◌+◌, ◌*◌, ◌/◌, ◌%◌, ◌^◌, ◌<◌, ◌≤◌, ◌==◌, if◌then◌else◌, true, List, [], ◌∷◌, length, take, drop, slice_index}
use Rattle.std.specs.Int.{bit_at}
use Rattle.rh_defs.specs.Heap.{Segment, Used, Hole, Heap, first_place}
use Rattle.rh_defs.specs.HeapImage.{Spells, heap_of}
use Rattle.rh_defs.specs.declared.sizes.TheConstants.{HEAP_UNIT}
use Rattle.rh_peaks.specs.Peaks.{HasWidth}
use Rattle.rh_store.specs.Tracts.{ArePeaks}
use Rattle.rh_store.specs.declared.starts.Starts.{Starts}
use Rattle.rh_store.specs.declared.starts.TheConstants.{USED, HOLES, LINE_BYTES, TRACT_BYTES, BITS}

-- bit k of a lane: each line of a map has a word of 64 bits for each of the two lanes
abbrev pub bit : ℕ → List ℕ → ℕ → ℕ
bit lane starts k = bit_at (slice_index starts (2 * (k / BITS) + lane)) (k % BITS)

-- 1 where these are one place, else 0
abbrev pub once : ℕ → ℕ → ℕ
once p q = if p == q then 1 else 0

-- how many used segments begin at place p, of those that stand from place q on: 1 or 0
abbrev pub used_at : ℕ → ℕ → List Segment → ℕ
used_at p q [] = 0
used_at p q (Used bytes ∷ segments) = once p q + used_at p (q + (4 + length bytes)) segments
used_at p q (Hole size ∷ segments) = used_at p (q + size) segments

-- how many holes begin there
abbrev pub hole_at : ℕ → ℕ → List Segment → ℕ
hole_at p q [] = 0
hole_at p q (Used bytes ∷ segments) = hole_at p (q + (4 + length bytes)) segments
hole_at p q (Hole size ∷ segments) = once p q + hole_at p (q + size) segments

-- A map has lines for all of the heap. Bit k is set in one lane just where a used segment begins at place 8k, and in the other just where a hole does.
pub record IsIndex (starts : List ℕ) (h : Heap) : Type 0 where
  pub long : h.end ≤ LINE_BYTES * (length starts / 2)
  pub used : (k : ℕ) → bit USED starts k ≡ used_at (HEAP_UNIT * k) first_place h.segments
  pub holes : (k : ℕ) → bit HOLES starts k ≡ hole_at (HEAP_UNIT * k) first_place h.segments

-- the words of a map are a heap's: up to one of them its lines, and from there on the numbers of its tracts, if any
pub record AreRowsOf (words : List ℕ) (split : ℕ) (h : Heap) : Type 0 where
  pub within : split ≤ length words
  pub starts : IsIndex (take split words) h
  pub peaks : ArePeaks (drop split words) h

-- the bytes from an offset on spell a heap up to another one, and the words of a map are that heap's
pub record IsMapOf (words : List ℕ) (split : ℕ) (b : List ℕ) (at upper : ℕ) : Type 0 where
  pub spells : Spells b at (heap_of b at)
  pub upper_is : upper ≡ at + (heap_of b at).end
  pub rows : AreRowsOf words split (heap_of b at)

-- where the words of a map are said to be up to date, they are
abbrev pub IsKept : {L : Type 0} → (L → List ℕ) → List ℕ → Starts L → Type 0
IsKept words b s = s.known ≡ true → IsMapOf (words s.lines) s.split b s.at s.upper

-- the words of a map are lines for so many bytes up to one of them, and from there on no numbers, or numbers for the tracts of so many bytes
pub record HasRows (words : List ℕ) (split n : ℕ) : Type 0 where
  pub within : split ≤ length words
  pub lines : n ≤ LINE_BYTES * (split / 2)
  pub width : HasWidth (length (drop split words))
  pub few : length (drop split words) < 2 ^ 40
  pub tracts : length (drop split words) ≢ 0 → n ≤ TRACT_BYTES * (length (drop split words) / 2)
