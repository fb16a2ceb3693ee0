-- Stretches of a heap's bytes that stand open between its segments, and how they become holes.
use Rattle.std.specs.Prelude.{◌≡◌, ◌≢◌, ℕ, ◌+◌, ◌-◌, ◌%◌, ◌≤◌, false, List, ◌++◌, length}
use Rattle.rh_defs.specs.Bytes.{word}
use Rattle.rh_defs.specs.Pieces.{total}
use Rattle.rh_defs.specs.Heap.{Segment, IsTidy, size_of, with_hole}
use Rattle.rh_defs.specs.HeapImage.{Spells}
use Rattle.rh_defs.specs.HeapParts.{HasStretch}
use Rattle.rh_heap.specs.declared.span.stretch.Stretch.{Stretch}
use Rattle.rh_defs.specs.declared.sizes.TheConstants.{HEAP_BASE, HEAP_FIRST, HEAP_FREE, HEAP_UNIT, WORD}

-- The stretch stands open between segments that are right, and the base is that above the last of them.
pub record StretchBetween (b : List ℕ) (at end : ℕ) (xs ys : List Segment) (stretch : Stretch) : Type 0 where
  pub has : HasStretch b at end xs ys (at + stretch.link) (at + stretch.low) stretch.next (at + stretch.upper)
  pub based : word b (at + HEAP_BASE) ≡ stretch.upper + total size_of ys
  pub multiple : (stretch.upper - stretch.low) % HEAP_UNIT ≡ 0
  pub tidy_before : IsTidy false xs
  pub tidy_behind : IsTidy false ys

-- There are such segments. The numbers say how the stretch lies in the area.
pub record IsStretch (b : List ℕ) (at : ℕ) (stretch : Stretch) : Type 0 where
  pub end : ℕ
  pub before : List Segment
  pub behind : List Segment
  pub between : StretchBetween b at end before behind stretch
  pub least : HEAP_FREE ≤ stretch.link
  pub link_below : stretch.link + WORD ≤ stretch.low
  pub above : HEAP_FIRST ≤ stretch.low
  pub order : stretch.low ≤ stretch.upper
  pub inside : at + stretch.upper ≤ length b
  pub next_ahead : stretch.next ≢ 0 → stretch.upper ≤ stretch.next
  pub next_inside : at + stretch.next ≤ length b

-- a hole in the place of the stretch, for all segments round it
abbrev pub Settles : List ℕ → List ℕ → ℕ → Stretch → Type 0
Settles b c at stretch = (end : ℕ) (xs ys : List Segment) → StretchBetween b at end xs ys stretch
    → Spells c at (record { segments = xs ++ with_hole (stretch.upper - stretch.low) ys; end = end })
