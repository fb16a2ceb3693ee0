-- The holes that a search has passed.
use Rattle.std.specs.Prelude.{◌≡◌, ◌≢◌, ℕ, ◌==◌, if◌then◌else◌, ◌+◌, ◌*◌, ◌/◌, ◌%◌, ◌<◌, ◌≤◌, List, ◌++◌}
use Rattle.rh_defs.specs.Heap.{Segment, Heap, size_of, base, is_hole_for}
use Rattle.rh_defs.specs.HeapParts.{last_link}
use Rattle.rh_defs.specs.Inner.NonePassing.{NonePass}
use Rattle.rh_defs.specs.declared.sizes.TheConstants.{HEAP_FIRST, HEAP_FREE, HEAP_UNIT, WORD}
use Rattle.rh_store.specs.Starts.{bit}
use Rattle.rh_store.specs.declared.starts.TheConstants.{HOLES, TRACT_BYTES}

-- the same numbers with another one for a tract
abbrev pub with_number : ℕ → ℕ → (ℕ → ℕ) → ℕ → ℕ
with_number tract n most i = if i == tract then n else most i

-- the holes before a link are passed: none of them has room
pub record Passed (at : ℕ) (h : Heap) (t from : ℕ) : Type 0 where
  pub before : List Segment
  pub rest : List Segment
  pub is : h.segments ≡ before ++ rest
  pub link : at + from ≡ last_link (at + HEAP_FREE) (at + HEAP_FIRST) before
  pub none : NonePass size_of (is_hole_for t) HEAP_FIRST before
  pub inside : from + WORD ≤ base h

-- a link is the descriptor's, or that of a hole that begins before a tract
pub record IsLinkBefore (starts : List ℕ) (tract link : ℕ) : Type 0 where
  pub below : link ≢ HEAP_FREE → link < TRACT_BYTES * tract
  pub multiple : link ≢ HEAP_FREE → link % HEAP_UNIT ≡ 0
  pub marked : link ≢ HEAP_FREE → bit HOLES starts (link / HEAP_UNIT) ≡ 1
