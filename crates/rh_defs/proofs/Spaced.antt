-- Blocks that lie one after the other are apart.
use Rattle.rh_defs.proofs.Common.{ℕ, ◌+◌, ◌*◌, ◌/◌, ◌≤◌, arith, List, [], ◌∷◌, ◌++◌, length, inl, AllByRecursion, total, page_size, Heap, Segment, Used, Hole}
use Rattle.rh_defs.proofs.Common.{size_of, first_place, Slot, Flex, IsSlot, weight, heap_start, flex_start, slot_pages, FillsPages, Desk, IsDesk}
use Rattle.rh_defs.specs.Slot.{slot_start}
use Rattle.rh_defs.specs.Desk.{module_start}
use Rattle.rh_defs.specs.Spans.{Span, heap_spans, flex_spans, slot_spans, module_spans, IsApart, AreApart, IsWithin, AreLaidOut}
use Rattle.rh_defs.specs.Laws.{IsBalanced, HasApartBlocks, Always}
use Rattle.rh_defs.proofs.Lists.{all-mono, all-join}
use Rattle.rh_defs.proofs.Steps.{after-is, start-is}

-- within a wider range
pub widened : (a b c d : ℕ) (spans : List Span) → c ≤ a → b ≤ d → AllByRecursion (IsWithin a b) spans → AllByRecursion (IsWithin c d) spans
widened a b c d spans low high all = all-mono (λ span w. (omega (arith, w.0), omega (arith, w.1))) spans all

pub flex_spans-within : (place : ℕ) (blocks : List Flex) → AllByRecursion (IsWithin place (place + total weight blocks)) (flex_spans place blocks)
flex_spans-within place [] = tt
flex_spans-within place (b ∷ blocks) = (
  (omega arith, omega arith),
  widened _ _ _ _ (flex_spans (place + weight b) blocks) (omega arith) (omega arith) (flex_spans-within (place + weight b) blocks),
)

-- a span that ends where others begin
pub before-all : (a : Span) (from to : ℕ) (spans : List Span) → a.start + a.size ≤ from → AllByRecursion (IsWithin from to) spans
    → AllByRecursion (IsApart a) spans
before-all a from to spans h all = all-mono (λ span w. inl (omega (arith, w.0))) spans all

pub flex_spans-apart : (place : ℕ) (blocks : List Flex) → AreApart (flex_spans place blocks)
flex_spans-apart place [] = tt
flex_spans-apart place (b ∷ blocks) =
    (before-all _ _ _ _ (omega arith) (flex_spans-within (place + weight b) blocks), flex_spans-apart (place + weight b) blocks)

pub heap_spans-within : (place : ℕ) (segments : List Segment) → AllByRecursion (IsWithin place (place + total size_of segments)) (heap_spans place segments)
heap_spans-within place [] = tt
heap_spans-within place (Used bytes ∷ segments) = (
  (omega arith, omega arith),
  widened _ _ _ _ (heap_spans (place + (4 + length bytes)) segments) (omega arith) (omega arith) (heap_spans-within (place + (4 + length bytes)) segments),
)
heap_spans-within place (Hole size ∷ segments) =
    widened _ _ _ _ (heap_spans (place + size) segments) (omega arith) (omega arith) (heap_spans-within (place + size) segments)

pub heap_spans-apart : (place : ℕ) (segments : List Segment) → AreApart (heap_spans place segments)
heap_spans-apart place [] = tt
heap_spans-apart place (Used bytes ∷ segments) =
    (before-all _ _ _ _ (omega arith) (heap_spans-within (place + (4 + length bytes)) segments), heap_spans-apart (place + (4 + length bytes)) segments)
heap_spans-apart place (Hole size ∷ segments) = heap_spans-apart (place + size) segments

-- ---- two lists, of which the first ends where the second begins

pub apart-join : (from between to : ℕ) (spans more : List Span) → AllByRecursion (IsWithin from between) spans → AllByRecursion (IsWithin between to) more
    → AreApart spans → AreApart more → AreApart (spans ++ more)
apart-join from between to [] more f g p q = q
apart-join from between to (a ∷ spans) more f g p q =
    (all-join (IsApart a) spans more p.0 (before-all a between to more f.0.1 g), apart-join from between to spans more f.1 g p.1 q)

pub slot-laid_out : (s : Slot) → IsSlot s → AreLaidOut slot_start (page_size * slot_pages s) (slot_spans s)
slot-laid_out s is =
    let lower = widened _ _ heap_start (flex_start s) (heap_spans (heap_start + first_place) s.heap.segments) (omega arith) (omega (arith, is.heap.fits))
    (heap_spans-within (heap_start + first_place) s.heap.segments) in
    let upper = flex_spans-within (flex_start s) s.blocks in
    record {
      apart = apart-join heap_start (flex_start s) (flex_start s + total weight s.blocks) _ _ lower upper
          (heap_spans-apart (heap_start + first_place) s.heap.segments) (flex_spans-apart (flex_start s) s.blocks);
      within = all-join (IsWithin slot_start (slot_start + page_size * slot_pages s)) _ _
          (widened _ _ _ _ (heap_spans (heap_start + first_place) s.heap.segments) (omega arith) (omega arith) lower)
          (widened _ _ _ _ (flex_spans (flex_start s) s.blocks) (omega arith) (omega arith) upper);
    }

-- the module area's blocks lie below its heap's end, which is its length
pub module-laid_out : (h : Heap) → FillsPages h → AreLaidOut module_start (page_size * (h.end / page_size)) (module_spans h)
module-laid_out h is = record {
  apart = heap_spans-apart (module_start + first_place) h.segments;
  within =
      widened _ _ _ _ (heap_spans (module_start + first_place) h.segments) (omega arith) (omega (arith, is.heap.fits, is.whole))
      (heap_spans-within (module_start + first_place) h.segments);
}

-- ---- of each desk of a run

pub apart-of : (d : Desk) → IsDesk d → HasApartBlocks d
apart-of d is = record { slots = all-mono (λ t. slot-laid_out t.slot) d.tasks is.slots; module_area = module-laid_out d.post.heap is.post.heap }

pub balanced-of : (d : Desk) → IsDesk d → IsBalanced d
balanced-of d is = omega (arith, is.pages)

pub always-is : Always IsDesk
always-is pool handle ref files commands from ranged = after-is _ commands ranged (start-is pool handle ref files from)

pub always-apart : Always HasApartBlocks
always-apart pool handle ref files commands from ranged = apart-of _ (always-is pool handle ref files commands from ranged)

pub always-balanced : Always IsBalanced
always-balanced pool handle ref files commands from ranged = balanced-of _ (always-is pool handle ref files commands from ranged)
