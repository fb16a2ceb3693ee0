-- Where the bytes of a slot's blocks lie in its area.
use Rattle.rh_slot.proofs.Common.{◌≡◌, ℕ, ◌+◌, ◌-◌, ◌≤◌, inl, inr, List, ◌∷◌, ◌++◌, length, take, drop, refl, sym, ap, subst, ◌∙◌, arith, Ok, Some, IfSome}
use Rattle.rh_slot.proofs.Common.{part, Memory, bytes, Split, total, Segment, Used, Heap, size_of, bytes_of, base, block_at, Stand, Spells, Flex, weight}
use Rattle.rh_slot.proofs.Common.{flex_address, heap_block_at, slot_block, heap_start, slot_start, IsFree, flex_place, heap_place, sum-append, IsCut}
use Rattle.rh_slot.proofs.Common.{first_at-cuts, IsSlotIn, slot_in, FoundAt}
use Rattle.rh_defs.specs.Heap.{is_block_at}
use Rattle.rh_defs.specs.Slot as plain
use Rattle.rh_defs.proofs.BytesLaws.{part-part, part-drop}
use Rattle.rh_defs.proofs.BlockLaws.{block_cut}
use Rattle.rh_defs.proofs.HeapLaws.{Stand-split}
use Rattle.rh_defs.proofs.HeapLists.{total-append}
use Rattle.rh_defs.proofs.SlotLaws.{find}
use Rattle.rh_slot.specs.declared.slot.Slot.{Slot}
use Rattle.rh_slot.proofs.FlexLaws.{block_none, block_at as anchor_block}
use Rattle.rh_slot.proofs.EditLaws.{read_bytes}

-- these n bytes stand at a place that is not below a floor, and end below a ceiling
pub record Standing (b xs : List ℕ) (place n floor ceiling : ℕ) : Type 0 where
  pub is : xs ≡ part b place n
  pub low : floor ≤ place
  pub high : place + n ≤ ceiling

-- a block at a cut is its anchor's
pub cut_found : (s : plain.Slot) (k : ℕ) (cut : Split Flex) → s.blocks ≡ cut.before ++ cut.here ∷ cut.after → cut.here.anchor ≡ k → IsFree k cut.before
    → FoundAt k s (flex_place s + total weight cut.before) (length cut.here.bytes) cut
cut_found s k cut is e u =
    let sum : total weight s.blocks ≡ total weight cut.before + (weight cut.here + total weight cut.after) =
    ap (total weight) is ∙ sum-append weight cut.before (cut.here ∷ cut.after) in
    record { is = is; anchor = e; free = u; stands = refl; long = refl; low = omega arith; inside = omega arith }

-- the block that an anchor's calls find is at a cut
pub found_block : (s : plain.Slot) (k : ℕ) (cut : Split Flex) → slot_block k s ≡ Ok cut
    → FoundAt k s (flex_place s + total weight cut.before) (length cut.here.bytes) cut
found_block s k cut e = elim (find k s.blocks) [
  | inl u ↦ absurd (let x = block_none k s u in cc)
  | inr t ↦
      let c : Split Flex = record { before = t.before; here = t.here; after = t.after } in
      let f = cut_found s k c t.is t.anchor t.free in
      let x = anchor_block k s (flex_place s + total weight t.before) (length t.here.bytes) c f in
      let same : c ≡ cut = cc in
      subst (λ (d : Split Flex). FoundAt k s (flex_place s + total weight d.before) (length d.here.bytes) d) same f
]

-- bytes of a flex block
pub flex-part : (m : Memory) (self : Slot) (k offset n : ℕ) (b : Split Flex) → IsSlotIn m self → slot_block k (slot_in m self) ≡ Ok b
    → offset + n ≤ length b.here.bytes
    → Standing (bytes m self.area.0) (take n (drop offset b.here.bytes)) (flex_address (slot_in m self) b.before + offset - slot_start) n
    (flex_place (slot_in m self)) (length (bytes m self.area.0))
flex-part m self k offset n b s e h =
    let z = slot_in m self in
    let f = found_block z k b e in
    let w = s.spells.words in
    let within = w.within in
    let inside = f.inside in
    let place : flex_place z + total weight b.before + 8 + offset ≡ flex_address z b.before + offset - slot_start = omega arith in
    record {
      is = sym (read_bytes (bytes m self.area.0) z k (flex_place z + total weight b.before) (length b.here.bytes) offset n b w f h)
          ∙ ap (λ p. part (bytes m self.area.0) p n) place;
      low = omega arith;
      high = omega arith;
    }

-- a block of the C heap is at a cut
pub record HeapCut (h : Heap) (x : ℕ) (cut : Split Segment) : Type 0 where
  pub is : h.segments ≡ cut.before ++ Used (bytes_of cut.here) ∷ cut.after
  pub here : cut.here ≡ Used (bytes_of cut.here)
  pub stands : x ≡ 16 + total size_of cut.before + 4
  pub inside : x + length (bytes_of cut.here) ≤ base h

pub heap_cut : (h : Heap) (x : ℕ) (cut : Split Segment) → block_at x h ≡ Some cut → HeapCut h x cut
heap_cut h x cut e =
    let c : IsCut size_of (is_block_at x) 16 h.segments cut =
    subst (λ o. IfSome o (IsCut size_of (is_block_at x) 16 h.segments)) e (first_at-cuts size_of (is_block_at x) 16 h.segments) in
    let t = block_cut x (16 + total size_of cut.before) cut.here c.passes in
    let here : cut.here ≡ Used (bytes_of cut.here) = t.1 ∙ ap (λ g. Used (bytes_of g)) (sym t.1) in
    let is : h.segments ≡ cut.before ++ Used (bytes_of cut.here) ∷ cut.after = c.whole ∙ ap (λ g. cut.before ++ g ∷ cut.after) here in
    let stands = t.2 in
    let sum : total size_of h.segments ≡ total size_of cut.before + (4 + length (bytes_of cut.here) + total size_of cut.after) =
    ap (total size_of) is ∙ total-append cut.before (Used (bytes_of cut.here) ∷ cut.after) in
    record { is = is; here = here; stands = stands; inside = omega arith }

-- the bytes of a heap's block
pub cut_bytes : (b : List ℕ) (at : ℕ) (h : Heap) (x : ℕ) (cut : Split Segment) → Spells b at h → HeapCut h x cut
    → part b (at + x) (length (bytes_of cut.here)) ≡ bytes_of cut.here
cut_bytes b at h x cut s c =
    let t = Stand-split b (at + 4) (at + 16) cut.before (Used (bytes_of cut.here) ∷ cut.after) (subst (Stand b (at + 4) (at + 16)) c.is s.stand) in
    ap (λ p. part b p (length (bytes_of cut.here))) (let e = c.stands in omega arith) ∙ t.1.1

-- a block of the C heap is above the anchor words
pub heap-low : (m : Memory) (self : Slot) (a : ℕ) (b : Split Segment) → IsSlotIn m self → heap_block_at a (slot_in m self) ≡ Some b → heap_start ≤ a
heap-low m self a b s e =
    let c = heap_cut (slot_in m self).heap (a - heap_start) b e in
    let stands = c.stands in
    omega arith

-- the first bytes of a block of the C heap
pub heap-part : (m : Memory) (self : Slot) (a n : ℕ) (b : Split Segment) → IsSlotIn m self → heap_block_at a (slot_in m self) ≡ Some b
    → n ≤ length (bytes_of b.here)
    → (slot_start ≤ a) × Standing (bytes m self.area.0) (take n (bytes_of b.here)) (a - slot_start) n 0 (flex_place (slot_in m self))
heap-part m self a n b s e h =
    let z = slot_in m self in
    let w = s.spells.words in
    let c = heap_cut z.heap (a - heap_start) b e in
    let stands = c.stands in
    let inside = c.inside in
    let fits = w.heap.heap.fits in
    let whole = cut_bytes (bytes m self.area.0) heap_place z.heap (a - heap_start) b w.heap c in
    let place : heap_place + (a - heap_start) + 0 ≡ a - slot_start = omega arith in (
      omega arith,
      record {
        is = sym (ap (λ p. part (bytes m self.area.0) p n) (sym place) ∙ sym
            (part-part (bytes m self.area.0) (heap_place + (a - heap_start)) (length (bytes_of b.here)) 0 n (omega arith))
            ∙ ap (λ l. part l 0 n) whole ∙ part-drop (bytes_of b.here) 0 n (omega arith));
        low = omega arith;
        high = omega arith;
      },
    )
