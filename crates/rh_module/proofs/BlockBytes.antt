-- Blocks of the module area, by the bytes of the area.
use Rattle.rh_module.proofs.Common.{◌≡◌, ℕ, ◌+◌, ◌≤◌, inl, inr, eqb, List, [], ◌∷◌, length, sym, ap, subst, ◌∙◌, arith, Option, Some, Memory}
use Rattle.rh_module.proofs.Common.{IsOpen, bytes, Heap, IsImage, heap_of-Spells, IsModule, SpellsModuleIn, module_heap_in, Module, Span}
use Rattle.std.proofs.lemmas.Bool.{cases_eq}
use Rattle.rh_defs.specs.Bytes.{word, part, with_part, put_word, word_bytes}
use Rattle.rh_defs.specs.Memory.{with_bytes}
use Rattle.rh_defs.specs.Heap.{Segment, Used, Hole}
use Rattle.rh_defs.specs.HeapImage.{Stand}
use Rattle.rh_defs.proofs.BytesLaws.{length-put, word-part, part-part}
use Rattle.rh_defs.proofs.MemoryLaws.{bytes-with_bytes, IsOpen-with_bytes, OnlyArea-with_bytes, free-with_bytes}
use Rattle.rh_defs.proofs.HeapLists.{cond_true, cond_false, eqb_same, eqb_apart}
use Rattle.rh_defs.specs.Blocks.{bytes_at, block_bytes, poked, HasBlock, SameShape}
use Rattle.rh_module.specs.Writes.{Wrote}
use Rattle.rh_heap.specs.HeapSpans as spans
use Rattle.rh_defs.proofs.ShapeLaws.{poked-shape}
use Rattle.rh_module.proofs.SpanLaws.{span_of, is_span, old_heap}
use Rattle.rh_defs.proofs.BlockLaws.{range_at, IsImage-written}

standing : (b : List ℕ) (a f p : ℕ) (ss : List Segment) (bs : List ℕ) → bytes_at a p ss ≡ Some bs → Stand b f p ss → part b a (length bs) ≡ bs
standing b a f p [] bs e s = absurd cc
standing b a f p (Used cs ∷ ss) bs e s = elim (cases_eq a (p + 4)) [
  | inl q ↦ let same : Some cs ≡ Some bs = sym (cond_true (eqb a (p + 4)) _ _ (eqb_same a (p + 4) q)) ∙ e in
      let here : cs ≡ bs = cc in
      subst (λ l. part b a (length l) ≡ l) here (ap (λ k. part b k (length cs)) q ∙ s.1)
  | inr ne ↦ standing b a f (p + (4 + length cs)) ss bs (sym (cond_false (eqb a (p + 4)) _ _ (eqb_apart a (p + 4) ne)) ∙ e) s.2
]
standing b a f p (Hole n ∷ ss) bs e s = standing b a p (p + n) ss bs e s.2

-- ---- what stands in a block
pub record Stands (m : Memory) (module_area : Module) (a : ℕ) (bs : List ℕ) : Type 0 where
  pub part : part (bytes m module_area.area.0) a (length bs) ≡ bs
  pub within : a + length bs ≤ length (bytes m module_area.area.0)
  pub above : 20 ≤ a

pub stands : (m : Memory) (module_area : Module) (a : ℕ) (bs : List ℕ) → IsModule m module_area → block_bytes a (module_heap_in m module_area) ≡ Some bs
    → Stands m module_area a bs
stands m module_area a bs s e =
    let r = range_at a 16 (module_heap_in m module_area).segments bs e in
    let h = module_heap_in m module_area in
    let fits = s.spells.spells.heap.fits in
    let whole = s.spells.whole in
    record {
      part = standing (bytes m module_area.area.0) a 4 16 h.segments bs e s.spells.spells.stand;
      within = omega arith;
      above = r.0;
    }

pub block_within : (m : Memory) (module_area : Module) (a n : ℕ) → IsModule m module_area → HasBlock a n (module_heap_in m module_area) → a + n ≤ length
    (bytes m module_area.area.0)
block_within m module_area a n s b = let w = stands m module_area a b.bytes s b.found in let r = b.room in let v = w.within in omega arith

one_of : {x y : List ℕ} → ◌≡◌ {A = Option (List ℕ)} (Some x) (Some y) → x ≡ y
one_of e = cc

pub word_there : (m : Memory) (module_area : Module) (a o : ℕ) (bs : List ℕ) → IsModule m module_area → HasBlock a (o + 4) (module_heap_in m module_area)
    → block_bytes a (module_heap_in m module_area) ≡ Some bs → word (bytes m module_area.area.0) (a + o) ≡ word bs o
word_there m module_area a o bs s b e =
    let w = stands m module_area a bs s e in
    let same : b.bytes ≡ bs = one_of (sym b.found ∙ e) in
    let r : o + 4 ≤ length bs = subst (λ l. o + 4 ≤ length l) same b.room in
    sym (word-part (bytes m module_area.area.0) a (length bs) o r) ∙ ap (λ l. word l o) w.part

pub part_there : (m : Memory) (module_area : Module) (a o n : ℕ) (bs : List ℕ) → IsModule m module_area → HasBlock a (o + n) (module_heap_in m module_area)
    → block_bytes a (module_heap_in m module_area) ≡ Some bs → part (bytes m module_area.area.0) (a + o) n ≡ part bs o n
part_there m module_area a o n bs s b e =
    let w = stands m module_area a bs s e in
    let same : b.bytes ≡ bs = one_of (sym b.found ∙ e) in
    let r : o + n ≤ length bs = subst (λ l. o + n ≤ length l) same b.room in
    sym (part-part (bytes m module_area.area.0) a (length bs) o n r) ∙ ap (λ l. part l o n) w.part

-- ---- the heap after a call
pub heap_is : (m : Memory) (module_area : Module) (h : Heap) → SpellsModuleIn m module_area h → module_heap_in m module_area ≡ h
heap_is m module_area h s = heap_of-Spells (bytes m module_area.area.0) 0 h s.spells

pub is_module : (m : Memory) (module_area : Module) (h : Heap) → IsOpen m module_area.area.0 → SpellsModuleIn m module_area h → IsModule m module_area
is_module m module_area h o s = record { opened = o; spells = subst (IsImage (bytes m module_area.area.0)) (sym (heap_is m module_area h s)) s }

-- ---- bytes written inside a block
pub wrote : (m n : Memory) (module_area : Module) (a o : ℕ) (xs : List ℕ) → IsModule m module_area → HasBlock a (o + length xs) (module_heap_in m module_area)
    → n ≡ with_bytes m module_area.area.0 (with_part (bytes m module_area.area.0) (a + o) xs) → Wrote m n module_area a o xs
wrote m n module_area a o xs s b e =
    let c = with_part (bytes m module_area.area.0) (a + o) xs in
    let image = IsImage-written (bytes m module_area.area.0) (module_heap_in m module_area) a o xs b.bytes s.spells b.found b.room in
    let k : Memory = with_bytes m module_area.area.0 c in
    let there : SpellsModuleIn k module_area (poked a o xs (module_heap_in m module_area)) =
    subst (λ l. IsImage l (poked a o xs (module_heap_in m module_area))) (sym (bytes-with_bytes m module_area.area.0 c)) image in
    let made : Wrote m k module_area a o xs = record {
      still = is_module k module_area (poked a o xs (module_heap_in m module_area)) (IsOpen-with_bytes m module_area.area.0 c) there;
      heap = heap_is k module_area (poked a o xs (module_heap_in m module_area)) there;
      only = OnlyArea-with_bytes m module_area.area.0 c (length-put (bytes m module_area.area.0) (a + o) xs);
      free = free-with_bytes m module_area.area.0 c;
    } in
    subst (λ (z : Memory). Wrote m z module_area a o xs) (sym e) made

pub wrote_word : (m n : Memory) (module_area : Module) (a o w : ℕ) → IsModule m module_area → HasBlock a (o + 4) (module_heap_in m module_area)
    → n ≡ with_bytes m module_area.area.0 (put_word (bytes m module_area.area.0) (a + o) w) → Wrote m n module_area a o (word_bytes w)
unfolding put_word word_bytes
wrote_word m n module_area a o w s b e = wrote m n module_area a o (word_bytes w) s b e

-- ---- the map that is kept beside the area

-- what was written in a block left the heap its shape
pub same_shape : (m n : Memory) (module_area : Module) (a o : ℕ) (xs : List ℕ) (before behind : Span) → Wrote m n module_area a o xs → IsModule m module_area
    → before ≡ span_of module_area
    → behind ≡ span_of module_area → SameShape (spans.heap_in n behind) (spans.heap_in m before)
same_shape m n module_area a o xs before behind w s e f = rw (old_heap f w.still, w.heap, old_heap e s) (poked-shape a o xs (module_heap_in m module_area))

pub span_after : (m n : Memory) (module_area : Module) (a o : ℕ) (xs : List ℕ) (span : Span) → Wrote m n module_area a o xs → span ≡ span_of module_area
    → spans.IsSpan n span
span_after m n module_area a o xs span w e = is_span n module_area span (module_heap_in n module_area) e w.still.opened w.still.spells.spells
