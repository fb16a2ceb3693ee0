-- The heap while its area gets another length.
use Rattle.rh_module.proofs.Common.{◌≡◌, ℕ, ◌+◌, ◌-◌, ◌*◌, ◌%◌, ◌^◌, ◌<◌, ◌≤◌, length, to_z, of_z, zero, suc, pos, neg_ℤ, ◌-ℤ◌, sym, ap, subst, ◌∙◌, arith, ℤ}
use Rattle.rh_module.proofs.Common.{Ok, Err, w32, PAGE, Memory, IsOpen, OnlyArea, bytes, answer_of, no_answer, Heap, extended, HeapRefusal, IsImage}
use Rattle.rh_module.proofs.Common.{OnlyArea-from_Edited, Span, Module, IsModule, SpellsModuleIn, module_heap_in, longer}
use Rattle.std.specs.Int.{w64}
use Rattle.std.proofs.lemmas.Int.{to_z_pos, ints}
use Rattle.rh_defs.specs.Memory.{grown, shrunk}
use Rattle.rh_defs.specs.Pieces.{moved}
use Rattle.rh_defs.specs.Heap.{extend_by, base}
use Rattle.rh_defs.specs.declared.heap.HeapRefusal.TheVariants.{ExcessiveShrink}
use Rattle.rh_defs.proofs.MemoryLaws.{IsOpen-grown, length-grown, length-shrunk, SameIn-grown, SameIn-shrunk, OnlyArea-grown, OnlyArea-shrunk, OnlyArea-both}
use Rattle.rh_defs.proofs.HeapCalls.{extend-done, extend-fits, extend-refused}
use Rattle.rh_defs.proofs.ModuleLaws.{Spells-kept}
use Rattle.rh_heap.specs.HeapSpans as spans
use Rattle.rh_module.specs.Inner.Lengths.{shorter}
use Rattle.rh_module.proofs.SpanLaws.{span_of, Begins, is_span, heap_there, old_heap, begins_there}
use Rattle.rh_store.specs.Limits.{pool_limit}

-- ---- longer

-- the end of the heap that the span's bytes spell may be moved to the area's end, which lies so many pages higher
pub record MayMove (k : Memory) (module_area : Module) (span : Span) (h : Heap) (pages : ℕ) (delta : ℤ) : Type 0 where
  pub there : spans.IsSpan k span
  pub heap_is : spans.heap_in k span ≡ h
  pub moved_is : moved (spans.heap_in k span).end delta ≡ h.end + PAGE * pages
  pub len : length (bytes k module_area.area.0) ≡ h.end + PAGE * pages
  pub multiple : moved (spans.heap_in k span).end delta % 8 ≡ 0
  pub within : span.at + moved (spans.heap_in k span).end delta ≤ length (bytes k span.area.0)
  pub high : base (spans.heap_in k span) ≤ moved (spans.heap_in k span).end delta

moved_up : (e pages : ℕ) → pages ≤ pool_limit → moved e (to_z w32 (pages * PAGE)) ≡ e + PAGE * pages
moved_up e pages l = ap (moved e) (to_z_pos w32 (pages * PAGE) (omega arith)) ∙ omega arith

-- an area that has grown
pub grown_may_move : (m k : Memory) (module_area : Module) (span : Span) (pages : ℕ) → IsModule m module_area → k ≡ grown m module_area.area.0 pages → span
    ≡ span_of module_area
    → pages ≤ pool_limit → MayMove k module_area span (module_heap_in m module_area) pages (to_z w32 (pages * PAGE))
grown_may_move m k module_area span pages s e at l =
    let id = module_area.area.0 in
    let h = module_heap_in m module_area in
    let long : length (bytes k id) ≡ h.end + PAGE * pages =
    subst (λ n. length (bytes n id) ≡ h.end + PAGE * pages) (sym e) (length-grown m id pages ∙ ap (λ n. n + PAGE * pages) s.spells.whole) in
    let begins : Begins k module_area h = subst (λ n. Begins n module_area h) (sym e)
    (Spells-kept (bytes m id) (bytes (grown m id pages) id) 0 h s.spells.spells (SameIn-grown m id pages 0 (0 + h.end) (omega (arith, s.spells.whole)))
    (omega (arith, length-grown m id pages, s.spells.whole))) in
    let same = heap_there k module_area span h at begins in
    let ended : moved (spans.heap_in k span).end (to_z w32 (pages * PAGE)) ≡ h.end + PAGE * pages =
    ap (λ (g : Heap). moved g.end (to_z w32 (pages * PAGE))) same ∙ moved_up h.end pages l in
    let mult = s.spells.spells.heap.multiple in
    let fits = s.spells.spells.heap.fits in
    let low : base (spans.heap_in k span) ≡ base h = ap base same in
    record {
      there = is_span k module_area span h at (subst (λ n. IsOpen n id) (sym e) (IsOpen-grown m id pages)) begins;
      heap_is = same;
      moved_is = ended;
      len = long;
      multiple = omega arith;
      within = let zero : span.at ≡ 0 = ap (λ (t : Span). t.at) at in let area : length (bytes k span.area.0) ≡ length (bytes k id) =
          ap (λ (t : Span). length (bytes k t.area.0)) at in omega arith;
      high = omega arith;
    }

-- the end has moved
pub lengthened : (k n : Memory) (module_area : Module) (span : Span) (h : Heap) (pages : ℕ) (delta : ℤ) → MayMove k module_area span h pages delta → span
    ≡ span_of module_area
    → spans.OnlySpan k n span → spans.SpellsHeapIn n span (extended delta (spans.heap_in k span)) → SpellsModuleIn n module_area (longer pages h)
lengthened k n module_area span h pages delta w at only s =
    let same : extended delta (spans.heap_in k span) ≡ longer pages h =
    ap (λ (e : ℕ). let g : Heap = record { segments = (spans.heap_in k span).segments; end = e } in g) w.moved_is
    ∙ ap (λ (g : Heap). longer pages (let r : Heap = record { segments = g.segments; end = h.end } in r)) w.heap_is in
    let len : length (bytes n span.area.0) ≡ length (bytes k span.area.0) = only.outside.len in
    let area : span.area ≡ module_area.area = ap (λ (t : Span). t.area) at in
    record {
      whole = subst (λ a. length (bytes n a.0) ≡ length (bytes k a.0)) area len ∙ w.len;
      spells = begins_there n module_area span (longer pages h) at (subst (spans.SpellsHeapIn n span) same s);
    }

pub only_lengthened : (m k n : Memory) (module_area : Module) (span : Span) (pages : ℕ) → k ≡ grown m module_area.area.0 pages → pages ≤ m.free → span
    ≡ span_of module_area
    → spans.OnlySpan k n span → OnlyArea m n module_area.area.0
only_lengthened m k n module_area span pages e l at only =
    OnlyArea-both m k n module_area.area.0 (subst (λ i. OnlyArea m i module_area.area.0) (sym e) (OnlyArea-grown m module_area.area.0 pages l))
    (subst (λ t. OnlyArea k n t.area.0) at (OnlyArea-from_Edited k n span.area.0 _ _ only))

-- ---- shorter

minus : (e n : ℕ) → moved e (neg_ℤ (pos n)) ≡ e - n
minus e zero = omega arith
minus e (suc n) = omega arith

-- the negative amount, as the code has it
abbrev pub down : ℕ → ℤ
down pages = to_z w32 (of_z w32 (to_z w64 (of_z w64 (pos 0 -ℤ to_z w64 (pages * PAGE)))))

pub down_is : (pages : ℕ) → pages ≤ 2 ^ 19 → down pages ≡ neg_ℤ (pos (pages * PAGE))
down_is pages l = omega (arith, ints)

moved_down : (e pages : ℕ) → pages ≤ 2 ^ 19 → moved e (down pages) ≡ e - PAGE * pages
moved_down e pages l = ap (moved e) (down_is pages l) ∙ minus e (pages * PAGE) ∙ omega arith

-- the end may be moved, or lies too low
pub may_shorten : (m : Memory) (module_area : Module) (span : Span) (pages : ℕ) → IsModule m module_area → span ≡ span_of module_area → pages ≤ 2 ^ 19
    → {x : Unit {0}}
    → Ok x ≡ answer_of (no_answer (extend_by (down pages) (spans.heap_in m span)))
    → (base (module_heap_in m module_area) ≤ (shorter pages (module_heap_in m module_area)).end) × (extend_by (down pages) (spans.heap_in m span) ≡ Ok
    (extended (down pages) (spans.heap_in m span)))
may_shorten m module_area span pages s at l e =
    let fits = extend-fits (down pages) (spans.heap_in m span) e in
    let same = old_heap at s in
    let low : base (spans.heap_in m span) ≡ base (module_heap_in m module_area) = ap base same in
    let now : moved (spans.heap_in m span).end (down pages) ≡ (module_heap_in m module_area).end - PAGE * pages =
    ap (λ (g : Heap). moved g.end (down pages)) same ∙ moved_down (module_heap_in m module_area).end pages l in
    (omega arith, extend-done (down pages) (spans.heap_in m span) fits)

pub may_not_shorten : (m : Memory) (module_area : Module) (span : Span) (pages : ℕ) {refusal : HeapRefusal} → IsModule m module_area → span
    ≡ span_of module_area → pages ≤ 2 ^ 19
    → Err refusal ≡ answer_of (no_answer (extend_by (down pages) (spans.heap_in m span)))
    → ((shorter pages (module_heap_in m module_area)).end < base (module_heap_in m module_area)) × (refusal ≡ ExcessiveShrink)
may_not_shorten m module_area span pages s at l e =
    let low = extend-refused (down pages) (spans.heap_in m span) e in
    let under = low.0 in
    let same = old_heap at s in
    let based : base (spans.heap_in m span) ≡ base (module_heap_in m module_area) = ap base same in
    let now : moved (spans.heap_in m span).end (down pages) ≡ (module_heap_in m module_area).end - PAGE * pages =
    ap (λ (g : Heap). moved g.end (down pages)) same ∙ moved_down (module_heap_in m module_area).end pages l in
    (omega arith, low.1)

-- the area's last pages, where the heap leaves them
record Spare (m k : Memory) (module_area : Module) (pages : ℕ) : Type 0 where
  begins : Begins k module_area (shorter pages (module_heap_in m module_area))
  len : length (bytes k module_area.area.0) ≡ (module_heap_in m module_area).end
  inside : PAGE * pages ≤ length (bytes k module_area.area.0)

spare : (m k : Memory) (module_area : Module) (span : Span) (pages : ℕ) → IsModule m module_area → span ≡ span_of module_area → pages ≤ 2 ^ 19
    → spans.OnlySpan m k span
    → spans.SpellsHeapIn k span (extended (down pages) (spans.heap_in m span)) → Spare m k module_area pages
spare m k module_area span pages s at l only sp =
    let h = module_heap_in m module_area in
    let same : extended (down pages) (spans.heap_in m span) ≡ shorter pages h =
    ap (extended (down pages)) (heap_there m module_area span h at s.spells.spells)
    ∙ ap (λ (e : ℕ). let g : Heap = record { segments = h.segments; end = e } in g) (moved_down h.end pages l) in
    let there : Begins k module_area (shorter pages h) = begins_there k module_area span (shorter pages h) at (subst (spans.SpellsHeapIn k span) same sp) in
    let fits = there.heap.fits in
    let long : length (bytes k module_area.area.0) ≡ length (bytes m module_area.area.0) =
    subst (λ (t : Span). length (bytes k t.area.0) ≡ length (bytes m t.area.0)) at only.outside.len in
    record { begins = there; len = long ∙ s.spells.whole; inside = let w = s.spells.whole in omega arith }

-- the pages are gone
pub shortened : (m k n : Memory) (module_area : Module) (span : Span) (pages : ℕ) → IsModule m module_area → span ≡ span_of module_area → pages ≤ 2 ^ 19
    → spans.OnlySpan m k span
    → spans.SpellsHeapIn k span (extended (down pages) (spans.heap_in m span)) → n ≡ shrunk k module_area.area.0 pages → SpellsModuleIn n module_area
    (shorter pages (module_heap_in m module_area))
shortened m k n module_area span pages s at l only sp e =
    let id = module_area.area.0 in
    let g = shorter pages (module_heap_in m module_area) in
    let w = spare m k module_area span pages s at l only sp in
    let len = w.len in
    let inside = w.inside in
    let long = length-shrunk k id pages in
    let image : IsImage (bytes (shrunk k id pages) id) g = record {
      whole = omega arith;
      spells = Spells-kept (bytes k id) (bytes (shrunk k id pages) id) 0 g w.begins (SameIn-shrunk k id pages 0 (0 + g.end) (omega arith)) (omega arith);
    } in
    subst (λ i. SpellsModuleIn i module_area g) (sym e) image

pub only_shortened : (m k n : Memory) (module_area : Module) (span : Span) (pages : ℕ) → IsModule m module_area → span ≡ span_of module_area → pages ≤ 2 ^ 19
    → spans.OnlySpan m k span → spans.SpellsHeapIn k span (extended (down pages) (spans.heap_in m span))
    → n ≡ shrunk k module_area.area.0 pages → OnlyArea m n module_area.area.0
only_shortened m k n module_area span pages s at l only sp e =
    OnlyArea-both m k n module_area.area.0 (subst (λ (t : Span). OnlyArea m k t.area.0) at (OnlyArea-from_Edited m k span.area.0 _ _ only))
    (subst (λ i. OnlyArea k i module_area.area.0) (sym e) (OnlyArea-shrunk k module_area.area.0 pages (spare m k module_area span pages s at l only sp).inside))
