-- Bytes moved to a place in a buffer are written there, and no other block of the C heap changes.
use Rattle.rh_laws.proofs.Common.{◌≡◌, ℕ, ◌+◌, ◌-◌, ◌≤◌, ◌<◌, Bool, true, false, ◌&&◌, List, [], ◌∷◌, length, take, drop, Option, Some, None, refl}
use Rattle.rh_laws.proofs.Common.{sym, ap, ◌∙◌, inl, inr, arith, nat_le, option_map, eqb_tells, leb_tells, length-append, length-drop, length-take}
use Rattle.rh_laws.proofs.Common.{Split, total, written, Heap, Segment, Used, Hole, bytes_of, Same, size_of, first_place, place_after, block_around}
use Rattle.rh_laws.proofs.Common.{Slot, Flex, heap_start, buffers_of, at_place, none_some, with_heap_bytes, ◌++◌}
use Rattle.std.proofs.lemmas.List.{take-append-drop}
use Rattle.rh_defs.specs.Heap.{is_around}
use Rattle.rh_defs.specs.Pieces.{behind, first_at, is_inside, with_here}
use Rattle.rh_defs.specs.Places.{written_around, written_heap, written_held}
use Rattle.rh_defs.specs.Slot.{IsSlot, flex_around, flex_start, weight}
use Rattle.rh_defs.proofs.BlockLaws.{range_at}
use Rattle.rh_safety.proofs.HeapMap.{bytes_at, heap_map, IsMoved}
use Rattle.rh_safety.proofs.HeapMaps as heaps
use Rattle.rh_safety.proofs.SeenHeaps.{cut_is, shifted}

-- ---- the block that holds a range

and-off : (a b : Bool) → b ≡ false → (a && b) ≡ false
and-off true b e = e
and-off false b e = refl

-- the cut at the block
record AroundIs (x n place : ℕ) (xs : List Segment) (a : ℕ) (old : List ℕ) : Type 0 where
  cut : Split Segment
  is : first_at size_of (is_around x n) place xs ≡ Some cut
  whole : with_here cut cut.here ≡ xs
  here : cut.here ≡ Used old
  at_ : place + total size_of cut.before + 4 ≡ a

around-found : (x n place : ℕ) (xs : List Segment) (a : ℕ) (old : List ℕ) → bytes_at place xs a ≡ Some old → a ≤ x →
    x + n ≤ a + length old → 0 < n → AroundIs x n place xs a old
around-found x n place [] a old q low high some = absurd (none_some None refl q)
around-found x n place (Hole m ∷ xs) a old q low high some =
    let r = around-found x n (place + m) xs a old q low high some in
    record {
      cut = behind (Hole m) r.cut;
      is = ap (option_map (behind (Hole m))) r.is;
      whole = ap (λ (ys : List Segment). Hole m ∷ ys) r.whole;
      here = r.here;
      at_ = let z = r.at_ in omega (arith, z);
    }
around-found x n place (Used b ∷ xs) a old q low high some = elim (eqb_tells a (place + 4)) as (λ _. AroundIs x n place (Used b ∷ xs) a old) [
  | inl w ↦
      let z : Some b ≡ Some old = rw w.0 at q in
      let same : b ≡ old = cc in
      let size : length b ≡ length old = ap length same in
      let t1 : nat_le (place + 4) x ≡ true = grind (arith, leb_tells (place + 4) x, low, w.1) in
      let t2 : nat_le (x + n) ((place + 4) + length b) ≡ true = grind (arith, leb_tells (x + n) ((place + 4) + length b), high, w.1, size) in
      record {
        cut = record { before = []; here = Used b; after = xs };
        is = rw (t1, t2) refl;
        whole = refl;
        here = ap Used same;
        at_ = let y = w.1 in omega (arith, y);
      }
  | inr w ↦
      let there : bytes_at (place + (4 + length b)) xs a ≡ Some old = rw w.0 at q in
      let far = (range_at a (place + (4 + length b)) xs old there).0 in
      let t1 : nat_le (x + n) ((place + 4) + length b) ≡ false = grind (arith, leb_tells (x + n) ((place + 4) + length b), low, far, some) in
      let t : (nat_le (place + 4) x && nat_le (x + n) ((place + 4) + length b)) ≡ false = and-off _ _ t1 in
      let r = around-found x n (place + (4 + length b)) xs a old there low high some in
      record {
        cut = behind (Used b) r.cut;
        is = rw t (ap (option_map (behind (Used b))) r.is);
        whole = ap (λ (ys : List Segment). Used b ∷ ys) r.whole;
        here = r.here;
        at_ = let z = r.at_ in omega (arith, z);
      }
]

-- no flex block begins so low
flex-none : (x n place : ℕ) (blocks : List Flex) → x < place + 8 →
    first_at weight (λ (p : ℕ) (b : Flex). is_inside x n (p + 8) (length b.bytes)) place blocks ≡ None
flex-none x n place [] lt = refl
flex-none x n place (b ∷ blocks) lt =
    let t : nat_le (place + 8) x ≡ false = grind (arith, leb_tells (place + 8) x, lt) in
    rw t (ap (option_map (behind b)) (flex-none x n (place + weight b) blocks (omega (arith, lt))))

-- ---- the write

written-size : (old new : List ℕ) (k : ℕ) → k + length new ≤ length old → length (written old k new) ≡ length old
written-size old new k le = simp (length-append, length-drop, length-take) (omega (arith, le))

-- the buffer at a has the new bytes from y on, and no other buffer changes
abbrev Writes : ℕ → List ℕ → Slot → ℕ → List ℕ → Type 0
Writes y new s a old = Same (buffers_of (written_held y new s)) (at_place (buffers_of s) a (Some (written old (y - a) new)))

some-written : (y : ℕ) (new : List ℕ) (s : Slot) (a : ℕ) (old : List ℕ) → IsSlot s → buffers_of s a ≡ Some old → a ≤ y →
    y + length new ≤ a + length old → 0 < length new → Writes y new s a old
some-written y new s a old is there low high some =
    let n = length new in
    let ranges = range_at (a - heap_start) first_place s.heap.segments old there in
    let from = ranges.0 in
    let w = around-found (y - heap_start) n first_place s.heap.segments (a - heap_start) old there (omega (arith, low, from))
    (omega (arith, low, high, from)) some in
    let place = w.at_ in
    let k = y - (heap_start + place_after w.cut.before + 4) in
    let bytes = written (bytes_of w.cut.here) k new in
    let offset : k ≡ y - a = omega (arith, place, from, low) in
    let same : bytes_of w.cut.here ≡ old = ap bytes_of w.here in
    let is_new : bytes ≡ written old (y - a) new = ap (λ (v : List ℕ). written v k new) same ∙ ap (λ j. written old j new) offset in
    let size : length bytes ≡ length old = ap (λ (v : List ℕ). length (written v k new)) same ∙ written-size old new k
    (omega (arith, low, high, from, place)) in
    let top = ranges.1 in
    let fits = is.heap.fits in
    let none : flex_around y n s ≡ None = flex-none y n (flex_start s) s.blocks (omega (arith, low, high, from, top, fits, some)) in
    let now : written_held y new s ≡ with_heap_bytes w.cut k new s = ap (λ (o : Option (Split Flex)). written_around y new o s) none ∙
    ap (λ (o : Option (Split Segment)). written_heap y new o s) w.is in
    let m : IsMoved s.heap (record s.heap { segments = with_here w.cut (Used bytes) }) (place_after w.cut.before + 4) (place_after w.cut.before + 4) bytes =
    heaps.in_place old bytes s.heap w.cut (with_here w.cut (Used bytes)) w.cut.after (record { cut = record { whole = w.whole }; here = w.here })
    (λ b. refl) (λ b. ap (λ j. bytes_at (place_after w.cut.before + (4 + j)) w.cut.after b) size) in
    λ j. ap (λ (z : Slot). buffers_of z j) now ∙ m.moved (j - heap_start) ∙
    heaps.put_twice (heap_map s.heap) (place_after w.cut.before + 4) None (Some bytes) (j - heap_start) ∙
    shifted (heap_map s.heap) (place_after w.cut.before + 4) (Some bytes) j (omega arith) ∙
    ap (λ i. at_place (buffers_of s) i (Some bytes) j) (omega (arith, place, from)) ∙
    ap (λ (v : List ℕ). at_place (buffers_of s) a (Some v) j) is_new

-- ---- no bytes

written-none : (old : List ℕ) (k : ℕ) → written old k [] ≡ old
written-none old k = ap (λ j. take k old ++ drop j old) (let z : k + 0 ≡ k = omega arith in z) ∙ take-append-drop k old

used-around : (x n place : ℕ) (g : Segment) → is_around x n place g ≡ true → g ≡ Used (bytes_of g)
used-around x n place (Used bytes) q = refl
used-around x n place (Hole m) q = absurd (let z : false ≡ true = q in (cc))

-- the C heap is as it was
none-written : (y : ℕ) (s : Slot) → (written_held y [] s).heap ≡ s.heap
none-written y s = go (flex_around y 0 s)
  where
    in-heap : (o : Option (Split Segment)) → block_around (y - heap_start) 0 s.heap ≡ o → (written_heap y [] o s).heap ≡ s.heap
    in-heap None e = refl
    in-heap (Some c) e =
        let cut = cut_is size_of (is_around (y - heap_start) 0) first_place s.heap.segments c e in
        let here = used-around _ _ _ c.here cut.passes in
        let k = y - (heap_start + place_after c.before + 4) in
        ap (λ (xs : List Segment). record s.heap { segments = xs })
        (ap (λ (v : List ℕ). with_here c (Used v)) (written-none (bytes_of c.here) k) ∙ ap (with_here c) (sym here) ∙ cut.whole)

    go : (o : Option (Split Flex)) → (written_around y [] o s).heap ≡ s.heap
    go None = in-heap (block_around (y - heap_start) 0 s.heap) refl
    go (Some b) = refl

-- ---- any bytes

-- bytes written into the range of a buffer
pub written-into : (y : ℕ) (new : List ℕ) (s : Slot) (a : ℕ) (old : List ℕ) → IsSlot s → buffers_of s a ≡ Some old → a ≤ y →
    y + length new ≤ a + length old → Same (buffers_of (written_held y new s)) (at_place (buffers_of s) a (Some (written old (y - a) new)))
written-into y [] s a old is there low high = λ j.
    ap (λ (h : Heap). heap_map h (j - heap_start)) (none-written y s) ∙ elim (eqb_tells j a) [
      | inl w ↦ rw w.0 (ap (buffers_of s) w.1 ∙ there ∙ ap (λ (v : List ℕ). Some v) (sym (written-none old (y - a))))
      | inr w ↦ rw w.0 refl
    ]
written-into y (b ∷ new) s a old is there low high = some-written y (b ∷ new) s a old is there low high (omega arith)
