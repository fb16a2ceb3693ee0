-- Bytes moved to an address in a buffer, as one place of the map.
use Rattle.rh_safety.proofs.Common.{◌≡◌, ℕ, ◌+◌, ◌-◌, ◌≤◌, ◌<◌, Bool, true, false, ◌&&◌, List, [], ◌∷◌, ◌++◌, length, take, drop, Option, Some, None, refl, sym}
use Rattle.rh_safety.proofs.Common.{ap, ◌∙◌, inl, inr, arith, nat_le, option_map, eqb_tells, leb_tells, length-append, length-drop, length-take}
use Rattle.rh_safety.proofs.Common.{Split, total, written, with_here, behind, first_at, Segment, Used, Hole, bytes_of, Same, size_of, first_place, place_after}
use Rattle.rh_safety.proofs.Common.{Slot, Flex, weight, flex_address, flex_start, heap_start, blocks_of, buffers_of, put, none_some}
use Rattle.std.proofs.lemmas.List.{take-append-drop}
use Rattle.rh_defs.specs.Heap.{block_around, is_around}
use Rattle.rh_defs.specs.Pieces.{is_inside}
use Rattle.rh_defs.specs.Places.{bytes_held as moved_bytes, bytes_in_heap, bytes_around, written_held, written_around, written_heap, with_heap_bytes}
use Rattle.rh_defs.specs.Slot.{flex_around, IsSlot}
use Rattle.rh_defs.proofs.BlockLaws.{range_at}
use Rattle.rh_safety.proofs.HeapMap.{bytes_at, heap_map, IsMoved}
use Rattle.rh_safety.proofs.HeapMaps as heaps
use Rattle.rh_safety.proofs.SeenHeaps.{cut_is, shifted}

-- ---- the block that holds a range

and_off : (a b : Bool) → b ≡ false → (a && b) ≡ false
and_off true b e = e
and_off false b e = refl

-- the cut at the block
record AroundIs (x n place : ℕ) (xs : List Segment) (a : ℕ) (old : List ℕ) : Type 0 where
  pub cut : Split Segment
  pub is : first_at size_of (is_around x n) place xs ≡ Some cut
  pub whole : with_here cut cut.here ≡ xs
  pub here : cut.here ≡ Used old
  pub at_ : place + total size_of cut.before + 4 ≡ a

around_found : (x n place : ℕ) (xs : List Segment) (a : ℕ) (old : List ℕ) → bytes_at place xs a ≡ Some old → a ≤ x →
    x + n ≤ a + length old → 0 < n → AroundIs x n place xs a old
around_found x n place [] a old q low high some = absurd (none_some None refl q)
around_found x n place (Hole m ∷ xs) a old q low high some =
    let r = around_found x n (place + m) xs a old q low high some in
    record {
      cut = behind (Hole m) r.cut;
      is = ap (option_map (behind (Hole m))) r.is;
      whole = ap (λ (ys : List Segment). Hole m ∷ ys) r.whole;
      here = r.here;
      at_ = let z = r.at_ in omega (arith, z);
    }
around_found x n place (Used b ∷ xs) a old q low high some = elim (eqb_tells a (place + 4)) as (λ _. AroundIs x n place (Used b ∷ xs) a old) [
  | inl w ↦
      let z : Some b ≡ Some old = rw w.0 at q in
      let same : b ≡ old = cc in
      let size : length b ≡ length old = ap length same in
      let t1 : nat_le (place + 4) x ≡ true = grind (arith, leb_tells (place + 4) x, low, w.1) in
      let t2 : nat_le (x + n) ((place + 4) + length b) ≡ true = grind (arith, leb_tells (x + n) ((place + 4) + length b), high, w.1, size) in
      record {
        cut = record { before = []; here = Used b; after = xs };
        is = rw (t1, t2) refl;
        whole = refl;
        here = ap Used same;
        at_ = let y = w.1 in omega (arith, y);
      }
  | inr w ↦
      let there : bytes_at (place + (4 + length b)) xs a ≡ Some old = rw w.0 at q in
      let far = (range_at a (place + (4 + length b)) xs old there).0 in
      let t1 : nat_le (x + n) ((place + 4) + length b) ≡ false = grind (arith, leb_tells (x + n) ((place + 4) + length b), low, far, some) in
      let t : (nat_le (place + 4) x && nat_le (x + n) ((place + 4) + length b)) ≡ false = and_off _ _ t1 in
      let r = around_found x n (place + (4 + length b)) xs a old there low high some in
      record {
        cut = behind (Used b) r.cut;
        is = rw t (ap (option_map (behind (Used b))) r.is);
        whole = ap (λ (ys : List Segment). Used b ∷ ys) r.whole;
        here = r.here;
        at_ = let z = r.at_ in omega (arith, z);
      }
]

-- no flex block begins so low
flex_none : (x n place : ℕ) (blocks : List Flex) → x < place + 8 →
    first_at weight (λ (p : ℕ) (b : Flex). is_inside x n (p + 8) (length b.bytes)) place blocks ≡ None
flex_none x n place [] lt = refl
flex_none x n place (b ∷ blocks) lt =
    let t : nat_le (place + 8) x ≡ false = grind (arith, leb_tells (place + 8) x, lt) in
    rw t (ap (option_map (behind b)) (flex_none x n (place + weight b) blocks (omega (arith, lt))))

-- ---- the write

written_size : (old new : List ℕ) (k : ℕ) → k + length new ≤ length old → length (written old k new) ≡ length old
written_size old new k le = simp (length-append, length-drop, length-take) (omega (arith, le))

-- the slot with a buffer's bytes written anew
pub record IsPoured (s new : Slot) (a : ℕ) (old : List ℕ) : Type 0 where
  pub bytes : List ℕ
  pub size : length bytes ≡ length old
  pub blocks : Same (blocks_of new) (blocks_of s)
  pub buffers : Same (buffers_of new) (put (buffers_of s) a (Some bytes))

some_poured : (y : ℕ) (new : List ℕ) (s : Slot) (a : ℕ) (old : List ℕ) → IsSlot s → buffers_of s a ≡ Some old → a ≤ y →
    y + length new ≤ a + length old → 0 < length new → IsPoured s (written_held y new s) a old
some_poured y new s a old is there low high some =
    let n = length new in
    let ranges = range_at (a - heap_start) first_place s.heap.segments old there in
    let from = ranges.0 in
    let w = around_found (y - heap_start) n first_place s.heap.segments (a - heap_start) old there (omega (arith, low, from))
    (omega (arith, low, high, from)) some in
    let place = w.at_ in
    let k = y - (heap_start + place_after w.cut.before + 4) in
    let bytes = written (bytes_of w.cut.here) k new in
    let same : bytes_of w.cut.here ≡ old = ap bytes_of w.here in
    let size : length bytes ≡ length old = ap (λ (v : List ℕ). length (written v k new)) same ∙ written_size old new k
    (omega (arith, low, high, from, place)) in
    let top = ranges.1 in
    let fits = is.heap.fits in
    let none : flex_around y n s ≡ None = flex_none y n (flex_start s) s.blocks (omega (arith, low, high, from, top, fits, some)) in
    let now : written_held y new s ≡ with_heap_bytes w.cut k new s = ap (λ (o : Option (Split Flex)). written_around y new o s) none ∙
    ap (λ (o : Option (Split Segment)). written_heap y new o s) w.is in
    let m : IsMoved s.heap (record s.heap { segments = with_here w.cut (Used bytes) }) (place_after w.cut.before + 4) (place_after w.cut.before + 4) bytes =
    heaps.in_place old bytes s.heap w.cut (with_here w.cut (Used bytes)) w.cut.after (record { cut = record { whole = w.whole }; here = w.here })
    (λ b. refl) (λ b. ap (λ j. bytes_at (place_after w.cut.before + (4 + j)) w.cut.after b) size) in
    record {
      bytes = bytes;
      size = size;
      blocks = λ j. ap (λ (z : Slot). blocks_of z j) now;
      buffers = λ j. ap (λ (z : Slot). buffers_of z j) now ∙ m.moved (j - heap_start) ∙
          heaps.put_twice (heap_map s.heap) (place_after w.cut.before + 4) None (Some bytes) (j - heap_start) ∙
          shifted (heap_map s.heap) (place_after w.cut.before + 4) (Some bytes) j (omega arith) ∙
          ap (λ i. put (buffers_of s) i (Some bytes) j) (omega (arith, place, from));
    }

-- ---- no bytes

written_none : (old : List ℕ) (k : ℕ) → written old k [] ≡ old
written_none old k = ap (λ j. take k old ++ drop j old) (let z : k + 0 ≡ k = omega arith in z) ∙ take-append-drop k old

used_around : (x n place : ℕ) (g : Segment) → is_around x n place g ≡ true → g ≡ Used (bytes_of g)
used_around x n place (Used bytes) q = refl
used_around x n place (Hole m) q = absurd (let z : false ≡ true = q in (cc))

none_poured : (y : ℕ) (s : Slot) → written_held y [] s ≡ s
none_poured y s = go (flex_around y 0 s) refl
  where
    in_heap : (o : Option (Split Segment)) → block_around (y - heap_start) 0 s.heap ≡ o → written_heap y [] o s ≡ s
    in_heap None e = refl
    in_heap (Some c) e =
        let cut = cut_is size_of (is_around (y - heap_start) 0) first_place s.heap.segments c e in
        let here = used_around _ _ _ c.here cut.passes in
        let k = y - (heap_start + place_after c.before + 4) in
        ap (λ (xs : List Segment). record s { heap = record s.heap { segments = xs } })
        (ap (λ (v : List ℕ). with_here c (Used v)) (written_none (bytes_of c.here) k) ∙ ap (with_here c) (sym here) ∙ cut.whole)

    go : (o : Option (Split Flex)) → flex_around y 0 s ≡ o → written_around y [] o s ≡ s
    go None e = in_heap (block_around (y - heap_start) 0 s.heap) refl
    go (Some b) e =
        let cut = cut_is weight (λ (p : ℕ) (b : Flex). is_inside y 0 (p + 8) (length b.bytes)) (flex_start s) s.blocks b e in
        ap (λ (xs : List Flex). record s { blocks = xs })
        (ap (λ (v : List ℕ). with_here b (record { anchor = b.here.anchor; bytes = v })) (written_none b.here.bytes (y - flex_address s b.before)) ∙ cut.whole)

-- ---- as many bytes as are moved, or fewer

pub moved_size : (x n : ℕ) (s : Slot) → length (moved_bytes x n s) ≤ n
moved_size x n s = go (flex_around x n s)
  where
    taken : (old : List ℕ) → length (take n old) ≤ n
    taken old = simp length-take (omega arith)

    in_heap : (o : Option (Split Segment)) → length (bytes_in_heap x n o) ≤ n
    in_heap None = omega arith
    in_heap (Some b) = taken _

    go : (o : Option (Split Flex)) → length (bytes_around x n s o) ≤ n
    go None = in_heap (block_around (x - heap_start) n s.heap)
    go (Some b) = taken _

-- bytes written into the range of a buffer
pub poured_into : (y : ℕ) (new : List ℕ) (s : Slot) (a : ℕ) (old : List ℕ) → IsSlot s → buffers_of s a ≡ Some old → a ≤ y →
    y + length new ≤ a + length old → IsPoured s (written_held y new s) a old
poured_into y [] s a old is there low high = record {
  bytes = old;
  size = refl;
  blocks = λ j. ap (λ (z : Slot). blocks_of z j) (none_poured y s);
  buffers = λ j. ap (λ (z : Slot). buffers_of z j) (none_poured y s) ∙ elim (eqb_tells j a) [
    | inl w ↦ rw w.0 (ap (buffers_of s) w.1 ∙ there)
    | inr w ↦ rw w.0 refl
  ];
}
poured_into y (b ∷ new) s a old is there low high = some_poured y (b ∷ new) s a old is there low high (omega arith)
