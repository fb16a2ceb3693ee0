-- Bytes written into a buffer, as one place of the map.
use Rattle.rh_safety.proofs.Common.{◌≡◌, ℕ, ◌+◌, ◌-◌, ◌≤◌, true, List, ◌++◌, length, drop, Option, Some, None, refl, sym, ap, ◌∙◌, inl, inr, arith}
use Rattle.rh_safety.proofs.Common.{length-append, length-drop, nat_le, option_map, leb_tells, Split, total, written, with_here, Segment, Used, bytes_of, Same}
use Rattle.rh_safety.proofs.Common.{size_of, first_place, place_after, is_block_at, Slot, heap_start, heap_block_at, buffer_at, buffers_of, put, none_some}
use Rattle.rh_defs.specs.Places.{with_heap_bytes}
use Rattle.rh_safety.proofs.HeapMap.{bytes_at, heap_map, IsMoved}
use Rattle.rh_safety.proofs.HeapMaps as heaps
use Rattle.rh_safety.proofs.SeenHeaps.{cut_is, used_is, shifted}
use Rattle.rh_safety.proofs.SeenDocuments.{buffer_is}

-- ---- bytes written into a buffer

-- a write of n bytes to the front
pub front : (n : ℕ) (new old : List ℕ) → length new ≡ n → written old 0 new ≡ new ++ drop n old
front n new old e = ap (λ k. new ++ drop k old) (let z = e in omega arith)

written_length : (new old : List ℕ) → length new ≤ length old → length (written old 0 new) ≡ length old
written_length new old le = simp (length-append, length-drop) (omega arith)

-- the block at an address with other bytes, as many as before
pub written_map : (a : ℕ) (s : Slot) (c : Split Segment) (new : List ℕ) → heap_block_at a s ≡ Some c →
    length new ≤ length (bytes_of c.here) →
    Same (buffers_of (with_heap_bytes c 0 new s)) (put (buffers_of s) a (Some (written (bytes_of c.here) 0 new)))
written_map a s c new q le k =
    let cut = cut_is size_of (is_block_at (a - heap_start)) first_place s.heap.segments c q in
    let u = used_is (a - heap_start) (first_place + total size_of c.before) c.here cut.passes in
    let bytes = written (bytes_of c.here) 0 new in
    let len : length bytes ≡ length u.bytes = written_length new (bytes_of c.here) le ∙ ap (λ (g : Segment).
    length (bytes_of g)) u.here in
    let m : IsMoved s.heap (record s.heap { segments = with_here c (Used bytes) }) (place_after c.before + 4)
    (place_after c.before + 4) bytes =
    heaps.in_place u.bytes bytes s.heap c (with_here c (Used bytes)) c.after (record {
      cut = record {
        whole = cut.whole;
      };
      here = u.here;
    }) (λ b. refl)
    (λ b. ap (λ n. bytes_at (place_after c.before + (4 + n)) c.after b) len) in
    m.moved (k - heap_start) ∙ heaps.put_twice (heap_map s.heap) (place_after c.before + 4) None (Some bytes)
    (k - heap_start) ∙
    shifted (heap_map s.heap) (place_after c.before + 4) (Some bytes) k (omega arith) ∙ ap (λ n. put (buffers_of s) n
    (Some bytes) k) (let y = u.at_ in omega arith)

-- the cut of the block at an address, which n bytes fit in
pub record IsBuffer (a n : ℕ) (s : Slot) (old : List ℕ) : Type 0 where
  pub cut : Split Segment
  pub is : heap_block_at a s ≡ Some cut
  pub bytes : bytes_of cut.here ≡ old
  pub found : buffer_at a n s ≡ Some cut

pub buffer_found : (a n : ℕ) (s : Slot) (old : List ℕ) → buffers_of s a ≡ Some old → n ≤ length old →
    (o : Option (Split Segment)) → heap_block_at a s ≡ o → IsBuffer a n s old
buffer_found a n s old q le None e = absurd (none_some None refl (let z : option_map (λ (b : Split Segment).
    bytes_of b.here) None ≡ Some old = ap (option_map (λ (b : Split Segment). bytes_of b.here)) (sym e) ∙ buffer_is a
    s ∙ q in z))
buffer_found a n s old q le (Some c) e =
    let z : Option.Some (bytes_of c.here) ≡ Some old = ap (option_map (λ (b : Split Segment). bytes_of b.here))
    (sym e) ∙ buffer_is a s ∙ q in
    let same : bytes_of c.here ≡ old = cc in
    let fits : nat_le n (length (bytes_of c.here)) ≡ true = elim (leb_tells n (length (bytes_of c.here))) [
      | inl w ↦ w.0
      | inr w ↦ absurd (let x = w.1 in let y : length (bytes_of c.here) ≡ length old = ap (λ (v : List ℕ).
          length v) same in omega arith)
    ] in
    record { cut = c; is = e; bytes = same; found = rw (e, fits) refl }
