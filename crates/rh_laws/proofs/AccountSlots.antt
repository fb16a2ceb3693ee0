-- The calls on a slot that transfers and commands on the C heap make, as its map of blocks and their sizes.
use Rattle.rh_laws.proofs.Common.{length-append, length-drop, length-take, ◌≡◌, ℕ, ◌+◌, ◌-◌, ◌≤◌, Bool, true, false, List, length, Option, Some, None}
use Rattle.rh_laws.proofs.Common.{refl, sym, ap, ◌∙◌, inl, inr, arith, nat_le, if◌then◌else◌, eqb_tells, leb_tells}
use Rattle.rh_laws.proofs.Common.{Split, total, written, Segment, Used, Hole, size_of, first_place}
use Rattle.rh_laws.proofs.Common.{place_after, block_around, bytes_of}
use Rattle.rh_laws.proofs.Common.{Flex, Slot, heap_start, heap_block_at, buffer_at, with_heap_bytes}
use Rattle.rh_laws.proofs.Common.{written_in, buffers_of, and_left, and_right}
use Rattle.rh_defs.specs.Pieces.{with_here}
use Rattle.rh_defs.specs.Heap.{is_around, is_block_at}
use Rattle.rh_defs.specs.Slot.{with_heap, flex_around}
use Rattle.rh_defs.specs.Places.{roomy_in, written_around, written_held, written_heap}
use Rattle.rh_safety.proofs.HeapMap.{bytes_at, heap_map, IsMoved}
use Rattle.rh_safety.proofs.SeenHeaps.{cut_is, used_is}
use Rattle.rh_safety.proofs.HeapMaps as heaps
use Rattle.rh_laws.proofs.Accounts.{size_in}

-- ---- bytes written into a block

written-length : (new old : List ℕ) (o : ℕ) → o + length new ≤ length old → length (written old o new) ≡ length old
written-length new old o le = simp (length-append, length-drop, length-take) (omega arith)

-- other bytes in the block at the cut, as many as before
same-sizes : (s : Slot) (c : Split Segment) (old bytes : List ℕ) → with_here c c.here ≡ s.heap.segments → c.here ≡ Used old →
    length bytes ≡ length old → (k : ℕ) →
    size_in (buffers_of (with_heap (record s.heap { segments = with_here c (Used bytes) }) s) k) ≡ size_in (buffers_of s k)
same-sizes s c old bytes whole here len k =
    let at : ℕ = place_after c.before + 4 in
    let m : IsMoved s.heap (record s.heap { segments = with_here c (Used bytes) }) at at bytes =
    heaps.in_place old bytes s.heap c (with_here c (Used bytes)) c.after (record { cut = record { whole = whole }; here = here })
    (λ b. refl) (λ b. ap (λ n. bytes_at (place_after c.before + (4 + n)) c.after b) len) in
    let there : heap_map s.heap at ≡ Some old = heaps.there old s.heap c (record { cut = record { whole = whole }; here = here }) in
    ap size_in (m.moved (k - heap_start) ∙ heaps.put_twice (heap_map s.heap) at None (Some bytes) (k - heap_start)) ∙
    elim (eqb_tells (k - heap_start) at) [
      | inl w ↦ rw w.0 (ap Some len ∙ sym (ap size_in there) ∙ ap (λ j. size_in (heap_map s.heap j)) (sym w.1))
      | inr w ↦ rw w.0 refl
    ]

-- a write at the block's address
pub at-address : (a : ℕ) (s : Slot) (c : Split Segment) (new : List ℕ) → heap_block_at a s ≡ Some c → length new ≤ length (bytes_of c.here) →
    (k : ℕ) → size_in (buffers_of (with_heap_bytes c 0 new s) k) ≡ size_in (buffers_of s k)
at-address a s c new q le k =
    let cut = cut_is size_of (is_block_at (a - heap_start)) first_place s.heap.segments c q in
    let u = used_is (a - heap_start) (first_place + total size_of c.before) c.here cut.passes in
    same-sizes s c u.bytes (written (bytes_of c.here) 0 new) cut.whole u.here
    (written-length new (bytes_of c.here) 0 (omega (arith, le)) ∙ ap (λ (g : Segment). length (bytes_of g)) u.here) k

-- a block that holds n bytes at an address
record IsAround (x n place : ℕ) (g : Segment) : Type 0 where
  bytes : List ℕ
  here : g ≡ Used bytes
  from : place + 4 ≤ x
  to : x + n ≤ (place + 4) + length bytes

around-is : (x n place : ℕ) (g : Segment) → is_around x n place g ≡ true → IsAround x n place g
around-is x n place (Used bytes) q =
    let low = and_left (nat_le (place + 4) x) _ q in
    let high = and_right (nat_le (place + 4) x) _ q in
    record {
      bytes = bytes;
      here = refl;
      from = grind (arith, leb_tells (place + 4) x, low);
      to = grind (arith, leb_tells (x + n) ((place + 4) + length bytes), high);
    }
around-is x n place (Hole size) q = absurd cc

-- a write into the block that holds its range
in-block : (x : ℕ) (s : Slot) (new : List ℕ) (o : Option (Split Segment)) → block_around (x - heap_start) (length new) s.heap ≡ o →
    (k : ℕ) → size_in (buffers_of (written_heap x new o s) k) ≡ size_in (buffers_of s k)
in-block x s new None q k = refl
in-block x s new (Some c) q k =
    let cut = cut_is size_of (is_around (x - heap_start) (length new)) first_place s.heap.segments c q in
    let u = around-is (x - heap_start) (length new) (first_place + total size_of c.before) c.here cut.passes in
    let offset : ℕ = x - (heap_start + place_after c.before + 4) in
    let size : length (bytes_of c.here) ≡ length u.bytes = ap (λ (g : Segment). length (bytes_of g)) u.here in
    same-sizes s c u.bytes (written (bytes_of c.here) offset new) cut.whole u.here
    (written-length new (bytes_of c.here) offset (let a = u.from in let b = u.to in omega (arith, a, b, size)) ∙ size) k

-- a write at an address, wherever it goes
pub at-sizes : (x : ℕ) (s : Slot) (new : List ℕ) (k : ℕ) → size_in (buffers_of (written_held x new s) k) ≡ size_in (buffers_of s k)
at-sizes x s new k = around (flex_around x (length new) s)
  where
    around : (o : Option (Split Flex)) → size_in (buffers_of (written_around x new o s) k) ≡ size_in (buffers_of s k)
    around None = in-block x s new (block_around (x - heap_start) (length new) s.heap) refl k
    around (Some b) = refl

-- a write into a buffer that has room, or wherever it goes
pub written-sizes : (x amount : ℕ) (s : Slot) (new : List ℕ) → length new ≤ amount → (k : ℕ) →
    size_in (buffers_of (written_in x new (buffer_at x amount s) s) k) ≡ size_in (buffers_of s k)
written-sizes x amount s new le k = go (heap_block_at x s) refl
  where
    roomy : (c : Split Segment) → heap_block_at x s ≡ Some c → (b : Bool) → nat_le amount (length (bytes_of c.here)) ≡ b →
        size_in (buffers_of (written_in x new (if b then Some c else None) s) k) ≡ size_in (buffers_of s k)
    roomy c q true e = at-address x s c new q (grind (arith, leb_tells amount (length (bytes_of c.here)), e, le)) k
    roomy c q false e = at-sizes x s new k

    go : (o : Option (Split Segment)) → heap_block_at x s ≡ o →
        size_in (buffers_of (written_in x new (roomy_in amount o) s) k) ≡ size_in (buffers_of s k)
    go None q = at-sizes x s new k
    go (Some c) q = roomy c q (nat_le amount (length (bytes_of c.here))) refl
