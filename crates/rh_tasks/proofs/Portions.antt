-- The bytes of a block that go out, and the range that they go into.
use Rattle.rh_tasks.proofs.Common.{◌≡◌, ℕ, ◌+◌, ◌-◌, ◌<◌, ◌≤◌, Bool, true, false, refl, sym, subst, ◌∙◌, arith, length, Option, Some, None, Ok, Err, IfSome}
use Rattle.rh_tasks.proofs.Common.{is_some, ok_or, ◌&&◌, ◌==◌, nat_le, if◌then◌else◌, option_map, eqb-true, Refusal, NoBlock, NotABlock, Granted, ◌>>=◌}
use Rattle.rh_tasks.proofs.Common.{found_or, Split, Segment, bytes_of, block_size, Flex, weight, slot_block, slot_size, slot_length, heap_start}
use Rattle.rh_tasks.proofs.Common.{heap_block_at, flex_address, flex_start, holds, HaveAnchors, anchor_count, buffer_at, overlap, Task, is_bad_range}
use Rattle.rh_tasks.proofs.Common.{IsCut, first_at-cuts, cut-total, begins, le-true, le-false}
use Rattle.rh_defs.specs.Slot as plain
use Rattle.rh_defs.specs.Slot.{block_of, slot_address}
use Rattle.rh_defs.specs.Places.{roomy_in}
use Rattle.rh_defs.proofs.SlotLaws.{HaveAnchors-cut}

-- ---- the anchor's block

-- the anchor's block of a slot has so many bytes
pub record Sized (k n : ℕ) (s : plain.Slot) : Type 0 where
  pub cut : Split Flex
  pub block : slot_block k s ≡ Ok cut
  pub long : n ≡ length cut.here.bytes

of-grant : {k n : ℕ} {s : plain.Slot} (g : Granted (Split Flex)) → slot_block k s ≡ g → Ok n ≡ (g >>= (λ b. Ok (length b.here.bytes))) → Sized k n s
unfolding ◌>>=◌
of-grant (Ok cut) is e = record { cut = cut; block = is; long = cc }
of-grant (Err r) is e = absurd (cc)

pub sized : {k n : ℕ} {s : plain.Slot} → Ok n ≡ slot_size k s → Sized k n s
unfolding slot_size
sized {k} {n} {s} e = of-grant (slot_block k s) refl e

no-block : {r : Refusal} (g : Granted (Split Flex)) → Err r ≡ (g >>= (λ b. Ok (length b.here.bytes))) → g ≡ Err r
unfolding ◌>>=◌
no-block (Ok cut) e = absurd (cc)
no-block (Err r) e = cc

pub unsized : (k : ℕ) (s : plain.Slot) {r : Refusal} → Err r ≡ slot_size k s → slot_block k s ≡ Err r
unfolding slot_size
unsized k s e = no-block (slot_block k s) e

pub addressed : {k n : ℕ} {s : plain.Slot} (z : Sized k n s) → slot_address k s ≡ Ok (flex_address s z.cut.before)
unfolding slot_address
addressed z = begins _ z.block refl

-- ---- where it stands

found-is : {A : Type 0} (r : Refusal) {a : A} (o : Option A) → found_or o r ≡ Ok a → o ≡ Some a
unfolding found_or
found-is r None e = absurd (cc)
found-is r (Some x) e = cc

-- the block is the anchor's own, and lies in the slot
pub record Stands (k : ℕ) (s : plain.Slot) (cut : Split Flex) : Type 0 where
  pub small : k < anchor_count
  pub low : heap_start + s.heap.end + 8 ≤ flex_address s cut.before
  pub high : flex_address s cut.before + length cut.here.bytes ≤ 32768 + slot_length s

pub stands : {k : ℕ} {s : plain.Slot} {cut : Split Flex} → HaveAnchors s.blocks → slot_block k s ≡ Ok cut → Stands k s cut
unfolding slot_block
stands {k} {s} {cut} anchors e =
    let test : ℕ → Flex → Bool = λ _ b. b.anchor == k in
    let P : Option (Split Flex) → Type 0 = λ o. IfSome o (IsCut weight test (flex_start s) s.blocks) in
    let c : IsCut weight test (flex_start s) s.blocks cut = subst P (found-is NoBlock (block_of k s) e) (first_at-cuts weight test (flex_start s) s.blocks) in
    let apart = HaveAnchors-cut cut.before cut.here cut.after (subst HaveAnchors (sym c.whole) anchors) in
    let own : cut.here.anchor ≡ k = eqb-true _ _ c.passes in
    record {
      small = omega (arith, apart.small, own);
      low = omega arith;
      high = omega (arith, cut-total c);
    }

-- ---- a buffer in the C heap

roomy : (n size : ℕ) (o : Option (Split Segment)) → Ok size ≡ ok_or (option_map (λ s. length (bytes_of s.here)) o) NotABlock
    → is_some (roomy_in n o) ≡ nat_le n size
roomy n size None e = absurd (cc)
roomy n size (Some b) e =
    let same : size ≡ length (bytes_of b.here) = cc in
    rw same (elim (nat_le n (length (bytes_of b.here))) as (λ t. is_some (if t then Some b else None) ≡ t) [ true ↦ refl | false ↦ refl ])

roomless : {r : Refusal} (n : ℕ) (o : Option (Split Segment)) → Err r ≡ ok_or (option_map (λ s. length (bytes_of s.here)) o) NotABlock
    → is_some (roomy_in n o) ≡ false
roomless n None e = refl
roomless n (Some b) e = absurd (cc)

module _ (address room : ℕ) (s : plain.Slot) where
  pub buffer-wide : {size : ℕ} → Ok size ≡ ok_or (block_size (address - heap_start) s.heap) NotABlock → room ≤ size → is_some (buffer_at address room s) ≡ true
  buffer-wide {size} e h = roomy room size (heap_block_at address s) e ∙ le-true room size h

  pub buffer-narrow : {size : ℕ} → Ok size ≡ ok_or (block_size (address - heap_start) s.heap) NotABlock → size < room
      → is_some (buffer_at address room s) ≡ false
  buffer-narrow {size} e h = roomy room size (heap_block_at address s) e ∙ le-false room size h

  pub buffer-none : {r : Refusal} → Err r ≡ ok_or (block_size (address - heap_start) s.heap) NotABlock → is_some (buffer_at address room s) ≡ false
  buffer-none e = roomless room (heap_block_at address s) e

-- ---- what is out of reach

module _ (t r : Task) (address room place n : ℕ) where
  pub reach-buffer : is_some (buffer_at address room r.slot) ≡ true → is_bad_range t r address room place n ≡ false
  reach-buffer e = rw e refl

  pub reach-nothing : is_some (buffer_at address room r.slot) ≡ false → holds address room r.slot ≡ false → is_bad_range t r address room place n ≡ true
  reach-nothing e h = rw (e, h) refl

  pub reach-block : is_some (buffer_at address room r.slot) ≡ false → holds address room r.slot ≡ true
      → is_bad_range t r address room place n ≡ (t.handle == r.handle && overlap address room place n)
  reach-block e h = rw (e, h) refl
