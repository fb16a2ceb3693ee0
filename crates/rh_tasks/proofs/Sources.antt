-- Where the bytes of a portion stand, and the range of a buffer that they are written into.
use Rattle.rh_tasks.proofs.Common.{◌≡◌, ◌⊎◌, inl, inr, ℕ, zero, suc, ◌+◌, ◌-◌, ◌<◌, ◌≤◌, Bool, true, false, refl, ap, sym, subst, ◌∙◌, arith, length, Option}
use Rattle.rh_tasks.proofs.Common.{Some, None, Ok, IfSome, is_some, not, ◌&&◌, ◌||◌, nat_le, nat_lt, if◌then◌else◌, take, drop, part, Memory, bytes, total}
use Rattle.rh_tasks.proofs.Common.{Split, Segment, bytes_of, Flex, weight, flex_start, flex_address, heap_start, heap_block_at, slot_block, holds, flex_place}
use Rattle.rh_tasks.proofs.Common.{buffer_at, overlap, IsCut, first_at-cuts, IsSlotIn, slot_in, Standing, Task, IsPortion, lt-true, min}
use Rattle.std.proofs.lemmas.Bool.{leb-true}
use borrow.Author.Tests.{ltb-false}
use Rattle.rh_defs.specs.declared.transfer_action.Transmit.{Transmit}
use Rattle.rh_defs.specs.declared.transfer_action.Part.{Part}
use Rattle.rh_defs.specs.Pieces.{is_inside}
use Rattle.rh_defs.specs.Heap.{block_around}
use Rattle.rh_defs.specs.Slot as plain
use Rattle.rh_defs.specs.Slot.{flex_around}
use Rattle.rh_defs.specs.Places.{roomy_in}
use Rattle.rh_slot.specs.declared.slot.Slot.{Slot}
use Rattle.rh_slot.proofs.Ranges.{flex-part, heap-part}

zero-or : (n : ℕ) → (n ≡ 0) ⊎ (0 < n)
zero-or zero = inl refl
zero-or (suc n) = inr (omega arith)

-- ---- the bytes of a source

-- n bytes of the anchor's block, from the count on, stand at a place of the slot's area
pub record Portioned (m : Memory) (slot : Slot) (k count n place : ℕ) (source : Split Flex) : Type 0 where
  pub block : slot_block k (slot_in m slot) ≡ Ok source
  pub none : n ≡ 0 → place ≡ 0
  pub some : 0 < n → place ≡ flex_address (slot_in m slot) source.before + count - 32768
  pub within : 0 < n → count + n ≤ length source.here.bytes

pub portioned : {t : Task} {a : Transmit} {address size : ℕ} {b : Part} (m : Memory) (slot : Slot) (p : IsPortion t a address size b) → t.slot ≡ slot_in m slot
    → (place : ℕ) → (b.n ≡ 0 → place ≡ 0) → (0 < b.n → place ≡ address - 32768) → Portioned m slot a.transfer.anchor b.offset b.n place p.source
portioned {t} {a} {address} {size} {b} m slot p e place none some =
    let from : b.offset ≡ a.transfer.count = ap (λ (x : Part). x.offset) p.part_is in
    let long : b.n ≡ min a.room (size - a.transfer.count) = ap (λ (x : Part). x.n) p.part_is in
    record {
      block = subst (λ s. slot_block a.transfer.anchor s ≡ Ok p.source) e p.block;
      none = none;
      some = λ h. some h ∙ ap (λ k. k - 32768) (p.address_is ∙ ap (λ s. flex_address s p.source.before + b.offset) e);
      within = λ h. omega (arith, h, from, long, p.size_is);
    }

module _ {m : Memory} {slot : Slot} {k count n place : ℕ} {source : Split Flex} (is : IsSlotIn m slot) (p : Portioned m slot k count n place source) where
  range : 0 < n → Standing (bytes m slot.area.0) (take n (drop count source.here.bytes)) (flex_address (slot_in m slot) source.before + count - 32768) n
      (flex_place (slot_in m slot)) (length (bytes m slot.area.0))
  range h = flex-part m slot k count n source is p.block (p.within h)

  pub portion-inside : place + n ≤ length (bytes m slot.area.0)
  portion-inside = elim (zero-or n) [ inl q ↦ omega (arith, q, p.none q) | inr h ↦ omega (arith, (range h).high, p.some h) ]

  pub portion-bytes : part (bytes m slot.area.0) place n ≡ take n (drop count source.here.bytes)
  unfolding part
  portion-bytes = elim (zero-or n) [
    | inl q ↦ rw q refl
    | inr h ↦ ap (λ a. part (bytes m slot.area.0) a n) (p.some h) ∙ sym (range h).is
  ]

  portion-above : 0 < n → flex_place (slot_in m slot) ≤ place
  portion-above h = omega (arith, (range h).low, p.some h)

-- ---- the range of a buffer

-- what isn't out of reach is a buffer, or a range of a block that is not the bytes' own
held-or : (a h c : Bool) → (not a && (not h || c)) ≡ false → (a ≡ true) ⊎ ((h ≡ true) × (c ≡ false))
held-or true h c e = inl refl
held-or false true c e = inr (refl, e)
held-or false false c e = absurd (cc)

pub in-reach : (a h c : Bool) → (not a && (not h || c)) ≡ false → (a || h) ≡ true
in-reach true h c e = refl
in-reach false true c e = refl
in-reach false false c e = absurd (cc)

and-first : (a b : Bool) → (a && b) ≡ true → a ≡ true
and-first true b e = refl
and-first false b e = e

-- ranges that share no byte lie one below the other
apart-of : (x n y k : ℕ) → overlap x n y k ≡ false → 0 < n → 0 < k → (y + k ≤ x) ⊎ (x + n ≤ y)
apart-of x n y k o h i = go (nat_lt x (y + k)) (nat_lt y (x + n)) refl refl
  where
    go : (p q : Bool) → nat_lt x (y + k) ≡ p → nat_lt y (x + n) ≡ q → (y + k ≤ x) ⊎ (x + n ≤ y)
    go false q e f = inl (ltb-false _ _ e)
    go true false e f = inr (ltb-false _ _ f)
    go true true e f = absurd (let z = rw (lt-true 0 n h, lt-true 0 k i, e, f) at o in cc)

buffer-cut : (n : ℕ) (o : Option (Split Segment)) → is_some (roomy_in n o) ≡ true → (b : Split Segment) × ((o ≡ Some b) × (n ≤ length (bytes_of b.here)))
buffer-cut n None e = absurd (cc)
buffer-cut n (Some b) e = (b, (refl, go (nat_le n (length (bytes_of b.here))) refl e))
  where
    go : (t : Bool) → nat_le n (length (bytes_of b.here)) ≡ t → is_some (if t then Some b else None) ≡ true → n ≤ length (bytes_of b.here)
    go true q h = leb-true _ _ q
    go false q h = absurd (cc)

flex-low : (x n : ℕ) (s : plain.Slot) (o : Option (Split Flex))
    → IfSome o (IsCut weight (λ place b. is_inside x n (place + 8) (length b.bytes)) (flex_start s) s.blocks) → is_some o ≡ true → 32768 ≤ x
flex-low x n s None c e = absurd (cc)
flex-low x n s (Some b) c e =
    let start : ℕ = flex_start s + total weight b.before + 8 in
    omega (arith, leb-true start x (and-first (nat_le start x) (nat_le (x + n) (start + length b.here.bytes)) c.passes))

held-low : (x n : ℕ) (s : plain.Slot) → holds x n s ≡ true → 32768 ≤ x
held-low x n s e = go (is_some (flex_around x n s)) refl e
  where
    go : (a : Bool) → is_some (flex_around x n s) ≡ a → (a || (nat_le heap_start x && is_some (block_around (x - heap_start) n s.heap))) ≡ true → 32768 ≤ x
    go true q h = flex-low x n s (flex_around x n s) (first_at-cuts weight (λ place b. is_inside x n (place + 8) (length b.bytes)) (flex_start s) s.blocks) q
    go false q h = omega (arith, leb-true heap_start x (and-first (nat_le heap_start x) (is_some (block_around (x - heap_start) n s.heap)) h))

module _ {m : Memory} {slot : Slot} {k count n place : ℕ} {source : Split Flex} (is : IsSlotIn m slot) (p : Portioned m slot k count n place source)
    (address room : ℕ) (fits : n ≤ room) (same : Bool) (yes : same ≡ true)
    (reach : (not (is_some (buffer_at address room (slot_in m slot)))
    && (not (holds address room (slot_in m slot)) || (same && overlap address room (flex_address (slot_in m slot) source.before + count) n))) ≡ false) where
  abbrev s : plain.Slot
  s = slot_in m slot

  abbrev from : ℕ
  from = flex_address s source.before + count

  buffer-apart : is_some (buffer_at address room s) ≡ true → 0 < n → address - 32768 + n ≤ place
  buffer-apart e h =
      let b = buffer-cut room (heap_block_at address s) e in
      let z = heap-part m slot address room b.0 is b.1.0 b.1.1 in
      omega (arith, z.1.high, fits, portion-above is p h)

  block-apart : holds address room s ≡ true → (same && overlap address room from n) ≡ false → 0 < n
      → (place + n ≤ address - 32768) ⊎ (address - 32768 + n ≤ place)
  block-apart e f h =
      let o : overlap address room from n ≡ false = rw yes at f in
      elim (apart-of address room from n o (omega (arith, h, fits)) h) [
        | inl q ↦ inl (omega (arith, q, p.some h))
        | inr q ↦ inr (omega (arith, q, p.some h, fits, held-low address room s e))
      ]

  -- the two ranges of one slot
  pub ranges-apart : (place + n ≤ address - 32768) ⊎ (address - 32768 + n ≤ place)
  ranges-apart = elim (zero-or n) [
    | inl q ↦ inl (omega (arith, q, p.none q))
    | inr h ↦ elim (held-or (is_some (buffer_at address room s)) (holds address room s) (same && overlap address room from n) reach)
        [ inl e ↦ inr (buffer-apart e h) | inr e ↦ block-apart e.0 e.1 h ]
  ]
