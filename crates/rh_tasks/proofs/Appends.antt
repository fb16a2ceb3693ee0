-- A block of a slot that gets bytes from elsewhere in the store at its end.
use Rattle.rh_tasks.proofs.Common.{◌≡◌, ℕ, ◌-◌, ◌<◌, ◌≤◌, refl, ap, sym, ◌∙◌, arith, inl, inr, List, [], ◌∷◌, length, take, ◌⊎◌, Option, Some, None, Ok, Err}
use Rattle.rh_tasks.proofs.Common.{min, option_map, cases_lt, length-take, take_all, part, Memory, bytes, Refusal, NoBlock, NotABlock, Granted, Split}
use Rattle.rh_tasks.proofs.Common.{Segment, bytes_of, block_size, Slot, Flex, HaveAnchors, slot_start, heap_start, heap_block_at, slot_size, anchor_count}
use Rattle.rh_tasks.proofs.Common.{first_bytes, IsSlotIn, slot_in, slot_append}
use Rattle.std.specs.Option.{ok_or}
use Rattle.rh_defs.specs.SlotImage.{heap_place}
use Rattle.rh_defs.specs.Slot.{IsFree}
use Rattle.rh_slot.specs.declared.slot.Slot as code
use Rattle.rh_slot.proofs.AppendLaws.{append_none}
use Rattle.rh_slot.proofs.FlexLaws.{size_none}
use Rattle.rh_slot.proofs.Ranges.{heap-part, heap-low}
use Rattle.rh_tasks.specs.WorldPolls.{AreFirst}

-- ---- the anchor's block

-- an anchor above all slots' has none
free-above : (k : ℕ) (blocks : List Flex) → anchor_count ≤ k → HaveAnchors blocks → IsFree k blocks
free-above k [] high h = tt
free-above k (b ∷ blocks) high h = ((λ q. absurd (omega (arith, q, h.0))), free-above k blocks high h.2)

pub size-above : (k : ℕ) (s : Slot) → anchor_count ≤ k → HaveAnchors s.blocks → slot_size k s ≡ Err NoBlock
size-above k s high h = size_none k s (free-above k s.blocks high h)

-- an anchor with a size is one of a slot's
pub sized-anchor : (k n : ℕ) (s : Slot) → Ok n ≡ slot_size k s → HaveAnchors s.blocks → k < anchor_count
sized-anchor k n s e h = go (cases_lt k anchor_count)
  where
    go : (k < anchor_count) ⊎ (anchor_count ≤ k) → k < anchor_count
    go (inl l) = l
    go (inr l) = absurd (let q : Ok n ≡ Err NoBlock = e ∙ size-above k s l h in cc)

-- it gets no bytes
pub append-above : (free k : ℕ) (xs : List ℕ) (s : Slot) → anchor_count ≤ k → HaveAnchors s.blocks → slot_append free k xs s ≡ Err NoBlock
append-above free k xs s high h = append_none free k xs s (free-above k s.blocks high h)

-- ---- bytes of the C heap

first-take : (n most : ℕ) (xs : List ℕ) → n ≡ length (take most xs) → (n ≤ length xs) × (take n xs ≡ take most xs)
first-take n most xs e = elim (cases_lt most (length xs)) [
  | inl l ↦ (omega (arith, l, e, length-take most xs), ap (λ i. take i xs) (omega (arith, l, e, length-take most xs)))
  | inr l ↦ (omega (arith, l, e, length-take most xs), take_all n xs (omega (arith, l, e, length-take most xs)) ∙ sym (take_all most xs l))
]

module _ {m : Memory} {slot : code.Slot} (is : IsSlotIn m slot) (place n : ℕ) where
  abbrev s : Slot
  s = slot_in m slot

  first-of : (f : AreFirst place n s) (o : Option (Split Segment)) → heap_block_at f.address s ≡ o → part (bytes m slot.area.0) place n ≡ first_bytes f.most o
  unfolding part
  first-of f None e = let none : n ≡ 0 = f.n_is ∙ ap (λ o. length (first_bytes f.most o)) e in rw none refl
  first-of f (Some b) e =
      let size : n ≡ length (take f.most (bytes_of b.here)) = f.n_is ∙ ap (λ o. length (first_bytes f.most o)) e in
      let q = first-take n f.most (bytes_of b.here) size in
      let h = heap-part m slot f.address n b is e q.0 in
      rw f.place_is (sym h.1.is ∙ q.1)

  -- the bytes that stand there
  pub first-part : (f : AreFirst place n s) → part (bytes m slot.area.0) place n ≡ first_bytes f.most (heap_block_at f.address s)
  first-part f = first-of f (heap_block_at f.address s) refl

  above-of : (f : AreFirst place n s) (o : Option (Split Segment)) → heap_block_at f.address s ≡ o → 0 < n → heap_place ≤ place
  above-of f None e l = absurd (let none : n ≡ 0 = f.n_is ∙ ap (λ o. length (first_bytes f.most o)) e in omega (arith, l, none))
  above-of f (Some b) e l = omega (arith, f.place_is, heap-low m slot f.address b is e)

  -- above the anchor words
  pub first-above : AreFirst place n s → 0 < n → heap_place ≤ place
  first-above f l = above-of f (heap_block_at f.address s) refl l

-- ---- the first bytes of a buffer

-- nowhere
pub none-first : (s : Slot) → AreFirst 0 0 s
none-first s = record { address = 0; most = 0; place_is = omega arith; n_is = no-bytes (heap_block_at 0 s); below = omega arith }
  where
    no-bytes : (o : Option (Split Segment)) → 0 ≡ length (first_bytes 0 o)
    no-bytes None = refl
    no-bytes (Some b) = refl

module _ (buffer : ℕ) (s : Slot) where
  abbrev told : Granted ℕ
  told = ok_or (block_size (buffer - heap_start) s.heap) NotABlock

  none-told : (r : Refusal) (count : ℕ) (o : Option (Split Segment)) → Err r ≡ ok_or (option_map (λ b. length (bytes_of b.here)) o) NotABlock
      → [] ≡ first_bytes count o
  none-told r count None e = refl
  none-told r count (Some b) e = absurd cc

  pub none-held : (r : Refusal) (count : ℕ) (xs : List ℕ) → Err r ≡ told → part xs 0 0 ≡ first_bytes count (heap_block_at buffer s)
  unfolding part
  none-held r count xs e = none-told r count (heap_block_at buffer s) e

  block-told : (size : ℕ) (o : Option (Split Segment)) → Ok size ≡ ok_or (option_map (λ b. length (bytes_of b.here)) o) NotABlock
      → (b : Split Segment) × ((o ≡ Some b) × (size ≡ length (bytes_of b.here)))
  block-told size None e = absurd cc
  block-told size (Some b) e = (b, (refl, cc))

  block-held : (size : ℕ) → Ok size ≡ told → (b : Split Segment) × ((heap_block_at buffer s ≡ Some b) × (size ≡ length (bytes_of b.here)))
  block-held size e = block-told size (heap_block_at buffer s) e

module _ {m : Memory} {slot : code.Slot} (is : IsSlotIn m slot) (buffer place held size count : ℕ) (p : place ≡ buffer - slot_start) (q : held ≡ min size count)
    (e : Ok size ≡ told buffer (slot_in m slot)) where
  pub held-first : AreFirst place held (slot_in m slot)
  held-first =
      let b = block-held buffer (slot_in m slot) size e in
      let long : held ≡ length (take count (bytes_of b.0.here)) = omega (arith, q, b.1.1, length-take count (bytes_of b.0.here)) in
      let part = heap-part m slot buffer held b.0 is b.1.0 (omega (arith, q, b.1.1)) in
      record {
        address = buffer;
        most = count;
        place_is = p;
        n_is = long ∙ sym (ap (λ o. length (first_bytes count o)) b.1.0);
        below = omega (arith, p, part.1.high);
      }

  pub held-bytes : part (bytes m slot.area.0) place held ≡ first_bytes count (heap_block_at buffer (slot_in m slot))
  unfolding held-first
  held-bytes = first-part is place held held-first
