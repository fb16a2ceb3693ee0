-- A block of a slot stands where its anchor's word says.
use Rattle.std.proofs.Common.{◌≡◌, ℕ, inl, inr, ◌+◌, ◌*◌, ◌<◌, ◌≤◌, List, [], ◌∷◌, ◌++◌, length, Option, Some, None, Bool, true, false, refl, sym, ap, subst}
use Rattle.std.proofs.Common.{◌∙◌, arith}
use Rattle.std.specs.Prelude.{◌==◌, if◌then◌else◌, find}
use Rattle.std.specs.Option.{option_map}
use Rattle.rh_defs.specs.Bytes.{word}
use Rattle.rh_defs.specs.Pieces.{Split, total}
use Rattle.rh_defs.specs.Slot.{Flex, Slot, weight, slot_start, slot_length, flex_weight, HaveAnchors, anchor_count}
use Rattle.rh_defs.specs.SlotImage.{Lie, Anchored, SlotWords, SpellsSlot, flex_place}
use Rattle.rh_defs.specs.Desk.{Task}
use Rattle.rh_defs.proofs.SlotLaws as slots
use Rattle.rh_safety.specs.Offered.{bytes_of_block}
use Rattle.rh_safety.proofs.Basics.{none_some, same_value}
use Rattle.rh_tasks.specs.Shown.{SpellSlots}
use Rattle.rh_received.specs.Received.{AnchorLeadsTo, received_slot_bytes}

-- the blocks of two lists weigh what both weigh
weights : (xs ys : List Flex) → total weight (xs ++ ys) ≡ total weight xs + total weight ys
weights [] ys = omega arith
weights (f ∷ xs) ys = omega (arith, weights xs ys)

-- a block takes its two header words and its bytes at least
weighs : (n : ℕ) → 8 + n ≤ flex_weight n
weighs n = omega arith

-- the slot's block with the anchor, in bytes that hold the slot
block-stands : (b : List ℕ) (s : Slot) (k : ℕ) → SlotWords b s → (t : slots.At k s.blocks) → AnchorLeadsTo b k t.here.bytes
block-stands b s k w t =
    let lie = (slots.Lie-split b (flex_place s) t.before (t.here ∷ t.after) (subst (Lie b (flex_place s)) t.is w.lie)).1 in
    let led = (slots.Anchored-split b (flex_place s) t.before (t.here ∷ t.after) (subst (Anchored b (flex_place s)) t.is w.anchored)).1 in
    let cut = slots.HaveAnchors-cut t.before t.here t.after (subst HaveAnchors t.is w.anchors) in
    let small : t.here.anchor < anchor_count = cut.small in
    let anchor : t.here.anchor ≡ k = t.anchor in
    let within : slot_length s ≤ length b = w.within in
    let sum : total weight s.blocks ≡ total weight t.before + (weight t.here + total weight t.after) =
    ap (total weight) t.is ∙ weights t.before (t.here ∷ t.after) in
    let heavy : 8 + length t.here.bytes ≤ weight t.here = weighs (length t.here.bytes) in
    record {
      anchor = omega (arith, small, anchor);
      place = flex_place s + total weight t.before;
      address = ap (λ j. word b (4 * j)) (sym t.anchor) ∙ led.0;
      owner = lie.0 ∙ ap (λ j. slot_start + 4 * j) t.anchor;
      size = lie.1;
      stands = lie.2;
      within = omega (arith, within, sum, heavy);
    }

-- what the slot's definitions have of an anchor, in bytes that hold the slot
pub anchored : (b : List ℕ) (s : Slot) (k : ℕ) (got : List ℕ) → SlotWords b s → bytes_of_block s k ≡ Some got → AnchorLeadsTo b k got
anchored b s k got w e = elim (slots.find k s.blocks) [
  | inl free ↦ absurd (none_some (bytes_of_block s k) (ap (option_map (λ (c : Split Flex). c.here.bytes)) (slots.block_of-none k s free)) e)
  | inr t ↦ subst (AnchorLeadsTo b k) (same_value (bytes_of_block s k) (found t) e) (block-stands b s k w t)
]
  where
    found : (t : slots.At k s.blocks) → bytes_of_block s k ≡ Some t.here.bytes
    found t = ap (option_map (λ (c : Split Flex). c.here.bytes)) (slots.block_of-at k s (record { before = t.before; here = t.here; after = t.after }) t.is
        t.free t.anchor)

-- ---- of the task with the handle

-- the bytes that were found, and the slot that they spell
pub record SlotIn (found : Option (List ℕ)) (t : Task) : Type 0 where
  pub slot : List ℕ
  pub is : found ≡ Some slot
  pub spells : SpellsSlot slot t.slot

pub slot-of : (h : ℕ) (tasks : List Task) (slots : List (List ℕ)) (t : Task) → SpellSlots slots tasks →
    find (λ (x : Task). x.handle == h) tasks ≡ Some t → SlotIn (received_slot_bytes h tasks slots) t
slot-of h [] slots t w e = absurd (none_some None refl e)
slot-of h (x ∷ tasks) [] t w e = absurd w
slot-of h (x ∷ tasks) (b ∷ slots) t w e = go (x.handle == h) (slot-of h tasks slots t w.1) e
  where
    go : (c : Bool) → (find (λ (y : Task). y.handle == h) tasks ≡ Some t → SlotIn (received_slot_bytes h tasks slots) t) →
        (if c then Some x else find (λ (y : Task). y.handle == h) tasks) ≡ Some t →
        SlotIn (if c then Some b else received_slot_bytes h tasks slots) t
    go true rest q = record { slot = b; is = refl; spells = subst (λ (y : Task). SpellsSlot b y.slot) (same_value (Some x) refl q) w.0 }
    go false rest q = rest q
