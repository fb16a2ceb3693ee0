-- What a check of a slot's pages says of the bytes that they lie in.
use Rattle.rh_lent_slot.proofs.Common.{◌≡◌, ℕ, ◌*◌, ◌/◌, ◌^◌, ◌≤◌, ◌<◌, true, List, length, refl, arith, Some, nat_tests, length-take-le, PAGE}
use Rattle.rh_lent_slot.proofs.Common.{slot_of, IsSlotBytes, lent_slot_bytes, lent_slot_in}
use Rattle.rh_lent_slot.specs.LentSlotChecks.{IsShortSlot, pages_fault_of}
use Rattle.rh_lent_slot.specs.declared.slot.LentSlot.{LentSlot}
use Rattle.rh_lent_slot.proofs.SlotBytes.{budged}
use Rattle.rh_slot.specs.SlotChecks.{IsSlotImage, slot_fault_of, slot_summary}
use Rattle.rh_slot.specs.declared.image.SlotFault.TheVariants.{BadLength}
use Rattle.rh_store.specs.Limits.{area_limit}

module _ (b : List ℕ) (s : LentSlot) where
  -- where the pages' bytes are a slot's, all bytes have it
  pub short_from : length b ≤ area_limit → PAGE * s.pages ≤ length b
      → IsSlotImage (lent_slot_bytes b s) (slot_of true (lent_slot_bytes b s)) → IsShortSlot b s
  short_from few within image =
      let most = image.most in
      let long = length-take-le (PAGE * s.pages) b within in
      let slot : IsSlotBytes b (record { pages = s.pages; budge = true; slides = s.slides }) =
      record { few = few; within = within; spells = image.spells } in
      record { most = omega arith; slot = budged b (record { pages = s.pages; budge = true; slides = s.slides }) s.budge slot }

  -- and the other way round
  pub short_back : IsShortSlot b s → IsSlotImage (lent_slot_bytes b s) (slot_of true (lent_slot_bytes b s))
  short_back short =
      let most = short.most in
      let long = length-take-le (PAGE * s.pages) b short.slot.within in
      record { most = omega arith; spells = (budged b s true short.slot).spells }

  -- the pages lie in the bytes
  pub short_lies : IsShortSlot b s → s.pages ≤ length b / PAGE
  short_lies short = let within = short.slot.within in omega arith

  pub short_few : IsShortSlot b s → length b ≤ 2 ^ 30
  short_few short = short.slot.few

  -- the sums don't tell whether budging is on
  pub same_sums : slot_summary (PAGE * s.pages) (slot_of true (lent_slot_bytes b s)) ≡ slot_summary (PAGE * s.pages) (lent_slot_in b s)
  unfolding slot_of
  same_sums = refl

  -- the fault is that of the pages where they lie in the bytes
  pub fault_inside : length b ≤ area_limit → PAGE * s.pages ≤ length b → slot_fault_of (lent_slot_bytes b s) ≡ pages_fault_of b s
  unfolding pages_fault_of
  fault_inside few within = grind (arith, nat_tests)

  -- and else that of the length
  pub fault_long : area_limit < length b → pages_fault_of b s ≡ Some BadLength
  unfolding pages_fault_of
  fault_long l = grind (arith, nat_tests)

  pub fault_short : length b < PAGE * s.pages → pages_fault_of b s ≡ Some BadLength
  unfolding pages_fault_of
  fault_short l = grind (arith, nat_tests)
