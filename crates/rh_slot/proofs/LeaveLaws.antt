-- What a call leaves, by what it is granted.
use Rattle.rh_slot.proofs.Common.{◌≡◌, ℕ, sym, ap, subst, ◌∙◌, Ok, Err, Memory, Edited, OnlyArea, Resized, Granted, left_of, Refusal, OnlyArea-both}
use Rattle.rh_slot.proofs.Common.{OnlyArea-from_Edited, IsSlotIn, SpellsSlotIn, slot_in, LeavesSlotIn}
use Rattle.rh_defs.specs.Chain.{answer_of}
use Rattle.rh_defs.specs.Slot as plain
use Rattle.rh_defs.proofs.MemoryLaws.{OnlyArea-self}
use Rattle.rh_slot.specs.declared.slot.Slot.{Slot}
use Rattle.rh_slot.proofs.SpanLaws.{slot_now, is_slot}

module _ {A : Type 0} (m n : Memory) (slot : Slot) (granted : Granted (plain.Slot × A)) where
  -- it is done
  pub leaves : (s : plain.Slot) (answer : A) → granted ≡ Ok (s, answer) → s.budging ≡ slot.budge → SpellsSlotIn n slot s → OnlyArea m n slot.area.0
      → LeavesSlotIn m n slot granted (Ok answer)
  leaves s answer e b k only = record {
    answer = sym (ap answer_of e);
    slot = slot_now n slot s k b ∙ sym (ap (left_of (slot_in m slot)) e);
    spells = subst (λ g. SpellsSlotIn n slot (left_of (slot_in m slot) g)) (sym e) k;
    still = is_slot n slot s only.opened k;
    only = only;
    err = tt;
  }

  -- it is refused, and nothing has changed
  pub refuses : (refusal : Refusal) → granted ≡ Err refusal → n ≡ m → IsSlotIn m slot → LeavesSlotIn m n slot granted (Err refusal)
  refuses refusal e same s =
      let now = subst (λ i. IsSlotIn i slot) (sym same) s in
      let old : slot_in n slot ≡ slot_in m slot = ap (λ i. slot_in i slot) same in
      record {
        answer = sym (ap answer_of e);
        slot = old ∙ sym (ap (left_of (slot_in m slot)) e);
        spells = subst (λ g. SpellsSlotIn n slot (left_of (slot_in m slot) g)) (sym e) (subst (SpellsSlotIn n slot) old now.spells);
        still = now;
        only = subst (λ i. OnlyArea m i slot.area.0) (sym same) (OnlyArea-self m slot.area.0 s.opened);
        err = same;
      }

  -- the same, granted in other words
  pub in_other_words : (words : Granted (plain.Slot × A)) (r : Granted A) → granted ≡ words → LeavesSlotIn m n slot words r → LeavesSlotIn m n slot granted r
  in_other_words words r e l = subst (λ g. LeavesSlotIn m n slot g r) (sym e) l

-- an area that changed alone, and then at some of its bytes, or in its length
pub then_edited : {m n k : Memory} {id lo hi : ℕ} → OnlyArea m n id → Edited n k id lo hi → OnlyArea m k id
then_edited {m} {n} {k} {id} d e = OnlyArea-both m n k id d (OnlyArea-from_Edited n k id _ _ e)

pub then_resized : {m n k : Memory} {id keep count : ℕ} → OnlyArea m n id → Resized n k id keep count → OnlyArea m k id
then_resized {m} {n} {k} {id} d r = OnlyArea-both m n k id d r.only
