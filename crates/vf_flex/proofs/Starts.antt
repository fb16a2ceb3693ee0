-- A slot begins where there is a page.
use Rattle.std.proofs.Common.{◌≡◌, ℕ, ◌≤◌, ◌/◌, ◌^◌, false, nat_lt, refl, ap, ◌∙◌, arith}
use Rattle.std.specs.Prelude.{Ok, Err}
use Rattle.std.proofs.lemmas.Bool.Decides.{nat_tests}
use Rattle.rh_defs.specs.Chain.{◌>>=◌, refuse_if, outcome_of}
use Rattle.rh_defs.specs.Slot.{new_slot, slot_begin}
use Rattle.rh_defs.specs.declared.refusal.Refusal.{Refusal}
use Rattle.rh_lent_slot.specs.declared.slot.LentSlot.{LentSlot}
use Rattle.rh_slot.specs.declared.image.TheConstants.{LONGEST_SLOT}
use Rattle.vf_flex.specs.SlotStatus.{length_status, slot_status}

begins : (n : ℕ) → 1 ≤ n → slot_begin n ≡ Ok new_slot
unfolding slot_begin ◌>>=◌ refuse_if
begins n l = let e : nat_lt n 1 ≡ false = grind (arith, nat_tests) in rw e refl

-- a length that a slot may have is a page at least, and 1 GiB at most
pub least : (n : ℕ) → length_status n ≡ 0 → 4096 ≤ n
unfolding length_status
least n e = grind (arith, nat_tests)

pub most : (n : ℕ) → length_status n ≡ 0 → n ≤ 2 ^ 30
unfolding length_status
most n e = grind (arith, nat_tests)

-- so that no start is refused there
pub granted : (n : ℕ) (refusal : Refusal) → length_status n ≡ 0 → Err refusal ≡ outcome_of (slot_begin (n / 4096))
    → ⊥
granted n refusal e is =
    let l = least n e in
    let no : Err refusal ≡ Ok tt = is ∙ ap outcome_of (begins (n / 4096) (omega arith)) in
    absurd cc

-- no slot lies in more than 28 MiB
pub within : (n : ℕ) (s : LentSlot) → slot_status n s ≡ 0 → n ≤ LONGEST_SLOT
unfolding slot_status length_status
within n s e = grind (arith, nat_tests)
