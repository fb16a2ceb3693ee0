-- A wide slot begins where a start may be asked for, and what is given below its blocks begins at their base.
use Rattle.std.proofs.Common.{◌≡◌, ℕ, ◌*◌, ◌≤◌, ◌^◌, refl, sym, ap, ◌∙◌, arith, inl, inr}
use Rattle.std.specs.Prelude.{Err}
use Rattle.std.proofs.lemmas.Bool.{cases_lt}
use Rattle.std.proofs.lemmas.Bool.Decides.{nat_tests}
use Rattle.rh_defs.specs.Chain.{Granted, answer_of}
use Rattle.rh_defs.specs.Pieces.{round_up}
use Rattle.rh_defs.specs.declared.refusal.Refusal.TheVariants.{NoRoom}
use Rattle.rh_wide_slot.proofs.CallLaws.{budge_full, budge_done}
use Rattle.rh_wide_slot.specs.WideCalls.{wide_budge}
use Rattle.rh_wide_slot.specs.WideSlots.{IsAnchorCount}
use Rattle.rh_wide_slot.specs.declared.slot.WideSlot.{WideSlot}
use Rattle.vf_flex.specs.SlotStatus.{answer_or, answer_status}
use Rattle.vf_flex.specs.WideStatus.{start_with_status}

module _ (n anchors : ℕ) (ok : start_with_status n anchors ≡ 0) where
  pub few : n ≤ 2 ^ 30
  unfolding start_with_status
  few = grind (arith, nat_tests)

  pub count : IsAnchorCount anchors
  unfolding start_with_status
  count = (grind (arith, nat_tests), grind (arith, nat_tests))

  pub room : 8 * anchors ≤ n
  unfolding start_with_status
  room = grind (arith, nat_tests)

pub given_from : (space n old : ℕ) (s : WideSlot) (answer : Granted ℕ) → answer ≡ answer_of (wide_budge space n s) → answer_status answer ≡ 0
    → answer_or answer old ≡ s.base
given_from space n old s answer e ok = elim (cases_lt space (round_up 8 n)) [
  | inl l ↦ (
      let no : answer ≡ Err NoRoom = e ∙ ap answer_of (budge_full space n s l) in
      let z : ◌≡◌ {A = ℕ} 20 0 = sym (ap (λ (a : Granted ℕ). answer_status a) no) ∙ ok in
      absurd (omega arith)
      )
  | inr g ↦ ap (λ a. answer_or a old) (e ∙ ap answer_of (budge_done space n (round_up 8 n) s refl g))
]
