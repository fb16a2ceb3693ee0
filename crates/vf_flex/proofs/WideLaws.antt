-- Calls on wide slots, as C sees them.
use Rattle.std.proofs.Common.{◌≡◌, ℕ, ◌+◌, ◌<◌, List, length, get_or, set, refl, sym, ap, ◌∙◌, arith, inl, inr, get_or-set_same, get_or-set_other}
use Rattle.std.specs.Prelude.{Option, Ok, Err}
use Rattle.std.proofs.lemmas.Bool.{cases_eq}
use Rattle.std.proofs.lemmas.List.{length-set}
use Rattle.rh_defs.specs.Chain.{Granted, answer_of, outcome_of}
use Rattle.rh_wide_slot.proofs.CallLaws.{place_none, place_done}
use Rattle.rh_wide_slot.specs.WideCalls.{LeavesBudged, LeavesWide, wide_place}
use Rattle.rh_wide_slot.specs.WideSlots.{row_place, row_size}
use Rattle.rh_wide_slot.specs.declared.slot.WideSlot.{WideSlot}
use Rattle.vf_flex.specs.SlotStatus.{answer_or, answer_status}
use Rattle.vf_flex.specs.WideStatus.{LeavesAs, wide_place_at}

outcome_status : {A : Type 0} (x : Granted A) → answer_status (outcome_of x) ≡ answer_status x
outcome_status (Ok x) = refl
outcome_status (Err r) = refl

pub same_status : {A B : Type 0} (x : Granted A) (y : Granted B) → outcome_of x ≡ outcome_of y → answer_status x ≡ answer_status y
same_status x y e = sym (outcome_status x) ∙ ap answer_status e ∙ outcome_status y

pub leaves_as : (b c : List ℕ) (s t : WideSlot) (k : ℕ) (granted : Granted (Option (List ℕ))) (outcome : Granted (Unit {0}))
    → LeavesWide b c s t k granted outcome → LeavesAs b c s t k granted
leaves_as b c s t k granted outcome l = record { answer = refl; left = l.left; err = l.err }

pub budged_as : (b c : List ℕ) (s t : WideSlot) (granted : Granted (ℕ × ℕ)) (result : Granted ℕ) → LeavesBudged b c s t granted result
    → LeavesBudged b c s t granted (answer_of granted)
budged_as b c s t granted result l = record { answer = refl; left = l.left; err = l.err }

-- where a block begins, or 0
pub place_told : (b : List ℕ) (k : ℕ) → answer_or (wide_place b k) 0 ≡ row_place b k
place_told b k = elim (cases_eq (row_place b k) 0) [
  | inl z ↦ ap (λ g. answer_or g 0) (place_none b k z) ∙ sym z
  | inr d ↦ ap (λ g. answer_or g 0) (place_done b k (row_size b k) d refl)
]

-- the places of the first i anchors are told
pub record WideTold (b : List ℕ) (s : WideSlot) (old now : List ℕ) (i : ℕ) : Type 0 where
  pub len : length now ≡ length old
  pub each : (k : ℕ) → k < i → get_or now k 0 ≡ wide_place_at b s k

pub none_wide_told : (b : List ℕ) (s : WideSlot) (old : List ℕ) → WideTold b s old old 0
none_wide_told b s old = record { len = refl; each = λ k l. absurd (omega arith) }

pub wide_told_more : (b : List ℕ) (s : WideSlot) (old now : List ℕ) (i place : ℕ) → i < length old → WideTold b s old now i
    → place ≡ wide_place_at b s i → WideTold b s old (set now i place) (i + 1)
wide_told_more b s old now i place inside t is =
    let len = t.len in
    record {
      len = length-set now i place ∙ len;
      each = λ k l. elim (cases_eq k i) [
        | inl e ↦ ap (λ j. get_or (set now i place) j 0) e ∙ get_or-set_same now i place 0 (omega arith) ∙ is ∙ ap (wide_place_at b s) (sym e)
        | inr d ↦ get_or-set_other now i k place 0 d ∙ t.each k (omega arith)
      ];
    }

-- for `grind`
pub ruleset wide_laws = (same_status, leaves_as, budged_as)
