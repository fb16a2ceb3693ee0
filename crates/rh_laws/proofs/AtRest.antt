-- A desk at rest: no record waits, and those that are open are offers whose recipient never answered.
use Rattle.rh_laws.proofs.Common.{AllByRecursion, Desk, Has, List, None}
use Rattle.rh_laws.proofs.Common.{Seat, Sending, Some, Task, []}
use Rattle.rh_laws.proofs.Common.{and_left, and_right, answers_none, ap, eqb_tells, false, field_is}
use Rattle.rh_laws.proofs.Common.{held_by}
use Rattle.rh_laws.proofs.Common.{inl, inr, is_equal, map}
use Rattle.rh_laws.proofs.Common.{none_some, option_map}
use Rattle.rh_laws.proofs.Common.{refl, subst, sym, task_of, true}
use Rattle.rh_laws.proofs.Common.{view, ℕ, ◌&&◌, ◌==◌, ◌∙◌, ◌∷◌, ◌≡◌}
use Rattle.rh_safety.proofs.Invariant.{IsLive}
use Rattle.rh_safety.proofs.View.{seen_parcel}
use Rattle.rh_laws.specs.Progress.{IsAtRest}
use Rattle.rh_laws.specs.Rest.{IsOffered}
use Rattle.rh_laws.proofs.Wants.{WaitsFor, Want, ref_of}

pub rest-held : (h : ℕ) (seats : List Seat) → AllByRecursion (λ (s : Seat). s.holds ≡ None) seats → held_by h seats ≡ None
rest-held h [] all = refl
rest-held h (s ∷ seats) all = elim (eqb_tells s.handle h) [ inl z ↦ rw z.0 all.0 | inr z ↦ rw z.0 (rest-held h seats all.1) ]

pub none-waits : (d : Desk) → IsAtRest d.post → (h : ℕ) (w : Want) → WaitsFor (view d) h w → ⊥
none-waits d rest h w (inr a) = subst (Has a.answer) (ap (map seen_parcel) rest.queue) a.queued
none-waits d rest h w (inl u) = by u.live
  where
    by : IsLive (view d).queue (view d).held (ref_of w) → ⊥
    by (IsLive.waits m has e) = subst (Has m) (ap (map seen_parcel) rest.queue) has
    by (IsLive.rests k m is e) = none_some ((view d).held k) (ap (option_map seen_parcel) (rest-held k d.post.seats rest.held)) is

-- an open record of a task that answers no fetch, whose DataSave is its last message
pub offered_only : (d : Desk) (h : ℕ) (t : Task) → task_of h d.tasks ≡ Some t → (x : Sending) → (x.last ≡ x.id → x.count ≡ 0) →
    ((view d).file h && x.last == x.id) ≡ true → IsOffered t x
offered_only d h t at x unread e =
    let last : x.last ≡ x.id = is_equal _ _ (and_right ((view d).file h) _ e) in
    record {
      manner = sym (field_is (λ y. answers_none y.manner) false h d.tasks t at) ∙ and_left ((view d).file h) _ e;
      last = last;
      count = unread last;
    }
