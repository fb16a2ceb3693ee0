-- A worked run whose sender says Done before its receiver does, and a sender that says so too soon, of which done_law fails.
use Rattle.rh_laws.proofs.Common.{Desk, EventCode, Has, Incoming, List, None, Option, Outgoing, Parcel, Recorded, Some, String, Task, User, [], after, ap}
use Rattle.rh_laws.proofs.Common.{contains_of, false, fresh, hex_on_literals, inl, inr, map, refl, script, subst, sym, task_at, with_sending, ◌++◌, ◌∙◌, ◌∷◌}
use Rattle.rh_laws.proofs.Common.{◌≡◌}
use Rattle.rh_safety.proofs.Basics.{has_of}
use Rattle.rh_defs.specs.declared.transfer.Incoming.TheVariants as incoming
use Rattle.rh_defs.specs.declared.transfer.Outgoing.TheVariants as outgoing
use Rattle.rh_defs.specs.Inner.Computing.{computing_script}
use Rattle.rh_laws.specs.SendersDone.{Matches, WhereDone}

abbrev sending_of : Option Task → List Outgoing
sending_of None = []
sending_of (Some t) = t.sending

abbrev taking_of : Option Task → List Incoming
taking_of None = []
taking_of (Some t) = t.taking

abbrev codes_of : List Parcel → List EventCode
codes_of queue = map (λ (p : Parcel). p.code) queue

-- six bytes by a buffer of four: a has answered the first fetch
abbrev once_sent : List String
once_sent = "task a 4" ∷ "task b 4" ∷ "alloc a 0 6" ∷ "save a 0 b doc" ∷ "poll b" ∷ "poll a" ∷ []

-- b has taken four bytes, and a has sent the last two
abbrev twice_sent : List String
twice_sent = once_sent ++ "poll b" ∷ "poll a" ∷ []

says_done : sending_of (task_at 1 (after fresh (script twice_sent))) ≡ outgoing.Done 1 6 ∷ []
unfolding computing_script hex_on_literals
says_done = refl

still_fetches : taking_of (task_at 2 (after fresh (script twice_sent))) ≡
    incoming.Fetching (record { id = 1; sender = 1; anchor = 0; buffer = 33044; count = 4; fetch = 4; raw = false }) ∷ []
unfolding computing_script hex_on_literals
still_fetches = refl

-- its last transmit is queued, which wants no answer
on_its_way : codes_of (after fresh (script twice_sent)).post.queued ≡ User ∷ []
unfolding computing_script hex_on_literals
on_its_way = refl

then_done : taking_of (task_at 2 (after fresh (script (twice_sent ++ "poll b" ∷ [])))) ≡ incoming.Done 1 0 6 ∷ []
unfolding computing_script hex_on_literals
then_done = refl

-- where b cancels instead, its record drains, and fails by the same transmit
gives_up : taking_of (task_at 2 (after fresh (script (twice_sent ++ "cancel b in" ∷ "poll b" ∷ [])))) ≡ incoming.Failed 1 0 4 ∷ []
unfolding computing_script hex_on_literals
gives_up = refl

-- ---- a sender that says Done once it has sent a full buffer

abbrev wrong_desk : Desk
wrong_desk = with_sending 1 (λ records. outgoing.Done 1 4 ∷ []) (after fresh (script once_sent))

abbrev wrong_record : Incoming
wrong_record = incoming.Fetching (record { id = 1; sender = 1; anchor = 0; buffer = 33044; count = 0; fetch = 2; raw = false })

wrong_sending : sending_of (task_at 1 wrong_desk) ≡ outgoing.Done 1 4 ∷ []
unfolding computing_script hex_on_literals
wrong_sending = refl

wrong_taking : taking_of (task_at 2 wrong_desk) ≡ wrong_record ∷ []
unfolding computing_script hex_on_literals
wrong_taking = refl

-- that transmit wants an answer
wrong_queue : codes_of wrong_desk.post.queued ≡ Recorded ∷ []
unfolding computing_script hex_on_literals
wrong_queue = refl

code-in : (ps : List Parcel) (p : Parcel) → Has p ps → Has p.code (codes_of ps)
code-in [] p has = absurd has
code-in (q ∷ ps) p (inl e) = inl (ap (λ (y : Parcel). y.code) e)
code-in (q ∷ ps) p (inr has) = inr (code-in ps p has)

-- so the law fails of it
wrong_law : WhereDone (Matches wrong_desk) wrong_desk → ⊥
wrong_law law = by (task_at 1 wrong_desk) refl wrong_sending (task_at 2 wrong_desk) refl wrong_taking
  where
    none-last : (p : Parcel) → Has p wrong_desk.post.queued → p.code ≡ User → ⊥
    none-last p has code = elim (subst (Has p.code) wrong_queue (code-in wrong_desk.post.queued p has)) [
      | inl e ↦ let z : Recorded ≡ User = e ∙ code in (cc)
      | inr never ↦ never
    ]

    by : (s : Option Task) → task_at 1 wrong_desk ≡ s → sending_of s ≡ outgoing.Done 1 4 ∷ [] → (r : Option Task) → task_at 2 wrong_desk ≡ r →
        taking_of r ≡ wrong_record ∷ [] → ⊥
    by None at q r at_r z = absurd cc
    by (Some t) at q None at_r z = absurd cc
    by (Some t) at q (Some u) at_r z =
        let x = law 1 2 1 4 t u wrong_record at (contains_of t.sending (outgoing.Done 1 4) (subst (Has (outgoing.Done 1 4)) (sym q) (inl refl))) at_r
        (contains_of u.taking wrong_record (subst (Has wrong_record) (sym z) (inl refl))) refl in
        none-last x.0 (has_of wrong_desk.post.queued x.0 x.1.0) x.1.1.code
