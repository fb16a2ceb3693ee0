-- A worked run to rest in which a task with code of its own leaves a record waiting, an `ack` that puts down what another task holds,
-- on which `beside` of rest_law fails, and a message whose sender such a task writes, on which done_law does.
use Rattle.rh_laws.proofs.Common.{Bool, Desk, Has, Incoming, List, None, Option, Some, String, Task, [], after, ap, contains_of, false, fresh, hex_on_literals}
use Rattle.rh_laws.proofs.Common.{in_id, inl, map, refl, script, subst, sym, task_at, true, with_delivered, ℕ, ◌∙◌, ◌∷◌, ◌≡◌, ◌++◌}
use Rattle.rh_laws.proofs.Common.{Answer, Granted, Ok, Outgoing, Rules, landed, named, next_ref, run_of, send_letter, arith, ◌>>=◌}
use Rattle.rh_defs.specs.declared.reply.Reply.TheVariants as reply
use Rattle.rh_defs.specs.declared.transfer.Incoming.TheVariants as incoming
use Rattle.rh_defs.specs.declared.transfer.Outgoing.TheVariants as outgoing
use Rattle.rh_defs.specs.RawCommands.{after_answer, raw_letter}
use Rattle.rh_laws.specs.SendersDone.{Matches, WhereDone}
use Rattle.rh_defs.specs.Post.{put_down}
use Rattle.rh_defs.specs.Records.{is_going}
use Rattle.rh_defs.specs.Inner.Computing.{computing_script}
use Rattle.rh_safety.specs.RawIds.{is_raw_id}
use Rattle.rh_laws.specs.Beside.{IsSettledBeside}
use Rattle.rh_laws.specs.RawHandles.{is_raw_handle}

-- of a record that comes in, the id and whether it goes on
abbrev id_and_going : Incoming → ℕ × Bool
id_and_going w = (in_id w, is_going w)

-- of a task's
abbrev going_at : Option Task → List (ℕ × Bool)
going_at None = []
going_at (Some t) = map id_and_going t.taking

-- ---- a run

-- r offers b a file and takes the fetch off the post; then it forges a transmit for what a offers b
abbrev hostile : List String
hostile =
    "task a 4" ∷ "task b 4" ∷ "task r 1 raw" ∷ "send r 18 2 0 1 0000000000000000000000000000000006000000fd0f0000646f6300" ∷ "poll b" ∷ "poll r" ∷ "ack r"
    ∷ "alloc a 0 3" ∷ "save a 0 b doc" ∷ "poll b" ∷ "send r 17 2 4 7 1881000004000000" ∷ "poll b" ∷ []

abbrev rounds : List String
rounds = "poll a" ∷ "poll b" ∷ "poll r" ∷ "poll a" ∷ "poll b" ∷ "poll r" ∷ []

abbrev at_rest : Desk
at_rest = after fresh (script (hostile ++ rounds))

-- before the rounds both records fetch; at rest only the one that is theirs
both_fetch : going_at (task_at 2 (after fresh (script hostile))) ≡ (1, true) ∷ (3, true) ∷ []
unfolding computing_script hex_on_literals
both_fetch = refl

one_fetches : going_at (task_at 2 at_rest) ≡ (1, true) ∷ (3, false) ∷ []
unfolding computing_script hex_on_literals
one_fetches = refl

nothing_queued : at_rest.post.queued ≡ []
unfolding computing_script hex_on_literals
nothing_queued = refl

its_id_is_theirs : is_raw_id fresh (script hostile) 1 ≡ true
unfolding computing_script hex_on_literals
its_id_is_theirs = refl

the_other_is_not : is_raw_id fresh (script hostile) 3 ≡ false
unfolding computing_script hex_on_literals
the_other_is_not = refl

r_is_theirs : is_raw_handle fresh (script hostile) 3 ≡ true
unfolding computing_script hex_on_literals
r_is_theirs = refl

b_is_not : is_raw_handle fresh (script hostile) 2 ≡ false
unfolding computing_script hex_on_literals
b_is_not = refl

-- ---- an ack that puts down what another task holds

-- a holds b's fetch, and r acknowledges it
abbrev before : List String
before = "task a 4 file" ∷ "task b 4" ∷ "task r 1 raw" ∷ "alloc a 0 3" ∷ "save a 0 b doc" ∷ "poll b" ∷ "poll a" ∷ []

abbrev wrong_desk : Desk
wrong_desk = let d : Desk = after fresh (script before) in with_delivered (put_down 1 d.post) d

-- nothing is queued then, and b's record, whose fetch it was, goes on
wrong_post : wrong_desk.post.queued ≡ []
unfolding computing_script hex_on_literals
wrong_post = refl

wrong_records : going_at (task_at 2 wrong_desk) ≡ (1, true) ∷ []
unfolding computing_script hex_on_literals
wrong_records = refl

wrong_id : is_raw_id fresh (script before) 1 ≡ false
unfolding computing_script hex_on_literals
wrong_id = refl

-- so the law fails of it
wrong_law : IsSettledBeside (is_raw_id fresh (script before)) (is_raw_handle fresh (script before)) wrong_desk → ⊥
wrong_law settled = by (task_at 2 wrong_desk) refl wrong_records
  where
    of_list : (t : Task) → task_at 2 wrong_desk ≡ Some t → (ws : List Incoming) → t.taking ≡ ws →
        map id_and_going ws ≡ (1, true) ∷ [] → ⊥
    of_list t at [] e q = absurd cc
    of_list t at (w ∷ ws) e q =
        let one : id_and_going w ≡ (1, true) = cc in
        let mine : is_raw_id fresh (script before) (in_id w) ≡ false = ap (λ (y : ℕ × Bool). is_raw_id fresh (script before) y.0) one ∙ wrong_id in
        let none = settled.comes 2 t w at (contains_of t.taking w (subst (λ (vs : List Incoming). Has w vs) (sym e) (inl refl))) mine in
        let z : Bool.true ≡ false = sym (ap (λ (y : ℕ × Bool). y.1) one) ∙ none in cc

    by : (v : Option Task) → task_at 2 wrong_desk ≡ v → going_at v ≡ (1, true) ∷ [] → ⊥
    by None at q = absurd cc
    by (Some t) at q = of_list t at t.taking refl q

-- ---- a sender's Done

abbrev sending_of : Option Task → List Outgoing
sending_of None = []
sending_of (Some t) = t.sending

abbrev taking_of : Option Task → List Incoming
taking_of None = []
taking_of (Some t) = t.taking

-- r forges the last transmit, which b ignores; then a says Done with three bytes, and b's record fetches on until it takes a's
abbrev forged : List String
forged =
    "task a 4" ∷ "task b 4" ∷ "task r 1 raw" ∷ "alloc a 0 3" ∷ "save a 0 b doc" ∷ "poll b" ∷ "send r 17 2 2 7 1481000000000000" ∷ "poll a" ∷ "poll b" ∷ []

says_done : sending_of (task_at 1 (after fresh (script forged))) ≡ outgoing.Done 1 3 ∷ []
unfolding computing_script hex_on_literals
says_done = refl

still_fetches : going_at (task_at 2 (after fresh (script forged))) ≡ (1, true) ∷ []
unfolding computing_script hex_on_literals
still_fetches = refl

then_done : taking_of (task_at 2 (after fresh (script (forged ++ "poll b" ∷ [])))) ≡ incoming.Done 1 0 3 ∷ []
unfolding computing_script hex_on_literals
then_done = refl

-- where r could write that a sent it, b's record says Done with no byte
abbrev as_first : Desk → List ℕ → Bool → ℕ → ℕ → ℕ → List ℕ → Granted Answer
as_first d name recorded h ref a bytes = do
  t ← named name d
  sent ← send_letter (raw_letter 1 recorded h ref a bytes) d
  Ok (after_answer sent, reply.Sent (next_ref d))

abbrev any_sender : Rules
any_sender = record landed { sends = as_first }

abbrev wrong_end : Desk
wrong_end = (run_of any_sender forged).desk

wrong_sending : sending_of (task_at 1 wrong_end) ≡ outgoing.Done 1 3 ∷ []
unfolding computing_script hex_on_literals
wrong_sending = refl

wrong_taking : taking_of (task_at 2 wrong_end) ≡ incoming.Done 1 0 0 ∷ []
unfolding computing_script hex_on_literals
wrong_taking = refl

-- so done_law fails of it
wrong_done : WhereDone (Matches wrong_end) wrong_end → ⊥
wrong_done law = by (task_at 1 wrong_end) refl wrong_sending (task_at 2 wrong_end) refl wrong_taking
  where
    by : (s : Option Task) → task_at 1 wrong_end ≡ s → sending_of s ≡ outgoing.Done 1 3 ∷ [] → (r : Option Task) → task_at 2 wrong_end ≡ r →
        taking_of r ≡ incoming.Done 1 0 0 ∷ [] → ⊥
    by None at q r at_r z = absurd cc
    by (Some t) at q None at_r z = absurd cc
    by (Some t) at q (Some u) at_r z =
        let same : 0 ≡ 3 = law 1 2 1 3 t u (incoming.Done 1 0 0) at
        (contains_of t.sending (outgoing.Done 1 3) (subst (Has (outgoing.Done 1 3)) (sym q) (inl refl))) at_r
        (contains_of u.taking (incoming.Done 1 0 0) (subst (Has (incoming.Done 1 0 0)) (sym z) (inl refl))) refl in
        absurd (omega (arith, same))
