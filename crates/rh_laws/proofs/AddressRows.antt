-- Worked runs of whom transfers are offered to, and a run with one definition changed, on which addressed_law fails.
use Rattle.rh_laws.proofs.Common.{◌≡◌, ℕ, false, List, [], ◌∷◌, ◌++◌, Option, Some, None, map, refl, ap, arith, hex_on_literals, String, Incoming, Parcel, Desk}
use Rattle.rh_laws.proofs.Common.{Task, task_at, after, poll_taken, held, fresh, script}
use Rattle.rh_defs.specs.declared.transfer.Incoming.TheVariants as incoming
use Rattle.rh_defs.specs.Inner.Computing.{computing_script}
use Rattle.rh_safety.proofs.SafetyRows.{prefixes}
use Rattle.rh_laws.specs.Addressed.{AgreesIn, Parties, addressed}

abbrev from_to : ℕ → ℕ → Option Parties
from_to s r = Some (record { sender = s; receiver = r })

-- the tasks of transfers 1, 3 and 5 after each command
abbrev addressed_each : List String → List (List (Option Parties))
addressed_each lines = map (λ commands. map (addressed fresh commands) (1 ∷ 3 ∷ 5 ∷ [])) (prefixes (script lines))

-- a offers a block to b, and again by the same message; b offers one of its own to c
abbrev saved_on : List String
saved_on = "task a 4" ∷ "task b 4" ∷ "task c 4" ∷ "alloc a 0 2" ∷ "put a 0 0 0708" ∷ "save a 0 b x" ∷ "poll b" ∷ "repeat a"
    ∷ "cancel b in" ∷ "poll a" ∷ "alloc b 1 1" ∷ "save b 1 c y" ∷ []

each_offer : addressed_each saved_on ≡
    (None ∷ None ∷ None ∷ [])
    ∷ (None ∷ None ∷ None ∷ [])
    ∷ (None ∷ None ∷ None ∷ [])
    ∷ (None ∷ None ∷ None ∷ [])
    ∷ (None ∷ None ∷ None ∷ [])
    ∷ (from_to 1 2 ∷ None ∷ None ∷ [])
    ∷ (from_to 1 2 ∷ None ∷ None ∷ [])
    ∷ (from_to 1 2 ∷ from_to 1 2 ∷ None ∷ [])
    ∷ (from_to 1 2 ∷ from_to 1 2 ∷ None ∷ [])
    ∷ (from_to 1 2 ∷ from_to 1 2 ∷ None ∷ [])
    ∷ (from_to 1 2 ∷ from_to 1 2 ∷ None ∷ [])
    ∷ (from_to 1 2 ∷ from_to 1 2 ∷ from_to 2 3 ∷ [])
    ∷ []
unfolding computing_script hex_on_literals
each_offer = refl

-- ---- a task that takes the first message, whomever it is for

-- the records of a task's transfers that come in
abbrev taking_of : Option Task → List Incoming
taking_of None = []
taking_of (Some t) = t.taking

-- an offer to b waits
abbrev offered_once : List String
offered_once = "task a 4" ∷ "task b 4" ∷ "task c 4" ∷ "alloc a 0 2" ∷ "put a 0 0 0708" ∷ "save a 0 b x" ∷ []

abbrev first_of : List Parcel → Option Parcel
first_of [] = None
first_of (p ∷ queue) = Some p

abbrev takes_any : Desk → Option Task → Desk
takes_any d None = d
takes_any d (Some t) = (poll_taken d t (first_of d.post.queued)).0

-- the third task's records after it polled so, and whom the transfer was offered to
wrong_task : taking_of (task_at 3 (takes_any (after fresh (script offered_once)) (task_at 3 (after fresh (script offered_once)))))
    ≡ incoming.Fetching (record { id = 1; sender = 1; anchor = 0; buffer = 0x8114; count = 0; fetch = 2; raw = false }) ∷ []
unfolding computing_script hex_on_literals
wrong_task = refl

offered_to_b : addressed fresh (script offered_once) 1 ≡ from_to 1 2
unfolding computing_script hex_on_literals
offered_to_b = refl

-- the task that is offered to
abbrev receiver_in : Option Parties → ℕ
receiver_in None = 0
receiver_in (Some p) = p.receiver

not_third : (s : ℕ) → from_to 1 2 ≡ from_to s 3 → ⊥
not_third s is = let same : 2 ≡ 3 = ap receiver_in is in absurd (omega (arith, same))

-- a record of the third task doesn't agree with that
wrong_law : (w : Incoming) → AgreesIn (from_to 1 2) 3 w → ⊥
wrong_law (incoming.Fetching f) is = not_third f.sender is
wrong_law (incoming.Draining f) is = not_third f.sender is
wrong_law (incoming.Asking q) is = not_third q.sender is
wrong_law (incoming.Done id k n) is = not_third is.0 is.1
wrong_law (incoming.Failed id k n) is = not_third is.0 is.1

-- a poll of the third task takes nothing, and one of b the offer
right_tasks : map (λ h. taking_of (task_at h (after fresh (script (offered_once ++ "poll c" ∷ "poll b" ∷ []))))) (2 ∷ 3 ∷ []) ≡
    (incoming.Fetching (record { id = 1; sender = 1; anchor = 0; buffer = 0x8114; count = 0; fetch = 2; raw = false }) ∷ []) ∷ [] ∷ []
unfolding computing_script hex_on_literals
right_tasks = refl

-- what b holds in the end
b_holds : held fresh (script (offered_once ++ "poll b" ∷ "poll a" ∷ "poll b" ∷ [])) 1 2 ≡ Some (7 ∷ 8 ∷ [])
unfolding computing_script hex_on_literals
b_holds = refl
