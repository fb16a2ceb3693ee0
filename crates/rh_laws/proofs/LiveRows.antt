-- Worked runs of what records wait for, and a poll after which what was held is gone, on which live_law fails.
use Rattle.rh_laws.proofs.Common.{Body, Desk, Has, Incoming, List, None, Option, Outgoing, Parcel, Post, Seat, Some, String, Task, [], after, contains_of}
use Rattle.rh_laws.proofs.Common.{false, fresh, has_of, held_by, hex_on_literals, inl, map, none_some, refl, script, subst, sym, task_at, with_delivered}
use Rattle.rh_laws.proofs.Common.{ℕ, ◌++◌, ◌∷◌, ◌≡◌}
use Rattle.std.specs.List.{flat_map}
use Rattle.rh_defs.specs.Post.{put_down}
use Rattle.rh_defs.specs.declared.transfer.Incoming.TheVariants as incoming
use Rattle.rh_defs.specs.declared.transfer.Outgoing.TheVariants as outgoing
use Rattle.rh_defs.specs.Inner.Computing.{computing_script}
use Rattle.rh_laws.specs.LiveEnds.{HasLiveEnds, IsAlive}
use Rattle.rh_laws.specs.Progress.{IsAtRest}
use Rattle.rh_laws.proofs.AtRest.{rest-held}

-- the ref that a record waits by, where it waits
abbrev out_ref : Outgoing → List ℕ
out_ref (outgoing.Open x) = x.last ∷ []
out_ref _ = []

abbrev in_ref : Incoming → List ℕ
in_ref (incoming.Fetching f) = f.fetch ∷ []
in_ref (incoming.Draining f) = f.fetch ∷ []
in_ref (incoming.Asking q) = q.ack ∷ []
in_ref _ = []

abbrev refs_of : Task → List ℕ × List ℕ
refs_of t = (flat_map out_ref t.sending, flat_map in_ref t.taking)

-- a message's recipient, ref, and the ref that it answers
abbrev letter_of : Parcel → ℕ × (ℕ × ℕ)
letter_of p = (p.to, (p.message.my_ref, p.message.your_ref))

abbrev letters_of : Option Parcel → List (ℕ × (ℕ × ℕ))
letters_of None = []
letters_of (Some p) = letter_of p ∷ []

abbrev held_at : Seat → List (ℕ × (ℕ × ℕ))
held_at s = letters_of s.holds

-- what each task's records wait by, what is queued, and what is held
abbrev ends : List String → List (List ℕ × List ℕ) × (List (ℕ × (ℕ × ℕ)) × List (ℕ × (ℕ × ℕ)))
ends lines = let d = after fresh (script lines) in (map refs_of d.tasks, (map letter_of d.post.queued, flat_map held_at d.post.seats))

abbrev offered_once : List String
offered_once = "task a 4" ∷ "task b 4" ∷ "alloc a 0 6" ∷ "save a 0 b doc" ∷ []

-- a's record waits by its offer, which is queued
offered : ends offered_once ≡ ((1 ∷ [], []) ∷ ([], []) ∷ [], ((2, (1, 0)) ∷ [], []))
unfolding computing_script hex_on_literals
offered = refl

-- b's fetch is queued: a's record is answered by the message that b's waits by
fetching : ends (offered_once ++ "poll b" ∷ []) ≡ ((1 ∷ [], []) ∷ ([], 2 ∷ []) ∷ [], ((1, (2, 1)) ∷ [], []))
unfolding computing_script hex_on_literals
fetching = refl

-- a's first part is queued, which answers the fetch
transmitted : ends (offered_once ++ "poll b" ∷ "poll a" ∷ []) ≡ ((3 ∷ [], []) ∷ ([], 2 ∷ []) ∷ [], ((2, (3, 2)) ∷ [], []))
unfolding computing_script hex_on_literals
transmitted = refl

-- a task that answers no fetch holds it; its own record was only offered
abbrev file_offered : List String
file_offered = "task a 4 file" ∷ "task b 4" ∷ "alloc a 0 6" ∷ "save a 0 b doc" ∷ "poll b" ∷ "poll a" ∷ []

held : ends file_offered ≡ ((1 ∷ [], []) ∷ ([], 2 ∷ []) ∷ [], ([], (1, (2, 1)) ∷ []))
unfolding computing_script hex_on_literals
held = refl

-- ---- a poll after which what was held is gone, where it goes back to its sender

abbrev wrong_desk : Desk
wrong_desk = let d : Desk = after fresh (script file_offered) in with_delivered (put_down 1 d.post) d

abbrev wrong_record : Incoming
wrong_record = incoming.Fetching (record { id = 1; sender = 1; anchor = 0; buffer = 33044; count = 0; fetch = 2; raw = false })

abbrev taking_of : Option Task → List Incoming
taking_of None = []
taking_of (Some t) = t.taking

wrong_taking : taking_of (task_at 2 wrong_desk) ≡ wrong_record ∷ []
unfolding computing_script hex_on_literals
wrong_taking = refl

-- nothing is queued or held
wrong_post : IsAtRest wrong_desk.post
unfolding computing_script hex_on_literals
wrong_post = record { queue = refl; held = (refl, (refl, tt)) }

none-alive : (post : Post) → IsAtRest post → {h other ref : ℕ} {A : Body → Type 0} {B : Parcel → Type 0} → IsAlive post h other ref A B → ⊥
none-alive post rest (IsAlive.asks x) = subst (Has x.0) rest.queue (has_of post.queued x.0 x.1.0)
none-alive post rest (IsAlive.held x) = none_some (held_by x.0 post.seats) (rest-held x.0 post.seats rest.held) x.1.1.0
none-alive post rest (IsAlive.answered x) = subst (Has x.0) rest.queue (has_of post.queued x.0 x.1.0)

-- so the law fails of it
wrong_law : HasLiveEnds wrong_desk → ⊥
wrong_law live = by (task_at 2 wrong_desk) refl wrong_taking
  where
    by : (v : Option Task) → task_at 2 wrong_desk ≡ v → taking_of v ≡ wrong_record ∷ [] → ⊥
    by None at q = absurd cc
    by (Some t) at q =
        none-alive wrong_desk.post wrong_post
        (live.comes 2 t wrong_record at (contains_of t.taking wrong_record (subst (Has wrong_record) (sym q) (inl refl))))
