-- Worked runs of what is left to do, and a poll that leaves its message in the queue, on which progress_law fails.
use Rattle.rh_laws.proofs.Common.{◌≡◌, ℕ, ◌+◌, ◌≤◌, List, [], ◌∷◌, Option, Some, None, map, refl, subst, arith, hex_on_literals, String, post_poll, Desk}
use Rattle.rh_laws.proofs.Common.{Task, task_at, Answer, after, poll_taken, fresh, script}
use Rattle.rh_defs.specs.declared.reply.Reply.TheVariants as reply
use Rattle.rh_defs.specs.Inner.Computing.{computing_script}
use Rattle.rh_safety.proofs.SafetyRows.{prefixes}
use Rattle.rh_laws.specs.Progress.{events, post_work, work}

-- the work after each command
abbrev work_each : List String → List ℕ
work_each lines = map (λ commands. work (after fresh commands)) (prefixes (script lines))

-- the work after each command, and how much of it is the post's
abbrev work_and_post : List String → List (ℕ × ℕ)
work_and_post lines = map (λ commands. (work (after fresh commands), post_work (after fresh commands).post)) (prefixes (script lines))

-- six bytes by a buffer of four
by_buffers : work_each ("task a 4" ∷ "task b 4" ∷ "alloc a 0 6" ∷ "save a 0 b doc" ∷ "poll b" ∷ "poll a" ∷ "poll b" ∷ "poll a" ∷ "poll b" ∷ [])
    ≡ 0 ∷ 0 ∷ 0 ∷ 23 ∷ 22 ∷ 15 ∷ 14 ∷ 9 ∷ 0 ∷ []
unfolding computing_script hex_on_literals
by_buffers = refl

-- five bytes by the scrap file; one of the polls finds nothing, since a still holds the fetch
by_a_file : work_each ("task a 100 file" ∷ "task b 100" ∷ "alloc a 0 5" ∷ "save a 0 b doc" ∷ "poll b" ∷ "poll a" ∷ "poll b" ∷ "poll a" ∷ "poll b"
    ∷ "poll a" ∷ "poll b" ∷ "poll a" ∷ [])
    ≡ 0 ∷ 0 ∷ 0 ∷ 21 ∷ 20 ∷ 19 ∷ 19 ∷ 18 ∷ 17 ∷ 16 ∷ 15 ∷ 0 ∷ []
unfolding computing_script hex_on_literals
by_a_file = refl

-- a receiver that was killed: the fetch that a holds vanishes, and the transfer stays open with the post at rest
stays_open : work_and_post ("task a 100 file" ∷ "task b 100" ∷ "alloc a 0 5" ∷ "save a 0 b doc" ∷ "poll b" ∷ "poll a" ∷ "kill b"
    ∷ "poll a" ∷ "cancel a out" ∷ [])
    ≡ (0, 0) ∷ (0, 0) ∷ (0, 0) ∷ (21, 9) ∷ (20, 8) ∷ (19, 7) ∷ (19, 7) ∷ (12, 0) ∷ (0, 0) ∷ []
unfolding computing_script hex_on_literals
stays_open = refl

-- ---- a poll that leaves the message in the queue

-- an offer to a deaf task waits
abbrev offered_once : List String
offered_once = "task a 4" ∷ "task b 4 deaf" ∷ "alloc a 0 6" ∷ "save a 0 b doc" ∷ []

abbrev takes_again : Desk → Option Task → Answer
takes_again d None = (d, reply.NoEvent)
takes_again d (Some t) = poll_taken d t (post_poll t.handle d.post).1

abbrev waiting : Desk
waiting = after fresh (script offered_once)

abbrev polled_so : Answer
polled_so = takes_again waiting (task_at 2 waiting)

-- it takes a message, and there is as much to do as before
wrong_poll : events (polled_so.1 ∷ []) + work polled_so.0 ≡ 24
unfolding computing_script hex_on_literals
wrong_poll = refl

work_before : work waiting ≡ 23
unfolding computing_script hex_on_literals
work_before = refl

-- so the law fails of it
wrong_law : events (polled_so.1 ∷ []) + work polled_so.0 ≤ work waiting → ⊥
wrong_law falls =
    let less : 24 ≤ work waiting = subst (λ n. n ≤ work waiting) wrong_poll falls in
    let least : 24 ≤ 23 = subst (λ n. 24 ≤ n) work_before less in
    omega (arith, least)
