-- Worked runs: the numbers that replies answer, and the refs of live messages; and runs with one definition changed, on
-- which they don't go up, or are the same.
use Rattle.rh_safety.proofs.Common.{arith, ◌≡◌, refl, ℕ, ◌+◌, List, [], ◌∷◌, ◌++◌, length, nat_le, Option, Some, None, Ok, hex_on_literals, String, Command}
use Rattle.rh_safety.proofs.Common.{Reply, Granted, ◌>>◌, refuse_if, or_else, Desk, Answer, Parcel, Post, bounced, held_by, after, step}
use Rattle.std.specs.List.{flat_map}
use Rattle.rh_defs.specs.declared.command.Command.TheVariants as command
use Rattle.rh_defs.specs.declared.refusal.Refusal.TheVariants.{TooManyAreas}
use Rattle.rh_defs.specs.declared.reply.Reply.TheVariants as reply
use Rattle.rh_defs.specs.Forms.{first_made}
use Rattle.rh_defs.specs.Desk.{most_made}
use Rattle.rh_defs.specs.Post.{taken}
use Rattle.rh_defs.specs.Runs.{replies}
use Rattle.rh_defs.specs.Inner.Computing.{computing_script}
use Rattle.rh_safety.specs.Numbers.{GoUp, handles_in, refs_in, areas_in}
use Rattle.rh_safety.specs.Refs.{AllDiffer, live_refs}
use Rattle.rh_safety.proofs.SafetyRows.{fresh, script}

-- a task dies and another comes under its name, messages go to and fro, and an area is made after one was removed
abbrev numbered : List String
numbered =
    "task a 4" ∷ "task b 4" ∷ "alloc a 0 6" ∷ "make 2" ∷ "save a 0 b doc" ∷ "poll b" ∷ "poll a" ∷ "poll b" ∷ "kill b"
    ∷ "remove 256" ∷ "make 2" ∷ "task b 4" ∷ "cancel a out"
    ∷ "save a 0 b doc" ∷ "repeat a" ∷ []

handles_go_up : flat_map handles_in (replies fresh (script numbered)) ≡ 1 ∷ 2 ∷ 3 ∷ []
unfolding computing_script hex_on_literals
handles_go_up = refl

-- offer, fetch, transmit, fetch, offer, and the offer once more
refs_go_up : flat_map refs_in (replies fresh (script numbered)) ≡ 1 ∷ 2 ∷ 3 ∷ 4 ∷ 5 ∷ 6 ∷ []
unfolding computing_script hex_on_literals
refs_go_up = refl

areas_go_up : flat_map areas_in (replies fresh (script numbered)) ≡ 256 ∷ 257 ∷ []
unfolding computing_script hex_on_literals
areas_go_up = refl

-- ---- an area that gets the number of one that was removed

abbrev makes_again : Desk → ℕ → Granted Answer
makes_again d most =
    let number : ℕ = first_made + length d.made in do
      refuse_if (nat_le most_made (length d.made)) TooManyAreas
      Ok (record d { made = d.made ++ record { number = number; most = most; pages = 0 } ∷ [] }, reply.Made number)

abbrev step_again : Desk → Command → Answer
step_again d (command.Make most) = or_else (makes_again d most) (λ refusal. (d, reply.Refused refusal))
step_again d c = step d c

abbrev replies_again : Desk → List Command → List Reply
replies_again d [] = []
replies_again d (c ∷ commands) = (step_again d c).1 ∷ replies_again (step_again d c).0 commands

wrong_number : flat_map areas_in (replies_again fresh (script numbered)) ≡ 256 ∷ 256 ∷ []
unfolding computing_script hex_on_literals
wrong_number = refl

-- two equal numbers don't go up
wrong_numbers : (least next : ℕ) → GoUp least next (256 ∷ 256 ∷ []) → ⊥
wrong_numbers least next up = absurd (omega (arith, up.1.0))

-- ---- refs of live messages

-- a task that takes no offer holds the first one, while its copy is queued
abbrev offered_twice : List String
offered_twice = "task a 4" ∷ "task c 4 deaf" ∷ "alloc a 0 6" ∷ "save a 0 c doc" ∷ "poll c" ∷ "repeat a" ∷ []

one_held : live_refs (after fresh (script offered_twice)).post ≡ 2 ∷ 1 ∷ []
unfolding computing_script hex_on_literals
one_held = refl

-- then that one goes back, and the copy is held
one_back : live_refs (after fresh (script (offered_twice ++ "poll c" ∷ []))).post ≡ 1 ∷ 2 ∷ []
unfolding computing_script hex_on_literals
one_back = refl

-- a task that still holds what has gone back
abbrev goes_back_held : ℕ → Option Parcel → Post → Post
goes_back_held h None post = post
goes_back_held h (Some p) post = bounced p post

abbrev offered_once : List String
offered_once = "task a 4" ∷ "task c 4 deaf" ∷ "alloc a 0 6" ∷ "save a 0 c doc" ∷ "poll c" ∷ []

wrong_refs : live_refs (let post = (after fresh (script offered_once)).post in
    taken 2 (goes_back_held 2 (held_by 2 post.seats) post)).0 ≡ 1 ∷ 1 ∷ []
unfolding computing_script hex_on_literals
wrong_refs = refl

right_refs : live_refs (after fresh (script (offered_once ++ "poll c" ∷ []))).post ≡ 1 ∷ []
unfolding computing_script hex_on_literals
right_refs = refl

-- two equal refs don't differ
wrong_law : AllDiffer (1 ∷ 1 ∷ []) → ⊥
wrong_law all = all.0.0 refl
