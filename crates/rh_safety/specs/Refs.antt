-- The refs of live messages. Read Post of rh_defs first. p is a message in its block, s a seat, d a desk.
use Rattle.std.specs.Prelude.{◌≢◌, ◌<◌, ℕ, List, [], ◌∷◌, ◌++◌, map, Option, Some, None}
use Rattle.std.specs.List.{AllByRecursion, flat_map}
use Rattle.rh_defs.specs.Messages.{Parcel}
use Rattle.rh_defs.specs.Post.{Seat, Post}
use Rattle.rh_defs.specs.Desk.{Desk, next_ref}

-- a message's ref
abbrev pub ref_of : Parcel → ℕ
ref_of p = p.message.my_ref

-- the ref of what a task holds, where it holds a message
abbrev pub held_refs : Option Parcel → List ℕ
held_refs None = []
held_refs (Some p) = ref_of p ∷ []

-- the refs of all messages that are queued or held, each message's once
abbrev pub live_refs : Post → List ℕ
live_refs post = map ref_of post.queued ++ flat_map (λ (s : Seat). held_refs s.holds) post.seats

-- no two members of the list are equal
abbrev pub AllDiffer : List ℕ → Type 0
AllDiffer [] = Unit {0}
AllDiffer (n ∷ ns) = AllByRecursion (λ m. m ≢ n) ns × AllDiffer ns

-- no two live messages have one ref, and each ref was given
pub record HaveOwnRefs (d : Desk) : Type 0 where
  pub differ : AllDiffer (live_refs d.post)
  pub given : AllByRecursion (λ ref. ref < next_ref d) (live_refs d.post)
