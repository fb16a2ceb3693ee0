-- The live handles of a post. Read Post first; s is a seat.
use Rattle.std.specs.Prelude.{ℕ, List, map}
use Rattle.rh_defs.specs.Post.{Post, Seat}

-- the live handles in order
abbrev pub post_handles : Post → List ℕ
post_handles post = map (λ (s : Seat). s.handle) post.seats
