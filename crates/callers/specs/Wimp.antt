-- A post of two tasks, and a message from the first to the second.
use Rattle.std.specs.Prelude.{ℕ, [], ◌∷◌, None}
use Rattle.rh_defs.specs.Chain.{left_of}
use Rattle.rh_defs.specs.Heap.{Heap}
use Rattle.rh_defs.specs.Post.{Post, post_poll, post_send}
use Rattle.rh_defs.specs.declared.message.Body.TheVariants.{RamFetch}
use Rattle.rh_defs.specs.declared.message.EventCode.TheVariants.{User}
use Rattle.rh_defs.specs.declared.message.Letter.{Letter}

-- tasks 1 and 2 are live, hold no message and have none queued, and the first ref is next
abbrev pub two_idle : Heap → Post
two_idle h = record {
  seats = record { handle = 1; holds = None } ∷ record { handle = 2; holds = None } ∷ [];
  queued = [];
  heap = h;
  next_ref = 1;
}

-- task 1 asks task 2 for n bytes of a buffer, and wants no answer
abbrev pub fetch : ℕ → ℕ → Letter
fetch buffer n = record { code = User; from = 1; to = 2; your_ref = 0; body = RamFetch buffer n }

-- the bytes that this message takes in the module area: two words, a header of four, the action, and two words
abbrev pub fetch_size : ℕ
fetch_size = 36

-- the post after it was sent where so many pages are free, and task 2 has polled
abbrev pub post_asked : ℕ → ℕ → ℕ → Heap → Post
post_asked free buffer n h = (post_poll 2 (left_of (two_idle h) (post_send free (fetch buffer n) (two_idle h)))).0
