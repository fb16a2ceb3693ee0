-- The end of a handle, step by step, while its seat is still there.
use Rattle.std.specs.Prelude.{◌≡◌, ℕ, ◌+◌, ◌≤◌, ◌==◌, not, if◌then◌else◌, List, length, filter, Option, Some, None}
use Rattle.rh_defs.specs.declared.sizes.TheConstants.{MOST_MESSAGES}
use Rattle.rh_defs.specs.Memory.{Memory}
use Rattle.rh_defs.specs.Messages.{Parcel, is_recorded}
use Rattle.rh_defs.specs.Post.{Seat, Post, with_held, bounced, bounce_all, without_block}
use Rattle.rh_module.specs.declared.module.Module.{Module}
use Rattle.rh_wimp.specs.Chains.{Chains, SpellsPostIn}

-- what is held is held no more
abbrev pub lifted : ℕ → Post → Post
lifted h post = record post { seats = with_held h None post.seats }

-- a message bounces, or vanishes where the dying task sent it
abbrev pub bounced_from : ℕ → Parcel → Post → Post
bounced_from h p post = if p.message.from == h then without_block p post else bounced p post

-- a message that was queued for the dying task
abbrev pub ended_from : ℕ → Parcel → Post → Post
ended_from h p post = if is_recorded p.code then bounced_from h p post else without_block p post

-- the message that the dying task holds bounces
abbrev pub settled_from : ℕ → Option Parcel → Post → Post
settled_from h None post = post
settled_from h (Some p) post = bounced_from h p (lifted h post)

abbrev pub queue_to : ℕ → List Parcel → List Parcel
queue_to h queue = filter (λ (p : Parcel). p.to == h) queue

-- without the handle's seat, and without the messages queued for it
abbrev pub without_seat : ℕ → Post → Post
without_seat h post = record post {
  seats = filter (λ (s : Seat). not (s.handle == h)) post.seats;
  queued = filter (λ (p : Parcel). not (p.to == h)) post.queued;
}

-- what is left of a death once nothing is held: the messages queued for the handle bounce or vanish
abbrev pub rest_of_death : ℕ → Post → Post
rest_of_death h post = bounce_all (queue_to h post.queued) (without_seat h post)

-- a post from which the same is left of the death, with fewer messages queued for the handle
pub record Drained (m : Memory) (module_area : Module) (q : Chains) (post : Post) (h turn : ℕ) (now : Post) : Type 0 where
  pub spells : SpellsPostIn m module_area q now
  pub same : rest_of_death h now ≡ rest_of_death h post
  pub few : length (queue_to h now.queued) + turn ≤ MOST_MESSAGES
  pub seats : now.seats ≡ post.seats

-- after so many turns
abbrev pub Drains : Memory → Module → Chains → Post → ℕ → ℕ → Type 0
Drains m module_area q post h turn = (now : Post) × Drained m module_area q post h turn now
