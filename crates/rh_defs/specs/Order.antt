-- Desks that differ in the order of messages to different tasks alone. Read Commands first.
-- h is a handle, p a message in its block, a and b are two such desks, c is a command.
use Rattle.std.specs.Prelude.{ℕ, ◌≡◌, ◌==◌, Bool, List, filter}
use Rattle.rh_defs.specs.declared.command.Command.{Command}
use Rattle.rh_defs.specs.Messages.{Parcel}
use Rattle.rh_defs.specs.Post.{Post}
use Rattle.rh_defs.specs.Desk.{Desk}
use Rattle.rh_defs.specs.Commands.{step}

-- whether a message is for the handle
abbrev pub is_to : ℕ → Parcel → Bool
is_to h p = p.to == h

-- each handle's messages are the same, in the same order
pub record SameForEach (queue other : List Parcel) : Type 0 where
  pub each : (h : ℕ) → filter (is_to h) queue ≡ filter (is_to h) other

-- the post with another queue
abbrev pub requeued : List Parcel → Post → Post
requeued queue post = record post { queued = queue }

-- the desk with another queue in its post
abbrev pub with_queue : List Parcel → Desk → Desk
with_queue queue d = record d { post = requeued queue d.post }

-- two desks that differ at most in the order of queued messages to different tasks
pub record IsReordered (a b : Desk) : Type 0 where
  pub same : SameForEach a.post.queued b.post.queued
  pub rest : b ≡ with_queue b.post.queued a

-- of two such desks a command gives the same reply, and again two such desks
pub record StepsAlike (a b : Desk) (c : Command) : Type 0 where
  pub reply : (step b c).1 ≡ (step a c).1
  pub desks : IsReordered (step a c).0 (step b c).0

-- no command looks at the order of messages to different tasks
abbrev pub IgnoresOrder : Type 0
IgnoresOrder = (a b : Desk) (c : Command) → IsReordered a b → StepsAlike a b c
