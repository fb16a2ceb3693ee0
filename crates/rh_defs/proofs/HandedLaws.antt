-- What tasks with code of their own are handed on desks that differ in the order of messages to different tasks.
use Rattle.rh_defs.proofs.Common.{◌≡◌, ℕ, Bool, true, false, refl, ap, ◌∙◌, List, Option, Some, None, if◌then◌else◌, post_poll}
use Rattle.std.specs.Prelude.{find}
use Rattle.rh_defs.specs.declared.command.Command.{Command}
use Rattle.rh_defs.specs.declared.command.Command.TheVariants as command
use Rattle.rh_defs.specs.Messages.{Parcel}
use Rattle.rh_defs.specs.Post.{Post}
use Rattle.rh_defs.specs.Desk.{Desk, Task, has_name}
use Rattle.rh_defs.specs.Order.{IsReordered, SameForEach, requeued, with_queue}
use Rattle.rh_defs.specs.RawTasks.{is_raw, next_taken}
use Rattle.rh_defs.specs.Text.{taken_of}
use Rattle.rh_defs.proofs.Orders.{AnswerAlike, post_poll-alike}

answer-same : {B : Type 0} {p q : Post × B} → AnswerAlike p q → q.1 ≡ p.1
answer-same (AnswerAlike.alike post queue x same) = refl

next-alike : (a : Desk) (queue : List Parcel) → SameForEach a.post.queued queue → (o : Option Task) → next_taken (with_queue queue a) o ≡ next_taken a o
next-alike a queue same None = refl
next-alike a queue same (Some t) = go (is_raw t.manner)
  where
    go : (b : Bool) → (if b then (post_poll t.handle (requeued queue a.post)).1 else None) ≡ (if b then (post_poll t.handle a.post).1 else None)
    go true = answer-same (post_poll-alike t.handle a.post queue same)
    go false = refl

by-command : (a : Desk) (queue : List Parcel) → SameForEach a.post.queued queue → (c : Command) → taken_of (with_queue queue a) c ≡ taken_of a c
by-command a queue same (command.Poll name) = next-alike a queue same (find (has_name name) a.tasks)
by-command a queue same c = refl

-- a command hands out the same message
pub taken-alike : {a b : Desk} → IsReordered a b → (c : Command) → taken_of b c ≡ taken_of a c
taken-alike {a} {b} r c = ap (λ (d : Desk). taken_of d c) r.rest ∙ by-command a b.post.queued r.same c
