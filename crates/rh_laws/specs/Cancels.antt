-- What a cancel ends. Read Receiver and Sender of rh_defs and Buffers of rh_safety first.
-- d is a desk, h a handle, t its task, now the same task after the cancel, a the desk and the reply after that, f a transfer
-- that has a buffer, q one that waits for a file, x an open one that goes out, v and w are records.
use Rattle.std.specs.Prelude.{◌≡◌, ℕ, true, Some, None}
use Rattle.std.specs.List.{Contains}
use Rattle.rh_defs.specs.declared.command.Command.TheVariants as command
use Rattle.rh_defs.specs.declared.reply.Reply.TheVariants as reply
use Rattle.rh_defs.specs.declared.transfer.Asked.{Asked}
use Rattle.rh_defs.specs.declared.transfer.Incoming.{Incoming}
use Rattle.rh_defs.specs.declared.transfer.Incoming.TheVariants as incoming
use Rattle.rh_defs.specs.declared.transfer.Outgoing.{Outgoing}
use Rattle.rh_defs.specs.declared.transfer.Outgoing.TheVariants as outgoing
use Rattle.rh_defs.specs.declared.transfer.Sending.{Sending}
use Rattle.rh_defs.specs.declared.transfer.Taking.{Taking}
use Rattle.rh_defs.specs.Records.{in_id, out_id}
use Rattle.rh_defs.specs.Desk.{Desk, Task, task_at}
use Rattle.rh_defs.specs.Commands.{Answer, step}
use Rattle.rh_safety.specs.Buffers.{bytes_of_buffer}

-- the cancel was done, and the task has the record, and no other of its id
pub record FailsIn (a : Answer) (h : ℕ) (now : Task) (w : Incoming) : Type 0 where
  pub said : a.1 ≡ reply.Done
  pub live : task_at h a.0 ≡ Some now
  pub has : Contains now.taking w
  pub one : (v : Incoming) → Contains now.taking v → in_id v ≡ in_id w → v ≡ w

pub record FailsOut (a : Answer) (h : ℕ) (now : Task) (w : Outgoing) : Type 0 where
  pub said : a.1 ≡ reply.Done
  pub live : task_at h a.0 ≡ Some now
  pub has : Contains now.sending w
  pub one : (v : Outgoing) → Contains now.sending v → out_id v ≡ out_id w → v ≡ w

-- a transfer that fetches from a task with code of its own ends, and its buffer goes
abbrev pub EndsFetch : Answer → ℕ → Taking → Type 0
EndsFetch a h f =
    (now : Task) × FailsIn a h now (incoming.Failed f.id f.anchor f.count) × (bytes_of_buffer now.slot f.buffer ≡ None)

-- each live task can end such a transfer, one that waits for a file, and one that goes out, by its name and its id
pub record CancelsEnd (d : Desk) : Type 0 where
  pub fetches : (h : ℕ) (t : Task) (f : Taking) → task_at h d ≡ Some t → Contains t.taking (incoming.Fetching f) → f.raw ≡ true →
      EndsFetch (step d (command.CancelIn t.name (Some f.id))) h f
  pub asks : (h : ℕ) (t : Task) (q : Asked) → task_at h d ≡ Some t → Contains t.taking (incoming.Asking q) →
      (now : Task) × FailsIn (step d (command.CancelIn t.name (Some q.id))) h now (incoming.Failed q.id q.anchor 0)
  pub sends : (h : ℕ) (t : Task) (x : Sending) → task_at h d ≡ Some t → Contains t.sending (outgoing.Open x) →
      (now : Task) × FailsOut (step d (command.CancelOut t.name (Some x.id))) h now (outgoing.Failed x.id x.count)
