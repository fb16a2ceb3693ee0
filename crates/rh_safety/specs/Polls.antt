-- What no poll answers. Read Buffers first. d is a desk, h a handle, t its task, f a transfer that fetches, n a number
-- of bytes that a transmit may bring.
use Rattle.std.specs.Prelude.{◌≡◌, ◌≢◌, ℕ, ◌+◌, ◌^◌, ◌≤◌, ◌<◌, List, Some}
use Rattle.std.specs.List.{Contains}
use Rattle.rh_defs.specs.declared.refusal.Refusal.TheVariants.{NoBlock}
use Rattle.rh_defs.specs.declared.command.Command.TheVariants as command
use Rattle.rh_defs.specs.declared.transfer.Taking.{Taking}
use Rattle.rh_defs.specs.declared.transfer.Incoming.TheVariants as incoming
use Rattle.rh_defs.specs.Desk.{Desk, Task, task_at}
use Rattle.rh_defs.specs.Commands.{step}
use Rattle.rh_safety.specs.Buffers.{failed_by}

-- no poll answers that a block was missing
abbrev pub LosesNoBlock : Desk → Type 0
LosesNoBlock d = (name : List ℕ) → failed_by (step d (command.Poll name)).1 ≢ Some NoBlock

-- Whatever a live task's transfer has fetched, its count and one buffer more fit a 32-bit word: no transmit that the record
-- takes is refused for its count.
abbrev pub CountsFit : Desk → Type 0
CountsFit d =
    (h : ℕ) (t : Task) (f : Taking) (n : ℕ) → task_at h d ≡ Some t → Contains t.taking (incoming.Fetching f) →
    n ≤ t.buffer → f.count + n < 2 ^ 32
