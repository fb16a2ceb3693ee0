-- Tasks with code of their own: which these are, what they are handed, and what a task that the desk plays has to do
-- with them. Read Desk and AnyMessage first. d is a desk, t a task, r another one, h and from are handles, p is a
-- message in its block, y an address, n a number of bytes.
use Rattle.std.specs.Prelude.{ℕ, Bool, true, false, ◌&&◌, ◌==◌, if◌then◌else◌, List, Option, Some, None, find}
use Rattle.std.specs.List.{list_any}
use Rattle.rh_defs.specs.declared.command.Manner.{Manner}
use Rattle.rh_defs.specs.declared.command.Manner.TheVariants as manner
use Rattle.rh_defs.specs.declared.message.Body.{Body}
use Rattle.rh_defs.specs.declared.message.Body.TheVariants.{RamFetch}
use Rattle.rh_defs.specs.declared.transfer.Incoming.{Incoming}
use Rattle.rh_defs.specs.declared.transfer.Incoming.TheVariants as incoming
use Rattle.rh_defs.specs.Pieces.{is_inside}
use Rattle.rh_defs.specs.Slot.{holds}
use Rattle.rh_defs.specs.Messages.{Parcel}
use Rattle.rh_defs.specs.AnyMessage.{data_bytes, read_body}
use Rattle.rh_defs.specs.Post.{post_poll}
use Rattle.rh_defs.specs.Desk.{Desk, Task, task_at, has_name}

-- whether a task has code of its own
abbrev pub is_raw : Manner → Bool
is_raw manner.Raw = true
is_raw _ = false

-- whether the live task with the handle has
abbrev pub is_raw_task : Option Task → Bool
is_raw_task None = false
is_raw_task (Some t) = is_raw t.manner

abbrev pub is_raw_at : ℕ → Desk → Bool
is_raw_at h d = is_raw_task (task_at h d)

-- ---- where bytes may be moved to

-- whether a record fetches from the task, and its buffer has the bytes
abbrev pub opens_buffer : ℕ → ℕ → ℕ → ℕ → Incoming → Bool
opens_buffer from room y n (incoming.Fetching f) = f.sender == from && is_inside y n f.buffer room
opens_buffer from room y n _ = false

-- whether a fetch names a range that has the bytes
abbrev pub names_range : ℕ → ℕ → Body → Bool
names_range y n (RamFetch buffer amount) = is_inside y n buffer amount
names_range y n _ = false

-- whether the message that is held is such a fetch of the task
abbrev pub opens_range : ℕ → ℕ → ℕ → Option Parcel → Bool
opens_range from y n None = false
opens_range from y n (Some p) = p.message.from == from && names_range y n (read_body p.message.body)

-- whether task r opened the bytes to the task with the handle from, which holds such a message: a task that the desk
-- plays opens them by a record that fetches, another by a fetch that is held, where they lie whole in one live block
abbrev pub is_open_to : ℕ → Option Parcel → Task → ℕ → ℕ → Bool
is_open_to from held r y n =
    if is_raw r.manner then opens_range r.handle y n held && holds y n r.slot
    else list_any (opens_buffer from r.buffer y n) r.taking

-- ---- what a poll hands out

-- the message that a poll of such a task hands out
abbrev pub next_taken : Desk → Option Task → Option Parcel
next_taken d None = None
next_taken d (Some t) = if is_raw t.manner then (post_poll t.handle d.post).1 else None

-- what is told of a message that is handed out: its sender's handle, and its data
abbrev pub handed_parts : Parcel → ℕ × List ℕ
handed_parts p = (p.message.from, data_bytes p.message.body)

-- the message that the task with the name would be handed
abbrev pub handed_to : List ℕ → Desk → Option Parcel
handed_to name d = next_taken d (find (has_name name) d.tasks)
