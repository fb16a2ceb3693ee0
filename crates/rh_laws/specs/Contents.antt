-- What stands in the buffer of a record that fetches from a task with code of its own: what that task's transfers wrote
-- there, over zeros. Read RawCommands of rh_defs, and Given and Buffers of rh_safety, first.
-- d is a desk, t the task that polls or moves bytes, u the one that they are moved to, h a handle, m the message that a
-- poll takes, b its body, o what was done with it, r a reply, x and y are addresses, n is a number of bytes, f a transfer
-- that fetches, g what stands in each buffer so far. *contents_next* follows one command by its reply, *contents_from*
-- all commands.
-- `-` of naturals stops at 0: a record that has moved bytes in its buffer has that no higher.
use Rattle.std.specs.Prelude.{◌≡◌, ℕ, ◌+◌, ◌-◌, ◌==◌, ◌&&◌, nat_le, Bool, true, false, List, [], ◌∷◌, ◌++◌, take, find, Option, Some, None}
use Rattle.std.specs.List.{Contains}
use Rattle.rh_defs.specs.declared.command.Command.{Command}
use Rattle.rh_defs.specs.declared.command.Command.TheVariants as command
use Rattle.rh_defs.specs.declared.raw_command.RawCommand.TheVariants as raw
use Rattle.rh_defs.specs.declared.message.Body.{Body}
use Rattle.rh_defs.specs.declared.message.Body.TheVariants.{DataSave}
use Rattle.rh_defs.specs.declared.reply.Outcome.{Outcome}
use Rattle.rh_defs.specs.declared.reply.Outcome.TheVariants as outcome
use Rattle.rh_defs.specs.declared.reply.Reply.{Reply}
use Rattle.rh_defs.specs.declared.reply.Reply.TheVariants as reply
use Rattle.rh_defs.specs.declared.transfer.Incoming.{Incoming}
use Rattle.rh_defs.specs.declared.transfer.Incoming.TheVariants as incoming
use Rattle.rh_defs.specs.declared.transfer.Taking.{Taking}
use Rattle.rh_defs.specs.AnyMessage.{read_body}
use Rattle.rh_defs.specs.Messages.{Parcel}
use Rattle.rh_defs.specs.Post.{post_poll}
use Rattle.rh_defs.specs.Pieces.{written, zeros}
use Rattle.rh_defs.specs.Heap.{block_room}
use Rattle.rh_defs.specs.Places.{bytes_held}
use Rattle.rh_defs.specs.Desk.{Desk, Task, has_name, task_at}
use Rattle.rh_defs.specs.Commands.{step}
use Rattle.rh_defs.specs.Runs.{after}
use Rattle.rh_safety.specs.Buffers.{bytes_of_buffer}
use Rattle.rh_safety.specs.Given.{given, is_bounce}
use Rattle.rh_safety.specs.Offered.{at_place}

-- by handle of the task that receives and by id, the bytes of the buffer; an id is never given again
abbrev pub Contents : Type 0
Contents = ℕ → ℕ → List ℕ

-- other bytes in the buffer of the handle's record with the id
abbrev pub filled_with : Contents → ℕ → ℕ → List ℕ → Contents
filled_with g h id bytes = at_place g h (at_place (g h) id bytes)

-- a DataSave that came and is answered by a fetch makes a record with its ref for an id, and a buffer: a block of zeros
abbrev pub contents_by : Contents → Task → Parcel → Bool → Body → Outcome → Contents
contents_by g t m false (DataSave file) (outcome.Fetch ref) =
    filled_with g t.handle m.message.my_ref (zeros (block_room t.buffer))
contents_by g t m back b o = g

-- by a poll's reply, and the message that it took
abbrev pub contents_event : Contents → Task → Option Parcel → Reply → Contents
contents_event g t (Some m) (reply.Event code action mine yours o) =
    contents_by g t m (is_bounce m.code) (read_body m.message.body) o
contents_event g t _ _ = g

abbrev pub contents_polled : Contents → Desk → Option Task → Reply → Contents
contents_polled g d None r = g
contents_polled g d (Some t) r = contents_event g t (post_poll t.handle d.post).1 r

-- whether the record fetches from the task with the handle `from`, and its buffer, of so much room, has n bytes at y
abbrev pub fetches_into : ℕ → ℕ → ℕ → ℕ → Incoming → Bool
fetches_into from room y n (incoming.Fetching f) =
    f.sender == from && (nat_le f.buffer y && nat_le (y + n) (f.buffer + room))
fetches_into from room y n _ = false

-- bytes that are moved to y are written into that record's buffer
abbrev pub contents_written : Contents → ℕ → ℕ → List ℕ → Option Incoming → Contents
contents_written g h y bytes (Some (incoming.Fetching f)) =
    filled_with g h f.id (written (g h f.id) (y - f.buffer) bytes)
contents_written g h y bytes _ = g

-- n bytes at x of task t, moved to y of task u
abbrev pub contents_moved : Contents → Option Task → Option Task → ℕ → ℕ → ℕ → Contents
contents_moved g (Some t) (Some u) x y n =
    contents_written g u.handle y (bytes_held x n t.slot) (find (fetches_into t.handle u.buffer y n) u.taking)
contents_moved g _ _ x y n = g

-- what stands in each buffer after one more command, by the command's reply
abbrev pub contents_next : Contents → Desk → Command → Reply → Contents
contents_next g d (command.Poll name) r = contents_polled g d (find (has_name name) d.tasks) r
contents_next g d (command.Raw (raw.Transfer name x h y n)) reply.Done =
    contents_moved g (find (has_name name) d.tasks) (task_at h d) x y n
contents_next g d _ r = g

-- after commands
abbrev pub contents_from : Contents → Desk → List Command → Contents
contents_from g d [] = g
contents_from g d (c ∷ commands) = contents_from (contents_next g d c (step d c).1) (step d c).0 commands

-- what stands in the buffer of the handle's record with the id, in a run of the commands from the desk
abbrev pub contents : Desk → List Command → ℕ → ℕ → List ℕ
contents d commands h id = contents_from (λ k i. []) d commands h id

-- After the commands each record of a live task that fetches from a task with code of its own has just these bytes in its
-- buffer: the whole block, which has as many bytes as the task's buffers, or up to seven more.
abbrev pub HasContents : Desk → List Command → Type 0
HasContents d commands =
    (h : ℕ) (t : Task) (f : Taking) → task_at h (after d commands) ≡ Some t →
    Contains t.taking (incoming.Fetching f) → f.raw ≡ true →
    bytes_of_buffer t.slot f.buffer ≡ Some (contents d commands h f.id)

-- A poll gives of such a transfer some of the first ones of these bytes, and nothing else (Given of rh_safety).
abbrev pub GivesContents : Desk → List Command → Type 0
GivesContents d commands =
    (name : List ℕ) (t : Task) (f : Taking) → find (has_name name) (after d commands).tasks ≡ Some t →
    Contains t.taking (incoming.Fetching f) → f.raw ≡ true → (n : ℕ) × (given d (commands ++ command.Poll name ∷ []) f.id ≡
    given d commands f.id ++ take n (contents d commands t.handle f.id))
