-- What went out of a transfer's source, by polls. Read Offered and Given of rh_safety first.
-- d is a desk, t the task that polls, m the message that it takes, o what it did with it, r its reply, b the message's body, g
-- what went out under each id so far, x an open transfer that goes out, v a record, n a number of bytes. *moved_next* follows
-- one command by its reply, *moved_from* all commands.
use Rattle.std.specs.Prelude.{◌≡◌, ℕ, Bool, false, List, [], ◌∷◌, ◌++◌, take, drop, find, unwrap_or, Option, Some, None}
use Rattle.std.specs.List.{Contains}
use Rattle.rh_defs.specs.declared.command.Command.{Command}
use Rattle.rh_defs.specs.declared.command.Command.TheVariants as command
use Rattle.rh_defs.specs.declared.message.Body.{Body}
use Rattle.rh_defs.specs.declared.message.Body.TheVariants.{RamFetch}
use Rattle.rh_defs.specs.declared.reply.Outcome.{Outcome}
use Rattle.rh_defs.specs.declared.reply.Outcome.TheVariants as outcome
use Rattle.rh_defs.specs.declared.reply.Reply.{Reply}
use Rattle.rh_defs.specs.declared.reply.Reply.TheVariants as reply
use Rattle.rh_defs.specs.declared.transfer.Outgoing.{Outgoing}
use Rattle.rh_defs.specs.declared.transfer.Outgoing.TheVariants as outgoing
use Rattle.rh_defs.specs.declared.transfer.Sending.{Sending}
use Rattle.rh_defs.specs.AnyMessage.{read_body}
use Rattle.rh_defs.specs.Messages.{Parcel}
use Rattle.rh_defs.specs.Post.{post_poll}
use Rattle.rh_defs.specs.Records.{open_of, out_id}
use Rattle.rh_defs.specs.Sender.{would_answer}
use Rattle.rh_defs.specs.Desk.{Desk, Task, has_name, task_at}
use Rattle.rh_defs.specs.Commands.{step}
use Rattle.rh_defs.specs.Runs.{after}
use Rattle.rh_safety.specs.Given.{is_bounce}
use Rattle.rh_safety.specs.Offered.{at_place, bytes_of_block, offered}

-- by id, the bytes that went out
abbrev pub Moved : Type 0
Moved = ℕ → List ℕ

-- n bytes of the open record's source went out, from its count on
abbrev pub moved_bytes : Moved → Task → Option Sending → ℕ → Moved
moved_bytes g t None n = g
moved_bytes g t (Some x) n = at_place g x.id (g x.id ++ take n (drop x.count (unwrap_or (bytes_of_block t.slot x.anchor) [])))

-- by a message that came, or came back: a fetch gets the bytes that the poll says it sent
abbrev pub moved_by : Moved → Task → Parcel → Bool → Body → Outcome → Moved
moved_by g t m false (RamFetch buffer room) (outcome.Sent n ref) =
    moved_bytes g t (open_of (would_answer m.message.from m.message.your_ref room) t.sending) n
moved_by g t m back b o = g

-- by a poll's reply, and the message that it took
abbrev pub moved_event : Moved → Task → Option Parcel → Reply → Moved
moved_event g t (Some m) (reply.Event code action mine yours o) = moved_by g t m (is_bounce m.code) (read_body m.message.body) o
moved_event g t _ _ = g

abbrev pub moved_polled : Moved → Desk → Option Task → Reply → Moved
moved_polled g d None r = g
moved_polled g d (Some t) r = moved_event g t (post_poll t.handle d.post).1 r

-- what went out after one more command, by the command's reply
abbrev pub moved_next : Moved → Desk → Command → Reply → Moved
moved_next g d (command.Poll name) r = moved_polled g d (find (has_name name) d.tasks) r
moved_next g d _ r = g

-- what went out after commands
abbrev pub moved_from : Moved → Desk → List Command → Moved
moved_from g d [] = g
moved_from g d (c ∷ commands) = moved_from (moved_next g d c (step d c).1) (step d c).0 commands

-- what went out of the transfer with the id, in a run of the commands from the desk
abbrev pub went_out : Desk → List Command → ℕ → List ℕ
went_out d commands id = moved_from (λ i. []) d commands id

-- ---- records

-- of an open or a failed record the bytes that it counts, of a Done one some of the first ones
abbrev pub IsFront : Outgoing → List ℕ → List ℕ → Type 0
IsFront (outgoing.Open x) file sent = sent ≡ take x.count file
IsFront (outgoing.Failed id n) file sent = sent ≡ take n file
IsFront (outgoing.Done id n) file sent = (k : ℕ) × (sent ≡ take k file)

-- the record's id was offered a file, and what went out is so much of its front
pub record SendsFront (o : ℕ → Option (List ℕ)) (g : Moved) (v : Outgoing) : Type 0 where
  pub file : List ℕ
  pub is : o (out_id v) ≡ Some file
  pub front : IsFront v file (g (out_id v))

-- after the commands so it is of each record of a live task that goes out, whoever its recipient
abbrev pub SendsOffered : Desk → List Command → Type 0
SendsOffered d commands =
    (h : ℕ) (t : Task) (v : Outgoing) → task_at h (after d commands) ≡ Some t → Contains t.sending v →
    SendsFront (offered d commands) (went_out d commands) v
