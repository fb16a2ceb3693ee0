-- Whom each transfer was offered to, and by whom. Read Offered and Held of rh_safety first.
-- d is a desk, a a map from ids to the two tasks, k an anchor, h, s and r are handles, of a sender and a receiver where
-- s and r are; id and ref are refs of a DataSave. r is a reply where one command is followed (*addresses_next*).
use Rattle.std.specs.Prelude.{◌≡◌, ℕ, List, [], ◌∷◌, find, unwrap_or, Option, Some, None}
use Rattle.std.specs.List.{Contains}
use Rattle.rh_defs.specs.declared.message.Body.{Body}
use Rattle.rh_defs.specs.declared.message.Body.TheVariants as body
use Rattle.rh_defs.specs.declared.message.Letter.{Letter}
use Rattle.rh_defs.specs.declared.command.Command.{Command}
use Rattle.rh_defs.specs.declared.command.Command.TheVariants as command
use Rattle.rh_defs.specs.declared.raw_command.RawCommand.TheVariants as raw
use Rattle.rh_defs.specs.declared.reply.Reply.{Reply}
use Rattle.rh_defs.specs.declared.reply.Reply.TheVariants as reply
use Rattle.rh_defs.specs.declared.transfer.Outgoing.{Outgoing}
use Rattle.rh_defs.specs.declared.transfer.Outgoing.TheVariants as outgoing
use Rattle.rh_defs.specs.declared.transfer.Incoming.{Incoming}
use Rattle.rh_defs.specs.declared.transfer.Incoming.TheVariants as incoming
use Rattle.rh_defs.specs.AnyMessage.{body_of, read_body}
use Rattle.rh_defs.specs.Files.{FileList}
use Rattle.rh_defs.specs.Records.{in_id, out_id}
use Rattle.rh_defs.specs.Desk.{Desk, Task, has_name, task_at}
use Rattle.rh_defs.specs.Commands.{step}
use Rattle.rh_defs.specs.Runs.{after, start_with}
use Rattle.rh_safety.specs.Held.{held}
use Rattle.rh_safety.specs.Offered.{at_place, last_of}

-- ---- addressed: by whom and to whom the DataSaves of a run were sent

-- the two tasks of a transfer, by their handles
pub record Parties : Type 0 where
  pub sender : ℕ
  pub receiver : ℕ

-- the tasks of the transfer with each id
abbrev pub Addresses : Type 0
Addresses = ℕ → Option Parties

-- the task that offers, and the one that is offered to
abbrev pub parties_of : Option Task → Option Task → Option Parties
parties_of (Some s) (Some r) = Some (record { sender = s.handle; receiver = r.handle })
parties_of _ _ = None

-- a save that was accepted is of the task with the one name, to that with the other
abbrev pub saved_to : Addresses → Desk → List ℕ → List ℕ → Reply → Addresses
saved_to a d name to (reply.Sent ref) =
    at_place a ref (parties_of (find (has_name name) d.tasks) (find (has_name to) d.tasks))
saved_to a d name to _ = a

-- a message that is read as a DataSave is, under its ref, of these tasks
abbrev pub addressed_as : Addresses → ℕ → Option Parties → Body → Addresses
addressed_as a ref parties (body.DataSave f) = at_place a ref parties
addressed_as a ref parties _ = a

-- a DataSave that is sent again is, under its own ref, of the tasks of the old one
abbrev pub addressed_again : Addresses → ℕ → ℕ → Body → Addresses
addressed_again a ref old b = addressed_as a ref (a old) (read_body b)

-- a task with code of its own, and the handle that it sends to
abbrev pub parties_to : Option Task → ℕ → Option Parties
parties_to None h = None
parties_to (Some s) h = Some (record { sender = s.handle; receiver = h })

-- what such a task sends is of it, and of the task with the handle
abbrev pub sent_to : Addresses → Desk → List ℕ → ℕ → Body → Reply → Addresses
sent_to a d name h b (reply.Sent ref) = addressed_as a ref (parties_to (find (has_name name) d.tasks) h) (read_body b)
sent_to a d name h b _ = a

-- the letter that a task sent last, where it sent one, is sent again: a DataSave is of the tasks of the old one
abbrev pub addressed_last : Addresses → ℕ → Option (Letter × ℕ) → Addresses
addressed_last a ref None = a
addressed_last a ref (Some last) = addressed_again a ref last.1 last.0.body

-- a repeat that was accepted is of the last letter of the task with the name
abbrev pub repeated_to : Addresses → Desk → List ℕ → Reply → Addresses
repeated_to a d name (reply.Sent ref) = addressed_last a ref (last_of (find (has_name name) d.tasks))
repeated_to a d name _ = a

-- the tasks of each id after one more command, by the command's reply
abbrev pub addresses_next : Addresses → Desk → Command → Reply → Addresses
addresses_next a d (command.Save name k to leaf) r = saved_to a d name to r
addresses_next a d (command.Repeat name) r = repeated_to a d name r
addresses_next a d (command.Raw (raw.Send name recorded h ref act bytes)) r =
    sent_to a d name h (body_of act (unwrap_or bytes [])) r
addresses_next a d _ r = a

-- the tasks of each id after commands
abbrev pub addresses_from : Addresses → Desk → List Command → Addresses
addresses_from a d [] = a
addresses_from a d (c ∷ commands) = addresses_from (addresses_next a d c (step d c).1) (step d c).0 commands

-- the tasks of the transfer with the id, in a run of the commands from the desk
abbrev pub addressed : Desk → List Command → ℕ → Option Parties
addressed d commands id = addresses_from (λ i. None) d commands id

-- ---- records that agree

-- offered by the one task to the other
abbrev pub From : Option Parties → ℕ → ℕ → Type 0
From parties s r = parties ≡ Some (record { sender = s; receiver = r })

-- the transfer of a record that comes in was offered to the task, by the one that the record names, where it names one
abbrev pub AgreesIn : Option Parties → ℕ → Incoming → Type 0
AgreesIn parties h (incoming.Fetching f) = From parties f.sender h
AgreesIn parties h (incoming.Draining f) = From parties f.sender h
AgreesIn parties h (incoming.Asking q) = From parties q.sender h
AgreesIn parties h (incoming.Done id k n) = (s : ℕ) × From parties s h
AgreesIn parties h (incoming.Failed id k n) = (s : ℕ) × From parties s h

-- the transfer of a record that goes out was offered by the task, to the one that the record names, where it names one
abbrev pub AgreesOut : Option Parties → ℕ → Outgoing → Type 0
AgreesOut parties h (outgoing.Open x) = From parties h x.recipient
AgreesOut parties h (outgoing.Done id n) = (r : ℕ) × From parties h r
AgreesOut parties h (outgoing.Failed id n) = (r : ℕ) × From parties h r

-- After the commands: what a task holds of a transfer was offered to it, and each record of a live task agrees with
-- what was offered under its id.
pub record IsAddressed (d : Desk) (commands : List Command) : Type 0 where
  pub holds : (id h : ℕ) (got : List ℕ) → held d commands id h ≡ Some got → (s : ℕ) × From (addressed d commands id) s h
  pub takes :
      (h : ℕ) (t : Task) (w : Incoming) → task_at h (after d commands) ≡ Some t → Contains t.taking w →
      AgreesIn (addressed d commands (in_id w)) h w
  pub sends :
      (h : ℕ) (t : Task) (v : Outgoing) → task_at h (after d commands) ≡ Some t → Contains t.sending v →
      AgreesOut (addressed d commands (out_id v)) h v

-- so it is after each list of commands, from each first desk
abbrev pub AlwaysAddressed : Type 0
AlwaysAddressed =
    (pool handle ref : ℕ) (files : FileList) (commands : List Command) →
    IsAddressed (start_with pool files handle ref) commands
