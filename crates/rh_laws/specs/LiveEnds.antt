-- No record waits in vain: a message of its task that asks for what comes next is queued or held, or the answer to that
-- message is queued. Read Transfer of rh_defs and Alternation of rh_safety first.
-- h and other are the handles of the two ends, ref is that of the message, p a message in its block, room the size of a
-- buffer, n a number of bytes. Asks and Answers say what of the body must hold.
use Rattle.std.specs.Prelude.{◌≡◌, ◌⊎◌, ℕ, ◌≤◌, false, Some}
use Rattle.std.specs.List.{Contains}
use Rattle.rh_defs.specs.declared.command.Manner.{Manner}
use Rattle.rh_defs.specs.declared.message.Body.{Body}
use Rattle.rh_defs.specs.declared.message.Body.TheVariants.{DataSave, DataSaveAck, DataLoad, DataLoadAck, RamFetch, RamTransmit}
use Rattle.rh_defs.specs.declared.message.EventCode.TheVariants.{Recorded, Acknowledge}
use Rattle.rh_defs.specs.declared.transfer.Incoming.{Incoming}
use Rattle.rh_defs.specs.declared.transfer.Incoming.TheVariants as incoming
use Rattle.rh_defs.specs.declared.transfer.Outgoing.{Outgoing}
use Rattle.rh_defs.specs.declared.transfer.Outgoing.TheVariants as outgoing
use Rattle.rh_defs.specs.Messages.{Parcel}
use Rattle.rh_defs.specs.Post.{Post, held_by}
use Rattle.rh_defs.specs.Desk.{Desk, Scrap, Task, task_at}
use Rattle.rh_defs.specs.Transfer.{answers_none}
use Rattle.rh_safety.specs.Played.{AfterPlayed}
use Rattle.rh_laws.specs.Rest.{IsOffered}

-- ---- bodies

-- asks for at most so many bytes in the buffer
abbrev pub IsFetch : ℕ → ℕ → Body → Type 0
IsFetch buffer room (RamFetch into n) = (into ≡ buffer) × (n ≤ room)
IsFetch buffer room _ = ⊥

-- says that at most so many bytes are in the buffer
abbrev pub IsTransmit : ℕ → ℕ → Body → Type 0
IsTransmit buffer room (RamTransmit into n) = (into ≡ buffer) × (n ≤ room)
IsTransmit buffer room _ = ⊥

-- asks for a file
abbrev pub AsksForFile : Body → Type 0
AsksForFile (DataSaveAck file) = Unit {0}
AsksForFile _ = ⊥

-- says that the file is there
abbrev pub IsLoad : Body → Type 0
IsLoad (DataLoad file) = Unit {0}
IsLoad _ = ⊥

-- a sender's last message: a task that answers no fetch goes on by a DataLoad alone
abbrev pub IsSent : Manner → Body → Type 0
IsSent manner (DataSave file) = answers_none manner ≡ false
IsSent manner (RamTransmit buffer n) = answers_none manner ≡ false
IsSent manner (DataLoad file) = Unit {0}
IsSent manner _ = ⊥

-- what a sender goes on by: the file was loaded, or at least a byte is fetched from a task that answers fetches
abbrev pub IsReply : Manner → Body → Type 0
IsReply manner (DataLoadAck file) = Unit {0}
IsReply manner (RamFetch buffer n) = (answers_none manner ≡ false) × (1 ≤ n)
IsReply manner _ = ⊥

-- ---- messages

-- a message of task h with the ref, which is on its way to the other end or came back
pub record IsOwn (h other ref : ℕ) (Asks : Body → Type 0) (p : Parcel) : Type 0 where
  pub from : p.message.from ≡ h
  pub my_ref : p.message.my_ref ≡ ref
  pub asks : Asks p.message.body
  pub way : ((p.code ≡ Recorded) × (p.to ≡ other)) ⊎ ((p.code ≡ Acknowledge) × (p.to ≡ h))

-- a message from the other end to task h that answers the ref, and did not come back
pub record IsAnswer (h other ref : ℕ) (Answers : Parcel → Type 0) (p : Parcel) : Type 0 where
  pub to : p.to ≡ h
  pub from : p.message.from ≡ other
  pub your_ref : p.message.your_ref ≡ ref
  pub came : p.code ≡ Acknowledge → ⊥
  pub answers : Answers p

-- one of which P holds is queued
abbrev pub SomeQueued : (Parcel → Type 0) → Post → Type 0
SomeQueued P post = (p : Parcel) × (Contains post.queued p × P p)

-- one of which P holds is held by a task
abbrev pub SomeHeld : (Parcel → Type 0) → Post → Type 0
SomeHeld P post = (holder : ℕ) × ((p : Parcel) × ((held_by holder post.seats ≡ Some p) × P p))

-- what a record of task h has that waits by the ref: its message is queued or held, or the answer to it is queued
pub data IsAlive (post : Post) (h other ref : ℕ) (Asks : Body → Type 0) (Answers : Parcel → Type 0) : Type 0 where
  asks : SomeQueued (IsOwn h other ref Asks) post → IsAlive post h other ref Asks Answers
  held : SomeHeld (IsOwn h other ref Asks) post → IsAlive post h other ref Asks Answers
  answered : SomeQueued (IsAnswer h other ref Answers) post → IsAlive post h other ref Asks Answers

-- ---- records

-- the DataLoad of the scrap file
pub record LoadsScrap (d : Desk) (p : Parcel) : Type 0 where
  pub code : p.code ≡ Recorded
  pub load : IsLoad p.message.body
  pub file : Scrap
  pub there : d.scrap ≡ Some file
  pub names : file.load ≡ p.message.my_ref

-- of a record of task t, whose handle is h, that comes in
abbrev pub ComesAlive : Desk → ℕ → Task → Incoming → Type 0
ComesAlive d h t (incoming.Fetching f) =
    IsAlive d.post h f.sender f.fetch (IsFetch f.buffer t.buffer) (λ p. IsTransmit f.buffer t.buffer p.message.body)
ComesAlive d h t (incoming.Draining f) =
    IsAlive d.post h f.sender f.fetch (IsFetch f.buffer t.buffer) (λ p. IsTransmit f.buffer t.buffer p.message.body)
ComesAlive d h t (incoming.Asking q) = IsAlive d.post h q.sender q.ack AsksForFile (LoadsScrap d)
ComesAlive d h t _ = Unit {0}

-- of a record of task t that goes out; a task that answers no fetch may have only offered
abbrev pub GoesAlive : Desk → ℕ → Task → Outgoing → Type 0
GoesAlive d h t (outgoing.Open x) =
    IsOffered t x ⊎ IsAlive d.post h x.recipient x.last (IsSent t.manner) (λ p. IsReply t.manner p.message.body)
GoesAlive d h t _ = Unit {0}

-- so it is of each record of each live task
pub record HasLiveEnds (d : Desk) : Type 0 where
  pub comes : (h : ℕ) (t : Task) (w : Incoming) → task_at h d ≡ Some t → Contains t.taking w → ComesAlive d h t w
  pub goes : (h : ℕ) (t : Task) (x : Outgoing) → task_at h d ≡ Some t → Contains t.sending x → GoesAlive d h t x

-- so it is of each desk that a run reaches in which no command starts a task with code of its own
abbrev pub AlwaysHasLiveEnds : Type 0
AlwaysHasLiveEnds = AfterPlayed HasLiveEnds
