-- What a sender's Done means: each record of the transfer is Done with the same count, or Failed, or the last bytes are
-- on their way to it. Read Progress first.
-- d is a desk, s the sender's handle and t its task, r the receiver or its handle and u its task, n the sender's count,
-- f a transfer that has a buffer, p a message in its block, w a record that comes in.
use Rattle.std.specs.Prelude.{◌≡◌, ℕ, ◌+◌, ◌<◌, ◌≤◌, true, List, length, Some}
use Rattle.std.specs.List.{AllByRecursion, Contains}
use Rattle.rh_defs.specs.declared.message.EventCode.TheVariants.{User}
use Rattle.rh_defs.specs.declared.message.Body.TheVariants.{RamTransmit}
use Rattle.rh_defs.specs.declared.transfer.Incoming.{Incoming}
use Rattle.rh_defs.specs.declared.transfer.Incoming.TheVariants as incoming
use Rattle.rh_defs.specs.declared.transfer.Outgoing.TheVariants as outgoing
use Rattle.rh_defs.specs.declared.transfer.Taking.{Taking}
use Rattle.rh_defs.specs.Range.{all_in_range}
use Rattle.rh_defs.specs.Messages.{Parcel}
use Rattle.rh_defs.specs.Records.{in_id}
use Rattle.rh_defs.specs.Desk.{Desk, Task, task_at}
use Rattle.rh_defs.specs.Runs.{after}
use Rattle.rh_defs.specs.Laws.{Always}
use Rattle.rh_laws.specs.Progress.{NamesAll, rounds_of, work}

-- the last transmit for a record of task r that has a buffer: from task s, in answer to the record's fetch, of fewer bytes than
-- the buffer has, with which the record counts n
pub record IsFinal (s : ℕ) (r : Task) (n : ℕ) (f : Taking) (p : Parcel) : Type 0 where
  pub code : p.code ≡ User
  pub to : p.to ≡ r.handle
  pub from : p.message.from ≡ s
  pub answers : p.message.your_ref ≡ f.fetch
  pub written : ℕ
  pub body : p.message.body ≡ RamTransmit f.buffer written
  pub short : written < r.buffer
  pub whole : f.count + written ≡ n

-- the record of task r says Done with n bytes, or Failed, or its last transmit is queued
abbrev pub Matches : Desk → ℕ → Task → ℕ → Incoming → Type 0
Matches d s r n (incoming.Done id k count) = count ≡ n
Matches d s r n (incoming.Failed id k count) = Unit {0}
Matches d s r n (incoming.Fetching f) = (p : Parcel) × (Contains d.post.queued p × IsFinal s r n f p)
Matches d s r n (incoming.Draining f) = (p : Parcel) × (Contains d.post.queued p × IsFinal s r n f p)
Matches d s r n (incoming.Asking q) = ⊥

-- the record says Done with n bytes, or Failed
abbrev pub HasEnded : ℕ → Incoming → Type 0
HasEnded n (incoming.Done id k count) = count ≡ n
HasEnded n (incoming.Failed id k count) = Unit {0}
HasEnded n _ = ⊥

-- where a record of task s says Done with n bytes, the law P holds of each record of a live task r with the same id
abbrev pub WhereDone : (ℕ → Task → ℕ → Incoming → Type 0) → Desk → Type 0
WhereDone P d =
    (s r id n : ℕ) (t u : Task) (w : Incoming) → task_at s d ≡ Some t → Contains t.sending (outgoing.Done id n) → task_at r d ≡ Some u →
    Contains u.taking w → in_id w ≡ id → P s u n w

-- so it is now; and after as many rounds as there is work, each of which polls every live task, each such record has ended
pub record DoneMatches (d : Desk) : Type 0 where
  pub now : WhereDone (Matches d) d
  pub rests :
      (rounds : List (List (List ℕ))) → all_in_range (rounds_of rounds) ≡ true → AllByRecursion (NamesAll d) rounds → work d ≤ length rounds →
      WhereDone (λ s r n w. HasEnded n w) (after d (rounds_of rounds))

-- so it is of each desk that a run reaches
abbrev pub AlwaysMatches : Type 0
AlwaysMatches = Always DoneMatches
