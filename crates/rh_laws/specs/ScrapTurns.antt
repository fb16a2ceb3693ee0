-- Two tasks that are polled in turn bring a transfer by way of the scrap file to its end. Read Alternation of rh_safety
-- first. r is the name of the receiver, s that of the sender, hr and hs are their handles, k is the source's anchor, id
-- the transfer.
use Rattle.std.specs.Prelude.{◌≡◌, ◌≢◌, ℕ, true, false, List, [], find, Some, None}
use Rattle.std.specs.List.{AllByRecursion}
use Rattle.rh_defs.specs.Post.{Seat}
use Rattle.rh_defs.specs.declared.command.Command.{Command}
use Rattle.rh_defs.specs.declared.command.Command.TheVariants as command
use Rattle.rh_defs.specs.declared.reply.Reply.TheVariants as reply
use Rattle.rh_defs.specs.Range.{in_range}
use Rattle.rh_defs.specs.Transfer.{answers_none}
use Rattle.rh_defs.specs.RawTasks.{is_raw}
use Rattle.rh_defs.specs.Desk.{Desk, Task, has_name}
use Rattle.rh_defs.specs.Commands.{step}
use Rattle.rh_defs.specs.Runs.{after}
use Rattle.rh_safety.specs.Offered.{bytes_of_block}
use Rattle.rh_safety.specs.Alternation.{turns, turns_before, all_granted, SenderDone, ReceiverDone}

-- the polls of receiver and sender in turn, seven and eight of them
abbrev pub seven_polls : List ℕ → List ℕ → List Command
seven_polls r s = turns r s 3

abbrev pub eight_polls : List ℕ → List ℕ → List Command
eight_polls r s = turns_before r s 4

-- Nothing is queued or held. The sender answers no fetch, and has the source at the anchor; the receiver is another
-- task.
pub record CanSaveFile (d : Desk) (s r : List ℕ) (k : ℕ) (sender receiver : Task) (source : List ℕ) : Type 0 where
  pub queue : d.post.queued ≡ []
  pub held : AllByRecursion (λ (seat : Seat). seat.holds ≡ None) d.post.seats
  pub sender_is : find (has_name s) d.tasks ≡ Some sender
  pub receiver_is : find (has_name r) d.tasks ≡ Some receiver
  pub apart : sender.handle ≢ receiver.handle
  pub answers : answers_none sender.manner ≡ true
  pub block : bytes_of_block sender.slot k ≡ Some source

-- both records are Done after the eight polls, the receiver's one poll before the last, and its document is the source
pub record EndsByFile (d : Desk) (s r : List ℕ) (hs hr id : ℕ) (source : List ℕ) : Type 0 where
  pub before : ReceiverDone (after d (seven_polls r s)) hr id source
  pub takes : ReceiverDone (after d (eight_polls r s)) hr id source
  pub sends : SenderDone (after d (eight_polls r s)) hs id source

-- a save is accepted, and then eight polls are refused nothing
abbrev pub EndsInEight : Desk → List ℕ → List ℕ → ℕ → List ℕ → Task → Task → List ℕ → ℕ → Type 0
EndsInEight d s r k leaf sender receiver source id =
    in_range (command.Save s k r leaf) ≡ true → CanSaveFile d s r k sender receiver source →
    (step d (command.Save s k r leaf)).1 ≡ reply.Sent id →
    let saved : Desk = (step d (command.Save s k r leaf)).0 in
    all_granted saved (eight_polls r s) ≡ true → EndsByFile saved s r sender.handle receiver.handle id source

-- so it is where the desk plays the receiver
abbrev pub ScrapAlternates : Desk → Type 0
ScrapAlternates d =
    (s r : List ℕ) (k : ℕ) (leaf : List ℕ) (sender receiver : Task) (source : List ℕ) (id : ℕ) →
    is_raw receiver.manner ≡ false → EndsInEight d s r k leaf sender receiver source id

-- so it is of any two tasks
abbrev pub AllScrapAlternate : Desk → Type 0
AllScrapAlternate d =
    (s r : List ℕ) (k : ℕ) (leaf : List ℕ) (sender receiver : Task) (source : List ℕ) (id : ℕ) →
    EndsInEight d s r k leaf sender receiver source id
