-- Whether an action is due: whether its transfer is one of the records, as it stands there.
use Rattle.std.specs.Prelude.{ℕ, ◌+◌, ◌^◌, Bool, true, false, not, ◌&&◌, nat_lt, ◌==◌, List}
use Rattle.std.specs.List.{list_any}
use mathlib.Core.Bool.{beq}
use Rattle.rh_defs.specs.declared.transfer.Sending.{Sending}
use Rattle.rh_defs.specs.declared.transfer.Taking.{Taking}
use Rattle.rh_defs.specs.declared.transfer.Asked.{Asked}
use Rattle.rh_defs.specs.declared.transfer.Outgoing.{Outgoing}
use Rattle.rh_defs.specs.declared.transfer.Outgoing.TheVariants as outgoing
use Rattle.rh_defs.specs.declared.transfer.Incoming.{Incoming}
use Rattle.rh_defs.specs.declared.transfer.Incoming.TheVariants as incoming
use Rattle.rh_defs.specs.declared.transfer_action.Append.{Append}
use Rattle.rh_defs.specs.declared.transfer_action.Ending.{Ending}
use Rattle.rh_defs.specs.declared.transfer_action.Ending.TheVariants as ending
use Rattle.rh_defs.specs.declared.transfer_action.SendAction.{SendAction}
use Rattle.rh_defs.specs.declared.transfer_action.TakeAction.{TakeAction}
use Rattle.rh_defs.specs.declared.transfer_action.TakeAction.TheVariants as action
use Rattle.rh_defs.specs.Records.{is_going, is_full}
use Rattle.rh_defs.specs.Sender.{transfer_of}

-- whether two transfers that go out are the same in all that is kept of them
abbrev pub is_same_sending : Sending → Sending → Bool
is_same_sending x y = x.id == y.id && x.recipient == y.recipient && x.anchor == y.anchor && x.count == y.count && x.last == y.last

-- whether two transfers that come in through a buffer are the same in all that is kept of them
abbrev pub is_same_taking : Taking → Taking → Bool
is_same_taking f g =
    f.id == g.id && f.sender == g.sender && f.anchor == g.anchor && f.buffer == g.buffer && f.count == g.count && f.fetch == g.fetch
    && beq f.raw g.raw

-- whether two transfers that wait for a file are the same in all that is kept of them
abbrev pub is_same_asked : Asked → Asked → Bool
is_same_asked p q = p.id == q.id && p.sender == q.sender && p.anchor == q.anchor && p.ack == q.ack

-- whether the record is this open transfer
abbrev pub is_open_as : Sending → Outgoing → Bool
is_open_as x (outgoing.Open y) = is_same_sending x y
is_open_as x _ = false

-- whether the record is this transfer, which fetches
abbrev pub is_fetching_as : Taking → Incoming → Bool
is_fetching_as f (incoming.Fetching g) = is_same_taking f g
is_fetching_as f _ = false

-- whether the record is this transfer, which drains
abbrev pub is_draining_as : Taking → Incoming → Bool
is_draining_as f (incoming.Draining g) = is_same_taking f g
is_draining_as f _ = false

-- whether the record is this transfer, which waits for a file
abbrev pub is_asking_as : Asked → Incoming → Bool
is_asking_as p (incoming.Asking q) = is_same_asked p q
is_asking_as p _ = false

-- whether the record is this transfer, which ends so: one that was given up drains, any other fetches
abbrev pub is_ending_as : Ending → Taking → Incoming → Bool
is_ending_as ending.Drained = is_draining_as
is_ending_as ending.Unanswered = is_fetching_as
is_ending_as ending.Uncountable = is_fetching_as

-- whether a record can count the bytes
abbrev pub is_countable : Append → Bool
is_countable a = nat_lt (a.transfer.count + a.n) (2 ^ 32)

-- whether an action of a task that sends is due
abbrev pub is_send_due : SendAction → List Outgoing → Bool
is_send_due a records = list_any (is_open_as (transfer_of a)) records

-- whether an action of a task that receives is due; a claim, which has no record yet, is due where there is room for one
abbrev pub is_take_due : TakeAction → List Incoming → Bool
is_take_due (action.Claim a) records = not (is_full is_going records)
is_take_due (action.Append a) records = list_any (is_fetching_as a.transfer) records && is_countable a
is_take_due (action.AskForFile f) records = list_any (is_fetching_as f) records && f.count == 0
is_take_due (action.LoadFile a) records = list_any (is_asking_as a.transfer) records
is_take_due (action.Release a) records = list_any (is_ending_as a.ending a.transfer) records
