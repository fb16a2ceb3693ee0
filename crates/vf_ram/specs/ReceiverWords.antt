-- A receiver, its records and its actions as structs of words.
use Rattle.std.specs.Prelude.{ℕ, false, nat_lt, nat_le, ◌==◌, if◌then◌else◌, List, length, take, map, slice_get, Option, Some, None, Ok, Err}
use Rattle.rh_defs.specs.declared.sizes.TheConstants.{ANCHORS, MOST_RECORDS}
use Rattle.rh_defs.specs.declared.transfer.Asked.{Asked}
use Rattle.rh_defs.specs.declared.transfer.Incoming.{Incoming}
use Rattle.rh_defs.specs.declared.transfer.Incoming.TheVariants as incoming
use Rattle.rh_defs.specs.declared.transfer.Taking.{Taking}
use Rattle.rh_defs.specs.declared.transfer_action.Append.{Append}
use Rattle.rh_defs.specs.declared.transfer_action.Claim.{Claim}
use Rattle.rh_defs.specs.declared.transfer_action.Ending.{Ending}
use Rattle.rh_defs.specs.declared.transfer_action.Ending.TheVariants as ending
use Rattle.rh_defs.specs.declared.transfer_action.Fetch.{Fetch}
use Rattle.rh_defs.specs.declared.transfer_action.LoadFile.{LoadFile}
use Rattle.rh_defs.specs.declared.transfer_action.Next.{Next}
use Rattle.rh_defs.specs.declared.transfer_action.Next.TheVariants as next
use Rattle.rh_defs.specs.declared.transfer_action.Release.{Release}
use Rattle.rh_defs.specs.declared.transfer_action.TakeAction.{TakeAction}
use Rattle.rh_defs.specs.declared.transfer_action.TakeAction.TheVariants as action
use Rattle.vf_ram.specs.declared.receiver_words.VfFetch.{VfFetch}
use Rattle.vf_ram.specs.declared.receiver_words.VfIncoming.{VfIncoming}
use Rattle.vf_ram.specs.declared.receiver_words.VfReceiver.{VfReceiver}
use Rattle.vf_ram.specs.declared.receiver_words.VfTakeAction.{VfTakeAction}
use Rattle.vf_ram.specs.declared.receiver_words.VfTaking.{VfTaking}
use Rattle.vf_ram.specs.RecordPlaces.{all_or_none, places}
use Rattle.vf_ram.specs.WithStatus.{WithStatus, and_then, bad_action, bad_records, or_status}

-- ---- records

-- a transfer that comes in, as words
abbrev pub as_taking : Taking → VfTaking
as_taking f = record { id = f.id; sender = f.sender; anchor = f.anchor; buffer = f.buffer; count = f.count; fetch = f.fetch }

-- none where the anchor is none of a slot's; of a sender that isn't known to have code of its own
abbrev pub taking_of : VfTaking → Option Taking
taking_of w =
    if nat_lt w.anchor ANCHORS
    then Some (record { id = w.id; sender = w.sender; anchor = w.anchor; buffer = w.buffer; count = w.count; fetch = w.fetch; raw = false })
    else None

-- one that waits for a file has the ref of its DataSaveAck in place of a fetch's
abbrev pub as_asked : Asked → VfTaking
as_asked q = record { id = q.id; sender = q.sender; anchor = q.anchor; buffer = 0; count = 0; fetch = q.ack }

-- none where the anchor is none of a slot's
abbrev pub asked_of : VfTaking → Option Asked
asked_of w = if nat_lt w.anchor ANCHORS then Some (record { id = w.id; sender = w.sender; anchor = w.anchor; ack = w.fetch }) else None

-- an ended transfer, of which the id, the anchor and the count are kept, or none
abbrev pub ended_taking : ℕ → ℕ → ℕ → VfTaking
ended_taking id anchor count = record { id = id; sender = 0; anchor = anchor; buffer = 0; count = count; fetch = 0 }

-- a record, as its state's number and its transfer
abbrev pub as_incoming : Incoming → VfIncoming
as_incoming (incoming.Fetching f) = record { state = 1; transfer = as_taking f }
as_incoming (incoming.Draining f) = record { state = 2; transfer = as_taking f }
as_incoming (incoming.Asking q) = record { state = 3; transfer = as_asked q }
as_incoming (incoming.Done id anchor count) = record { state = 4; transfer = ended_taking id anchor count }
as_incoming (incoming.Failed id anchor count) = record { state = 5; transfer = ended_taking id anchor count }

-- a record of what the words spell, if they spell something
abbrev pub made_of : {A : Type 0} → (A → Incoming) → Option A → Option Incoming
made_of make (Some x) = Some (make x)
made_of make None = None

-- none where the state is none of a record that comes in, or the anchor none of a slot's
abbrev pub incoming_of : VfIncoming → Option Incoming
incoming_of w =
    if w.state == 1 then made_of incoming.Fetching (taking_of w.transfer)
    else if w.state == 2 then made_of incoming.Draining (taking_of w.transfer)
    else if w.state == 3 then made_of incoming.Asking (asked_of w.transfer)
    else if w.state == 4 then made_of (λ f. incoming.Done f.id f.anchor f.count) (taking_of w.transfer)
    else if w.state == 5 then made_of (λ f. incoming.Failed f.id f.anchor f.count) (taking_of w.transfer)
    else None

-- ---- a receiver

-- zeros
abbrev pub no_incoming : VfIncoming
no_incoming = record { state = 0; transfer = ended_taking 0 0 0 }

-- the record, or zeros where there is none
abbrev pub incoming_or_none : Option Incoming → VfIncoming
incoming_or_none (Some r) = as_incoming r
incoming_or_none None = no_incoming

-- the records, and zeros behind them
abbrev pub as_receiver : List Incoming → VfReceiver
as_receiver records = record { count = length records; records = map (λ i. incoming_or_none (slice_get records i)) places }

-- the records that a receiver has, as far as it counts them
abbrev pub receiver_in : VfReceiver → WithStatus (List Incoming)
receiver_in r = if nat_le r.count MOST_RECORDS then or_status (all_or_none incoming_of (take r.count r.records)) bad_records else Err bad_records

-- ---- actions

-- a fetch to be sent, as words
abbrev pub as_fetch : Fetch → VfFetch
as_fetch a = record { to = a.to; answers = a.answers; buffer = a.buffer; room = a.room }

-- the fetch that words tell of
abbrev pub fetch_of : VfFetch → Fetch
fetch_of w = record { to = w.to; answers = w.answers; buffer = w.buffer; room = w.room }

-- zeros
abbrev pub no_fetch : VfFetch
no_fetch = record { to = 0; answers = 0; buffer = 0; room = 0 }

-- an action with nothing but a transfer
abbrev pub plain_action : ℕ → VfTaking → VfTakeAction
plain_action what f = record { what = what; transfer = f; n = 0; next = 0; next_fetch = no_fetch; to = 0; answers = 0; ending = 0 }

-- what follows on bytes, as a number
abbrev pub next_number : Next → ℕ
next_number (next.Fetch a) = 1
next_number next.Finish = 2

-- the fetch that follows on bytes, or zeros
abbrev pub next_words : Next → VfFetch
next_words (next.Fetch a) = as_fetch a
next_words next.Finish = no_fetch

-- why a buffer is released, as a number
abbrev pub ending_number : Ending → ℕ
ending_number ending.Drained = 1
ending_number ending.Unanswered = 2
ending_number ending.Uncountable = 3

-- what there is to do, as words; zeros where it is nothing
abbrev pub as_take_action : Option TakeAction → VfTakeAction
as_take_action None = plain_action 0 (ended_taking 0 0 0)
as_take_action (Some (action.Claim a)) = plain_action 4 (record (ended_taking a.id 0 0) { sender = a.sender })
as_take_action (Some (action.Append a)) =
    record (plain_action 5 (as_taking a.transfer)) { n = a.n; next = next_number a.next; next_fetch = next_words a.next }
as_take_action (Some (action.AskForFile f)) = plain_action 6 (as_taking f)
as_take_action (Some (action.LoadFile a)) = record (plain_action 7 (as_asked a.transfer)) { to = a.to; answers = a.answers }
as_take_action (Some (action.Release a)) = record (plain_action 8 (as_taking a.transfer)) { ending = ending_number a.ending }

-- an action's transfer
abbrev pub taking_in : VfTakeAction → WithStatus Taking
taking_in w = or_status (taking_of w.transfer) bad_action

-- an action's transfer that waits for a file
abbrev pub asked_in : VfTakeAction → WithStatus Asked
asked_in w = or_status (asked_of w.transfer) bad_action

-- the action, where it is to claim
abbrev pub claim_in : VfTakeAction → WithStatus Claim
claim_in w = if w.what == 4 then Ok (record { id = w.transfer.id; sender = w.transfer.sender; raw = false }) else Err bad_action

-- what follows on bytes
abbrev pub next_in : VfTakeAction → WithStatus Next
next_in w =
    if w.next == 1 then Ok (next.Fetch (fetch_of w.next_fetch)) else if w.next == 2 then Ok next.Finish else Err bad_action

-- the action, where it is to append
abbrev pub append_in : VfTakeAction → WithStatus Append
append_in w =
    if w.what == 5
    then and_then (taking_in w) (λ f. and_then (next_in w) (λ next. Ok (record { transfer = f; n = w.n; next = next }))) else Err bad_action

-- the transfer, where the action is to ask for a file
abbrev pub ask_in : VfTakeAction → WithStatus Taking
ask_in w = if w.what == 6 then taking_in w else Err bad_action

-- the action, where it is to load a file
abbrev pub load_file_in : VfTakeAction → WithStatus LoadFile
load_file_in w =
    if w.what == 7 then and_then (asked_in w) (λ q. Ok (record { transfer = q; to = w.to; answers = w.answers })) else Err bad_action

-- why a buffer is released
abbrev pub ending_in : VfTakeAction → WithStatus Ending
ending_in w =
    if w.ending == 1 then Ok ending.Drained
    else if w.ending == 2 then Ok ending.Unanswered
    else if w.ending == 3 then Ok ending.Uncountable
    else Err bad_action

-- the action, where it is to release a buffer
abbrev pub release_in : VfTakeAction → WithStatus Release
release_in w =
    if w.what == 8
    then and_then (taking_in w) (λ f. and_then (ending_in w) (λ ending. Ok (record { transfer = f; ending = ending }))) else Err bad_action

-- any of the five
abbrev pub take_action_in : VfTakeAction → WithStatus TakeAction
take_action_in w =
    if w.what == 4 then and_then (claim_in w) (λ a. Ok (action.Claim a))
    else if w.what == 5 then and_then (append_in w) (λ a. Ok (action.Append a))
    else if w.what == 6 then and_then (ask_in w) (λ f. Ok (action.AskForFile f))
    else if w.what == 7 then and_then (load_file_in w) (λ a. Ok (action.LoadFile a))
    else and_then (release_in w) (λ a. Ok (action.Release a))
