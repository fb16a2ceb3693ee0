-- What a poll took and did, as a struct of numbers.
use Rattle.std.specs.Prelude.{ℕ, ◌^◌, nat_lt, if◌then◌else◌, Option, Some, None}
use Rattle.rh_defs.specs.Desk.{Desk, next_ref}
use Rattle.rh_defs.specs.declared.reply.Outcome.{Outcome}
use Rattle.rh_defs.specs.declared.reply.Outcome.TheVariants as outcome
use Rattle.rh_defs.specs.declared.reply.Reply.{Reply}
use Rattle.rh_defs.specs.declared.reply.Reply.TheVariants as reply
use Rattle.rh_defs.specs.Messages.{action_number, code_number}
use Rattle.vf_desk.specs.declared.call_outcome.CallOutcome.{CallOutcome}
use Rattle.vf_desk.specs.declared.call_outcome.CallOutcome.TheVariants.{Said}
use Rattle.vf_desk.specs.declared.event.EventDeed.{EventDeed}
use Rattle.vf_desk.specs.declared.event.VfEvent.{VfEvent}
use Rattle.vf_desk.specs.DeskStatus.{refusal_number}

-- what was done with a message: the deed, the bytes that were moved, the ref of the message that was sent, the refusal
abbrev pub deed_with : ℕ → ℕ → ℕ → ℕ → EventDeed
deed_with did count sent refusal = record { did = did; count = count; sent = sent; refusal = refusal }

-- the ref of the message that is sent next on a desk; 0 on a closed one, or where the last ref was given
abbrev pub next_ref_in : Option Desk → ℕ
next_ref_in None = 0
next_ref_in (Some d) = if nat_lt (next_ref d) (2 ^ 32) then next_ref d else 0

-- the deed of an outcome; the reply of a loaded file doesn't name the DataLoadAck, whose ref is therefore given
abbrev pub deed_of : ℕ → Outcome → EventDeed
deed_of ack outcome.Ignored = deed_with 0 0 0 0
deed_of ack (outcome.Fetch fetch) = deed_with 1 0 fetch 0
deed_of ack (outcome.Sent count transmit) = deed_with 2 count transmit 0
deed_of ack (outcome.Refused refusal) = deed_with 3 0 0 (refusal_number refusal)
deed_of ack outcome.Failed = deed_with 4 0 0 0
deed_of ack outcome.Drained = deed_with 5 0 0 0
deed_of ack (outcome.TookLast count) = deed_with 6 count 0 0
deed_of ack (outcome.TookFull count fetch) = deed_with 7 count fetch 0
deed_of ack (outcome.TookFailed count refusal) = deed_with 8 count 0 (refusal_number refusal)
deed_of ack (outcome.Asked sent) = deed_with 9 0 sent 0
deed_of ack (outcome.Saved count load) = deed_with 10 count load 0
deed_of ack (outcome.Loaded count) = deed_with 11 count ack 0
deed_of ack (outcome.LoadedFailed count refusal) = deed_with 12 count 0 (refusal_number refusal)
deed_of ack outcome.Done = deed_with 13 0 0 0
deed_of ack outcome.Taken = deed_with 14 0 0 0

-- the event of these first words, and of a deed
abbrev pub event_with : ℕ → ℕ → ℕ → ℕ → EventDeed → VfEvent
event_with code action mine yours deed = record {
  code = code;
  action = action;
  my_ref = mine;
  your_ref = yours;
  did = deed.did;
  count = deed.count;
  sent = deed.sent;
  refusal = deed.refusal;
}

-- a poll's reply as an event, or what was there before; a DataLoadAck that the poll has sent has the ref that is given
abbrev pub event_told : ℕ → Reply → VfEvent → VfEvent
event_told ack reply.NoEvent old = event_with 0 0 0 0 (deed_with 0 0 0 0)
event_told ack (reply.Event code action mine yours out) old =
    event_with (code_number code) (action_number action) mine yours (deed_of ack out)
event_told ack _ old = old

abbrev pub event_or : ℕ → CallOutcome → VfEvent → VfEvent
event_or ack (Said r) old = event_told ack r old
event_or ack _ old = old
