-- The items of lists as structs of C, and which list a question is answered with.
use Rattle.std.specs.Prelude.{ℕ, ◌-◌, true, false, if◌then◌else◌, List, [], ◌++◌, length, replicate, Option, Some, None, Ok, Err}
use Rattle.rh_defs.specs.declared.question.AreaItem.{AreaItem}
use Rattle.rh_defs.specs.declared.question.AreaItem.TheVariants as item
use Rattle.rh_defs.specs.declared.question.BlockItem.{BlockItem}
use Rattle.rh_defs.specs.declared.question.RecordItem.{RecordItem}
use Rattle.rh_defs.specs.declared.question.SegmentItem.{SegmentItem}
use Rattle.rh_defs.specs.declared.question.SegmentItem.TheVariants as segment
use Rattle.rh_defs.specs.declared.question.State.{State}
use Rattle.rh_defs.specs.declared.question.State.TheVariants as state
use Rattle.rh_defs.specs.declared.question.Question.{Question}
use Rattle.rh_defs.specs.Chain.{Granted}
use Rattle.rh_defs.specs.Desk.{Desk}
use Rattle.rh_defs.specs.Questions.{Listed, Nothing, Bytes, Blocks, Segments, Records, Areas, Told, asked}
use Rattle.rh_defs.specs.Range.{can_be_asked}
use Rattle.vf_desk.specs.declared.items.VfArea.{VfArea}
use Rattle.vf_desk.specs.declared.items.VfBlock.{VfBlock}
use Rattle.vf_desk.specs.declared.items.VfRecord.{VfRecord}
use Rattle.vf_desk.specs.declared.items.VfSegment.{VfSegment}

-- ---- items

abbrev pub as_block : BlockItem → VfBlock
as_block b = record { anchor = b.anchor; address = b.address; size = b.size }

abbrev pub as_segment : SegmentItem → VfSegment
as_segment (segment.Used address size) = record { address = address; size = size; used = true }
as_segment (segment.Hole address size) = record { address = address; size = size; used = false }

abbrev pub state_number : State → ℕ
state_number state.Open = 0
state_number state.Fetching = 1
state_number state.Draining = 2
state_number state.Asking = 3
state_number state.Done = 4
state_number state.Failed = 5

abbrev pub record_of : RecordItem → VfRecord
record_of r = record { state = state_number r.state; id = r.id; count = r.count }

-- a name with zeros behind it, 13 bytes in all
abbrev pub padded_name : List ℕ → List ℕ
padded_name name = name ++ replicate (13 - length name) 0

abbrev pub as_area : AreaItem → VfArea
as_area (item.Area number pages) = record { number = number; pages = pages; name = padded_name [] }
as_area (item.Slot name pages) = record { number = 0; pages = pages; name = padded_name name }

-- ---- the list that a question is answered with

-- what an answer lists; a refusal lists nothing
abbrev pub listed_with : Granted Told → Listed
listed_with (Ok answered) = answered.1
listed_with (Err refusal) = Nothing

-- what is listed for a question, where the desk is open and seen as this one, or closed
abbrev pub list_asked : Option Desk → Question → Listed
list_asked None q = Nothing
list_asked (Some d) q = if can_be_asked q then listed_with (asked d q) else Nothing

-- the list of each kind, empty where an answer has another
abbrev pub bytes_listed : Listed → List ℕ
bytes_listed (Bytes bytes) = bytes
bytes_listed _ = []

abbrev pub blocks_listed : Listed → List BlockItem
blocks_listed (Blocks blocks) = blocks
blocks_listed _ = []

abbrev pub segments_listed : Listed → List SegmentItem
segments_listed (Segments segments) = segments
segments_listed _ = []

abbrev pub outgoing_in : Listed → List RecordItem
outgoing_in (Records outgoing incoming) = outgoing
outgoing_in _ = []

abbrev pub incoming_in : Listed → List RecordItem
incoming_in (Records outgoing incoming) = incoming
incoming_in _ = []

abbrev pub areas_listed : Listed → List AreaItem
areas_listed (Areas areas) = areas
areas_listed _ = []
