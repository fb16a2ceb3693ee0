-- The text of a reply: its words, one space between them, and its later lines behind two spaces. Read Questions first.
-- w is a word, b a byte or a block's item, r a reply or a record's item, d a desk, q a question, c a command.
use Rattle.std.specs.Prelude.{true, false, Bool, ◌&&◌, if◌then◌else◌, ℕ, List, [], ◌∷◌, ◌++◌, map, codes, Option, Some, None, Ok, Err}
use Rattle.std.specs.List.{flat_map}
use Rattle.std.specs.Fmt.{decimal, digits}
use Rattle.hex.specs.Hex.{encode_lower}
use Rattle.rh_defs.specs.declared.command.Command.{Command}
use Rattle.rh_defs.specs.declared.command.Command.TheVariants as command
use Rattle.rh_defs.specs.declared.fault.LineFault.{LineFault}
use Rattle.rh_defs.specs.declared.fault.LineFault.TheVariants.{TooLong, Unended, Unknown, Count, Word}
use Rattle.rh_defs.specs.declared.refusal.Refusal.{Refusal}
use Rattle.rh_defs.specs.declared.refusal.Refusal.TheVariants.{NameInUse, NoName, TooManyTasks, NoHandles, NoFile, NoBlock, AnchorInUse, NotABlock, NotYours, Busy, NotOpen, NothingSent, BadRange, BadSize, ExcessiveShrink, NoTask, NoRefs, QueueFull, NoBudge, NoRoom, NoArea, TooManyAreas, NoNumbers, TooBig, WrongManner, BadRef}
use Rattle.rh_defs.specs.declared.message.Action.{Action}
use Rattle.rh_defs.specs.declared.message.Action.TheVariants as action
use Rattle.rh_defs.specs.declared.reply.Reply.{Reply}
use Rattle.rh_defs.specs.declared.reply.Reply.TheVariants as reply
use Rattle.rh_defs.specs.declared.reply.Outcome.{Outcome}
use Rattle.rh_defs.specs.declared.reply.Outcome.TheVariants as outcome
use Rattle.rh_defs.specs.declared.question.BlockItem.{BlockItem}
use Rattle.rh_defs.specs.declared.question.SegmentItem.{SegmentItem}
use Rattle.rh_defs.specs.declared.question.SegmentItem.TheVariants as segment
use Rattle.rh_defs.specs.declared.question.AreaItem.{AreaItem}
use Rattle.rh_defs.specs.declared.question.AreaItem.TheVariants as item
use Rattle.rh_defs.specs.declared.question.State.{State}
use Rattle.rh_defs.specs.declared.question.State.TheVariants as state
use Rattle.rh_defs.specs.declared.question.RecordItem.{RecordItem}
use Rattle.rh_defs.specs.Messages.{Parcel, code_number}
use Rattle.rh_defs.specs.AnyMessage.{data_bytes}
use Rattle.rh_defs.specs.RawTasks.{handed_to}
use Rattle.rh_defs.specs.Desk.{Desk}
use Rattle.rh_defs.specs.Chain.{Granted}
use Rattle.rh_defs.specs.Range.{can_be_asked}
use Rattle.rh_defs.specs.Questions.{Listed, Nothing, Bytes, Blocks, Segments, Records, Areas, Told, each_of, asked, begins}

-- ---- words and lines

-- the words of a line
abbrev pub Words : Type 0
Words = List (List ℕ)

-- words with a space before each, and a line feed
abbrev pub rest_of_line : Words → List ℕ
rest_of_line [] = codes "\n"
rest_of_line (w ∷ words) = codes " " ++ (w ++ rest_of_line words)

-- a line that begins with a word
abbrev pub line : List ℕ → Words → List ℕ
line w words = w ++ rest_of_line words

-- the first line of a reply that is no refusal
abbrev pub ok : Words → List ℕ
ok words = line (codes "ok") words

-- an address: `&` and upper-case hexadecimal digits without leading zeros
unfoldable pub address : ℕ → List ℕ
address n = codes "&" ++ digits 16 true n

-- ---- names

-- a refusal's name as it is printed
abbrev pub refusal_name : Refusal → List ℕ
refusal_name NameInUse = codes "NameInUse"
refusal_name NoName = codes "NoName"
refusal_name TooManyTasks = codes "TooManyTasks"
refusal_name NoHandles = codes "NoHandles"
refusal_name NoFile = codes "NoFile"
refusal_name NoBlock = codes "NoBlock"
refusal_name AnchorInUse = codes "AnchorInUse"
refusal_name NotABlock = codes "NotABlock"
refusal_name NotYours = codes "NotYours"
refusal_name Busy = codes "Busy"
refusal_name NotOpen = codes "NotOpen"
refusal_name NothingSent = codes "NothingSent"
refusal_name BadRange = codes "BadRange"
refusal_name BadSize = codes "BadSize"
refusal_name ExcessiveShrink = codes "ExcessiveShrink"
refusal_name NoTask = codes "NoTask"
refusal_name NoRefs = codes "NoRefs"
refusal_name QueueFull = codes "QueueFull"
refusal_name NoBudge = codes "NoBudge"
refusal_name NoRoom = codes "NoRoom"
refusal_name NoArea = codes "NoArea"
refusal_name TooManyAreas = codes "TooManyAreas"
refusal_name NoNumbers = codes "NoNumbers"
refusal_name TooBig = codes "TooBig"
refusal_name WrongManner = codes "WrongManner"
refusal_name BadRef = codes "BadRef"

-- the reply of a bad line
unfoldable pub fault_text : LineFault → List ℕ
fault_text TooLong = line (codes "bad") (codes "TooLong" ∷ [])
fault_text Unended = line (codes "bad") (codes "Unended" ∷ [])
fault_text Unknown = line (codes "bad") (codes "Unknown" ∷ [])
fault_text Count = line (codes "bad") (codes "Count" ∷ [])
fault_text (Word n) = line (codes "bad") (codes "Word" ∷ decimal n ∷ [])

-- whether budging was on
abbrev pub on_or_off : Bool → List ℕ
on_or_off true = codes "on"
on_or_off false = codes "off"

-- the name of what a message is about, or its number
abbrev pub action_name : Action → List ℕ
action_name action.DataSave = codes "DataSave"
action_name action.DataSaveAck = codes "DataSaveAck"
action_name action.DataLoad = codes "DataLoad"
action_name action.DataLoadAck = codes "DataLoadAck"
action_name action.RamFetch = codes "RAMFetch"
action_name action.RamTransmit = codes "RAMTransmit"
action_name (action.Other n) = decimal n

-- what was done with a message
abbrev pub outcome_words : Outcome → Words
outcome_words outcome.Ignored = codes "ignored" ∷ []
outcome_words (outcome.Fetch ref) = codes "fetch" ∷ decimal ref ∷ []
outcome_words (outcome.Sent count ref) = codes "sent" ∷ decimal count ∷ decimal ref ∷ []
outcome_words (outcome.Refused refusal) = codes "failed" ∷ refusal_name refusal ∷ []
outcome_words outcome.Failed = codes "failed" ∷ []
outcome_words outcome.Drained = codes "drained" ∷ []
outcome_words (outcome.TookLast count) = codes "took" ∷ decimal count ∷ codes "done" ∷ []
outcome_words (outcome.TookFull count ref) = codes "took" ∷ decimal count ∷ codes "fetch" ∷ decimal ref ∷ []
outcome_words (outcome.TookFailed count refusal) = codes "took" ∷ decimal count ∷ codes "failed" ∷ refusal_name refusal ∷ []
outcome_words (outcome.Asked ref) = codes "asked" ∷ decimal ref ∷ []
outcome_words (outcome.Saved count ref) = codes "saved" ∷ decimal count ∷ decimal ref ∷ []
outcome_words (outcome.Loaded count) = codes "loaded" ∷ decimal count ∷ codes "done" ∷ []
outcome_words (outcome.LoadedFailed count refusal) = codes "loaded" ∷ decimal count ∷ codes "failed" ∷ refusal_name refusal ∷ []
outcome_words outcome.Done = codes "done" ∷ []
outcome_words outcome.Taken = codes "taken" ∷ []

-- ---- the first line

-- the bytes that a reply shows
abbrev pub shown_bytes : Listed → List ℕ
shown_bytes (Bytes bytes) = bytes
shown_bytes _ = []

-- a block's bytes behind its size: one word of two lower-case digits for each byte, no word for an empty block
abbrev pub hex_words : List ℕ → Words
hex_words [] = []
hex_words (b ∷ bytes) = encode_lower (b ∷ bytes) ∷ []

-- the first line
unfoldable pub first_line : Reply → Listed → List ℕ
first_line (reply.Refused refusal) listed = line (codes "refused") (refusal_name refusal ∷ [])
first_line reply.Done listed = ok []
first_line (reply.Started handle) listed = ok (decimal handle ∷ [])
first_line (reply.Block place) listed = ok (address place ∷ [])
first_line (reply.WasBudging on) listed = ok (on_or_off on ∷ [])
first_line (reply.Sent ref) listed = ok (decimal ref ∷ [])
first_line (reply.Answering ref) listed = ok (decimal ref ∷ [])
first_line (reply.Moved bytes) listed = ok (decimal bytes ∷ [])
first_line (reply.Made number) listed = ok (decimal number ∷ [])
first_line (reply.Answered numbers) listed = ok (map decimal (each_of numbers) ++ hex_words (shown_bytes listed))
first_line reply.NoEvent listed = ok (codes "0" ∷ [])
first_line (reply.Event code action mine yours outcome) listed =
    ok (decimal (code_number code) ∷ action_name action ∷ decimal mine ∷ decimal yours ∷ outcome_words outcome)

-- ---- later lines

-- a line behind two spaces
abbrev pub later : List ℕ → Words → List ℕ
later w words = codes "  " ++ line w words

-- a flex block: its anchor, address and size
abbrev pub block_line : BlockItem → List ℕ
block_line b = later (decimal b.anchor) (address b.address ∷ decimal b.size ∷ [])

-- a segment of a heap: its kind, address and size
abbrev pub segment_line : SegmentItem → List ℕ
segment_line (segment.Used place size) = later (codes "used") (address place ∷ decimal size ∷ [])
segment_line (segment.Hole place size) = later (codes "hole") (address place ∷ decimal size ∷ [])

-- an area by its number, or a slot by its task's name, and its pages
abbrev pub area_line : AreaItem → List ℕ
area_line (item.Area number pages) = later (codes "area") (decimal number ∷ decimal pages ∷ [])
area_line (item.Slot name pages) = later (codes "slot") (name ∷ decimal pages ∷ [])

-- the state of a transfer
abbrev pub state_name : State → List ℕ
state_name state.Open = codes "open"
state_name state.Fetching = codes "fetching"
state_name state.Draining = codes "draining"
state_name state.Asking = codes "asking"
state_name state.Done = codes "done"
state_name state.Failed = codes "failed"

-- a record: its state, id and count
abbrev pub record_line : List ℕ → RecordItem → List ℕ
record_line way r = later way (state_name r.state ∷ decimal r.id ∷ decimal r.count ∷ [])

-- the records of one direction, which the word names
abbrev pub record_lines : List ℕ → List RecordItem → List ℕ
record_lines way [] = later way (codes "idle" ∷ [])
record_lines way (r ∷ records) = flat_map (record_line way) (r ∷ records)

-- the later lines
unfoldable pub later_lines : Listed → List ℕ
later_lines Nothing = []
later_lines (Bytes bytes) = []
later_lines (Blocks blocks) = flat_map block_line blocks
later_lines (Segments segments) = flat_map segment_line segments
later_lines (Records outgoing incoming) = record_lines (codes "out") outgoing ++ record_lines (codes "in") incoming
later_lines (Areas areas) = flat_map area_line areas

-- what a task with code of its own is handed: the sender's handle, and the data
abbrev pub handed_line : Parcel → List ℕ
handed_line p = later (codes "from") (decimal p.message.from ∷ hex_words (data_bytes p.message.body))

-- the same by its parts; nothing where none is handed out
abbrev pub handed_text : Option (ℕ × List ℕ) → List ℕ
handed_text None = []
handed_text (Some parts) = later (codes "from") (decimal parts.0 ∷ hex_words parts.1)

-- ---- whole replies

-- the answer to a question, or its refusal
unfoldable pub answer_text : Granted Told → List ℕ
answer_text (Ok told) = first_line (reply.Answered told.0) told.1 ++ later_lines told.1
answer_text (Err refusal) = first_line (reply.Refused refusal) Nothing

-- what prints the reply to a command, on the desk after it: one that begins the desk's answer to a question that a line
-- can spell comes with all that the answer lists, any other stands alone
unfoldable pub reply_text : Desk → Command → Reply → List ℕ
reply_text d (command.Ask q) r =
    if can_be_asked q && begins (asked d q) r then answer_text (asked d q) else first_line r Nothing
reply_text d c r = first_line r Nothing

-- a text, and with it the line of a message that a task is handed
abbrev pub with_taken : List ℕ → Option Parcel → List ℕ
with_taken text None = text
with_taken text (Some p) = text ++ handed_line p

-- the message that a command on a desk hands to a task with code of its own
abbrev pub taken_of : Desk → Command → Option Parcel
taken_of d (command.Poll name) = handed_to name d
taken_of d c = None
