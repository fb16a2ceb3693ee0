-- What a message says, and the bytes that spell it. Read Bytes and Pathnames first.
-- m is a message, f the data of a file, o an action's number and its bytes, b a body, p a parcel: a message that is
-- queued or held, in its block of the module area. link is the first word of that block: where the block of the next
-- message is, or 0.
-- `-` of naturals doesn't have to stop: a rounded length is no less than the length.
use Rattle.std.specs.Prelude.{◌≡◌, ℕ, ◌+◌, ◌-◌, ◌^◌, ◌<◌, Bool, true, false, ◌==◌, if◌then◌else◌, List, [], ◌∷◌, ◌++◌, length, unwrap_or, Option, Some, None}
use Rattle.rh_defs.specs.Bytes.{with_part, word_bytes}
use Rattle.rh_defs.specs.Pieces.{round_up, zeros}
use Rattle.rh_defs.specs.Pathnames.{is_pathname}
use Rattle.rh_defs.specs.OtherBodies.{is_other}
use Rattle.rh_defs.specs.Heap.{block_room}
use Rattle.rh_defs.specs.declared.message.EventCode.{EventCode}
use Rattle.rh_defs.specs.declared.message.EventCode.TheVariants.{User, Recorded, Acknowledge}
use Rattle.rh_defs.specs.declared.message.Action.{Action}
use Rattle.rh_defs.specs.declared.message.Action.TheVariants as action
use Rattle.rh_defs.specs.declared.message.FileData.{FileData}
use Rattle.rh_defs.specs.declared.message.Body.{Body}
use Rattle.rh_defs.specs.declared.message.Body.TheVariants.{DataSave, DataSaveAck, DataLoad, DataLoadAck, RamFetch, RamTransmit, Other}
use Rattle.rh_defs.specs.declared.message.Message.{Message}

-- ---- event codes
abbrev pub code_number : EventCode → ℕ
code_number User = 17
code_number Recorded = 18
code_number Acknowledge = 19

abbrev pub code_at : ℕ → Option EventCode
code_at n = if n == 17 then Some User else if n == 18 then Some Recorded else if n == 19 then Some Acknowledge else None

-- whether a message under the code wants an answer
abbrev pub is_recorded : EventCode → Bool
is_recorded User = false
is_recorded Recorded = true
is_recorded Acknowledge = false

-- ---- actions
abbrev pub action_number : Action → ℕ
action_number action.DataSave = 1
action_number action.DataSaveAck = 2
action_number action.DataLoad = 3
action_number action.DataLoadAck = 4
action_number action.RamFetch = 6
action_number action.RamTransmit = 7
action_number (action.Other n) = n

abbrev pub action_at : ℕ → Option Action
action_at n =
    if n == 1 then Some action.DataSave
    else if n == 2 then Some action.DataSaveAck
    else if n == 3 then Some action.DataLoad
    else if n == 4 then Some action.DataLoadAck
    else if n == 6 then Some action.RamFetch
    else if n == 7 then Some action.RamTransmit
    else None

-- the action with a number, one of the six or another
abbrev pub action_named : ℕ → Action
action_named n = unwrap_or (action_at n) (action.Other n)

abbrev pub action_of : Body → Action
action_of (DataSave f) = action.DataSave
action_of (DataSaveAck f) = action.DataSaveAck
action_of (DataLoad f) = action.DataLoad
action_of (DataLoadAck f) = action.DataLoadAck
action_of (RamFetch buffer n) = action.RamFetch
action_of (RamTransmit buffer n) = action.RamTransmit
action_of (Other o) = action.Other o.0

-- whether a body is one of the six kinds
abbrev pub is_kind : Body → Bool
is_kind (Other o) = false
is_kind body = true

-- ---- bytes
-- numbers as words, one after the other
abbrev pub words : List ℕ → List ℕ
words [] = []
words (n ∷ ns) = word_bytes n ++ words ns

-- a name ended by a zero byte, with zeros up to whole words
abbrev pub name_bytes : List ℕ → List ℕ
name_bytes name = name ++ zeros (round_up 4 (length name + 1) - length name)

abbrev pub file_words : FileData → List ℕ
file_words f = f.window ∷ f.icon ∷ f.x ∷ f.y ∷ f.size ∷ f.file_type ∷ []

-- the words behind the action
abbrev pub data_words : Body → List ℕ
data_words (DataSave f) = file_words f
data_words (DataSaveAck f) = file_words f
data_words (DataLoad f) = file_words f
data_words (DataLoadAck f) = file_words f
data_words (RamFetch buffer n) = buffer ∷ n ∷ []
data_words (RamTransmit buffer n) = buffer ∷ n ∷ []
data_words (Other o) = []

-- the bytes behind those words
abbrev pub tail_bytes : Body → List ℕ
tail_bytes (DataSave f) = name_bytes f.name
tail_bytes (DataSaveAck f) = name_bytes f.name
tail_bytes (DataLoad f) = name_bytes f.name
tail_bytes (DataLoadAck f) = name_bytes f.name
tail_bytes (RamFetch buffer n) = []
tail_bytes (RamTransmit buffer n) = []
tail_bytes (Other o) = o.1

-- the action and what follows it
unfoldable pub body_bytes : Body → List ℕ
body_bytes b = words (action_number (action_of b) ∷ data_words b) ++ tail_bytes b

-- the length of a message block: four words, and the body
abbrev pub encoded_length : Message → ℕ
encoded_length m = 16 + length (body_bytes m.body)

-- the message block: its length, sender, my_ref, your_ref, and the body
unfoldable pub encoded : Message → List ℕ
encoded m = words (encoded_length m ∷ m.from ∷ m.my_ref ∷ m.your_ref ∷ []) ++ body_bytes m.body

-- ---- what fits into a message block
abbrev pub AreWords : List ℕ → Type 0
AreWords [] = Unit {0}
AreWords (n ∷ ns) = (n < 2 ^ 32) × AreWords ns

abbrev pub HasName : Body → Type 0
HasName (DataSave f) = is_pathname f.name ≡ true
HasName (DataSaveAck f) = is_pathname f.name ≡ true
HasName (DataLoad f) = is_pathname f.name ≡ true
HasName (DataLoadAck f) = is_pathname f.name ≡ true
HasName (RamFetch buffer n) = Unit {0}
HasName (RamTransmit buffer n) = Unit {0}
HasName (Other o) = (o.0 < 2 ^ 32) × (is_other o.0 o.1 ≡ true)

-- its numbers are words, and its name can stand in a message, or its bytes can
pub record Fits (m : Message) : Type 0 where
  pub from : m.from < 2 ^ 32
  pub my_ref : m.my_ref < 2 ^ 32
  pub your_ref : m.your_ref < 2 ^ 32
  pub numbers : AreWords (data_words m.body)
  pub name : HasName m.body

-- ---- in the module area
-- a live message: its event code, recipient and block
pub record Parcel : Type 0 where
  pub code : EventCode
  pub to : ℕ
  pub block : ℕ
  pub message : Message

-- the bytes of a block that a message takes: two words, and the message block
abbrev pub parcel_size : Message → ℕ
parcel_size m = 8 + encoded_length m

-- the link word, the code and the message block
unfoldable pub parcel_bytes : ℕ → Parcel → List ℕ
parcel_bytes link p = words (link ∷ code_number p.code ∷ []) ++ encoded p.message

-- all bytes of the block
unfoldable pub padded : ℕ → Parcel → List ℕ
padded link p = with_part (zeros (block_room (parcel_size p.message))) 0 (parcel_bytes link p)
