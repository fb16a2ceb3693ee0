-- Which bytes spell a message, and the first fault of bytes that spell none. Read Messages first.
-- b is the bytes, m the message, f the data of a file; end is what the length word says: the message ends there.
-- `-` of naturals doesn't have to stop: a name is looked for only where end is 48 at least, above *MESSAGE_NAME*.
use Rattle.std.specs.Prelude.{◌≡◌, ℕ, ◌+◌, ◌-◌, ◌%◌, ◌<◌, ◌≤◌, ◌==◌, ◌&&◌, Bool, true, nat_lt, nat_le, if◌then◌else◌, List, [], ◌∷◌, length, slice_index, Option, Some, None, Result, Ok, Err}
use Rattle.std.specs.List.{position}
use Rattle.rh_defs.specs.Bytes.{word, part}
use Rattle.rh_defs.specs.Messages.{action_at, action_number, action_of, data_words}
use Rattle.rh_defs.specs.Pathnames.{is_plain}
use Rattle.rh_defs.specs.declared.sizes.TheConstants.{LONGEST_MESSAGE, MESSAGE_NAME}
use Rattle.rh_defs.specs.declared.message.Action.{Action}
use Rattle.rh_defs.specs.declared.message.Action.TheVariants as action
use Rattle.rh_defs.specs.declared.message.FileData.{FileData}
use Rattle.rh_defs.specs.declared.message.Body.{Body}
use Rattle.rh_defs.specs.declared.message.Body.TheVariants.{DataSave, DataSaveAck, DataLoad, DataLoadAck, RamFetch, RamTransmit, Other}
use Rattle.rh_defs.specs.declared.message.Message.{Message}
use Rattle.rh_defs.specs.declared.message.MessageFault.{MessageFault}
use Rattle.rh_defs.specs.declared.message.MessageFault.TheVariants.{BadLength, BadAction}

-- ---- the relation
-- the words from a place on are these numbers
abbrev pub SpellWords : List ℕ → ℕ → List ℕ → Type 0
SpellWords b at [] = Unit {0}
SpellWords b at (n ∷ ns) = (word b at ≡ n) × SpellWords b (at + 4) ns

-- the length is enough for the words of a file, and the name at 44 is ended by a zero byte inside it
abbrev pub SpellsName : List ℕ → ℕ → List ℕ → Type 0
SpellsName b end name =
    (48 ≤ end) × (part b MESSAGE_NAME (length name) ≡ name) × (is_plain name ≡ true) × (MESSAGE_NAME + length name < end)
    × (slice_index b (MESSAGE_NAME + length name) ≡ 0)

-- what the length must have room for
abbrev pub SpellsTail : List ℕ → ℕ → Body → Type 0
SpellsTail b end (DataSave f) = SpellsName b end f.name
SpellsTail b end (DataSaveAck f) = SpellsName b end f.name
SpellsTail b end (DataLoad f) = SpellsName b end f.name
SpellsTail b end (DataLoadAck f) = SpellsName b end f.name
SpellsTail b end (RamFetch buffer n) = 28 ≤ end
SpellsTail b end (RamTransmit buffer n) = 28 ≤ end
SpellsTail b end (Other o) = ⊥

-- The bytes spell the message, of one of the six kinds. There may be more bytes than the length says, and a length may be greater than its message needs.
pub record SpellsMessage (b : List ℕ) (m : Message) : Type 0 where
  pub least : 20 ≤ word b 0
  pub most : word b 0 ≤ LONGEST_MESSAGE
  pub multiple : word b 0 % 4 ≡ 0
  pub within : word b 0 ≤ length b
  pub words : SpellWords b 4 (m.from ∷ m.my_ref ∷ m.your_ref ∷ action_number (action_of m.body) ∷ data_words m.body)
  pub tail : SpellsTail b (word b 0) m.body

-- ---- the message, or the first fault
-- how many bytes the name at 44 has before its zero byte, where one stands below the end
abbrev pub name_length : List ℕ → ℕ → Option ℕ
name_length b end = position (λ x. x == 0) (part b MESSAGE_NAME (end - MESSAGE_NAME))

abbrev pub file_named : List ℕ → Option ℕ → Result FileData MessageFault
file_named b None = Err BadLength
file_named b (Some n) = Ok (record {
  window = word b 20;
  icon = word b 24;
  x = word b 28;
  y = word b 32;
  size = word b 36;
  file_type = word b 40;
  name = part b MESSAGE_NAME n;
})

abbrev pub file_in : List ℕ → ℕ → Result FileData MessageFault
file_in b end = if nat_lt end 48 then Err BadLength else file_named b (name_length b end)

abbrev pub about_file : (FileData → Body) → Result FileData MessageFault → Result Body MessageFault
about_file make (Ok f) = Ok (make f)
about_file make (Err fault) = Err fault

abbrev pub about_ram : (ℕ → ℕ → Body) → List ℕ → ℕ → Result Body MessageFault
about_ram make b end = if nat_lt end 28 then Err BadLength else Ok (make (word b 20) (word b 24))

-- the body with an action
abbrev pub body_for : List ℕ → ℕ → Option Action → Result Body MessageFault
body_for b end None = Err BadAction
body_for b end (Some action.DataSave) = about_file DataSave (file_in b end)
body_for b end (Some action.DataSaveAck) = about_file DataSaveAck (file_in b end)
body_for b end (Some action.DataLoad) = about_file DataLoad (file_in b end)
body_for b end (Some action.DataLoadAck) = about_file DataLoadAck (file_in b end)
body_for b end (Some action.RamFetch) = about_ram RamFetch b end
body_for b end (Some action.RamTransmit) = about_ram RamTransmit b end
body_for b end (Some (action.Other n)) = Err BadAction

abbrev pub body_in : List ℕ → ℕ → Result Body MessageFault
body_in b end = body_for b end (action_at (word b 16))

abbrev pub message_in : List ℕ → Result Body MessageFault → Result Message MessageFault
message_in b (Ok body) = Ok (record { from = word b 4; my_ref = word b 8; your_ref = word b 12; body = body })
message_in b (Err fault) = Err fault

-- whether the length word is that of a message, and so many bytes are there
abbrev pub has_length : List ℕ → Bool
has_length b =
    nat_le 20 (length b) && nat_le 20 (word b 0) && nat_le (word b 0) LONGEST_MESSAGE && word b 0 % 4 == 0 && nat_le (word b 0) (length b)

-- the message that the bytes spell; else the first fault: of the length word, of the action, of the length for the action
unfoldable pub decoded : List ℕ → Result Message MessageFault
decoded b = if has_length b then message_in b (body_in b (word b 0)) else Err BadLength
