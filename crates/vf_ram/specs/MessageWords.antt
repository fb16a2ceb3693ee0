-- A message as a struct of words, with its name as bytes.
use Rattle.std.specs.Prelude.{ℕ, ◌-◌, ◌==◌, nat_le, nat_lt, ◌&&◌, if◌then◌else◌, List, [], ◌++◌, length, take, replicate, Option, Some, None, Result, Ok, Err}
use Rattle.rh_defs.specs.MessageImage.{decoded}
use Rattle.rh_defs.specs.Messages.{action_number, action_of, encoded, encoded_length}
use Rattle.rh_defs.specs.Bytes.{with_part}
use Rattle.rh_defs.specs.Pathnames.{is_pathname}
use Rattle.rh_defs.specs.declared.message.Body.{Body}
use Rattle.rh_defs.specs.declared.message.Body.TheVariants.{DataSave, DataSaveAck, DataLoad, DataLoadAck, RamFetch, RamTransmit, Other}
use Rattle.rh_defs.specs.declared.message.FileData.{FileData}
use Rattle.rh_defs.specs.declared.message.Message.{Message}
use Rattle.rh_defs.specs.declared.message.MessageFault.{MessageFault}
use Rattle.vf_ram.specs.declared.message_words.VfFileWords.{VfFileWords}
use Rattle.vf_ram.specs.declared.message_words.VfMessageWords.{VfMessageWords}
use Rattle.vf_ram.specs.WithStatus.{WithStatus, and_then, bad_message, bad_name, fault_status}

-- ---- a message into words

-- of a message that is about no file
abbrev pub no_file : VfFileWords
no_file = record { window = 0; icon = 0; x = 0; y = 0; size = 0; file_type = 0 }

-- what a message says of a file
abbrev pub as_file_words : FileData → VfFileWords
as_file_words f = record { window = f.window; icon = f.icon; x = f.x; y = f.y; size = f.size; file_type = f.file_type }

-- a name with zeros behind it, 212 bytes in all
abbrev pub as_name : List ℕ → List ℕ
as_name name = name ++ replicate (212 - length name) 0

-- the words of a message about a file
abbrev pub words_about_file : Message → ℕ → FileData → VfMessageWords
words_about_file m action f = record {
  from = m.from;
  my_ref = m.my_ref;
  your_ref = m.your_ref;
  action = action;
  buffer = 0;
  count = 0;
  file = as_file_words f;
  name_length = length f.name;
  name = as_name f.name;
}

-- the words of a message about bytes in a buffer
abbrev pub words_about_bytes : Message → ℕ → ℕ → ℕ → VfMessageWords
words_about_bytes m action buffer count = record {
  from = m.from;
  my_ref = m.my_ref;
  your_ref = m.your_ref;
  action = action;
  buffer = buffer;
  count = count;
  file = no_file;
  name_length = 0;
  name = as_name [];
}

-- the words of a message, by what it has
abbrev pub words_with : Message → Body → VfMessageWords
words_with m (DataSave f) = words_about_file m 1 f
words_with m (DataSaveAck f) = words_about_file m 2 f
words_with m (DataLoad f) = words_about_file m 3 f
words_with m (DataLoadAck f) = words_about_file m 4 f
words_with m (RamFetch buffer n) = words_about_bytes m 6 buffer n
words_with m (RamTransmit buffer n) = words_about_bytes m 7 buffer n
words_with m (Other o) = words_about_bytes m o.0 0 0

-- a message as words
abbrev pub as_words : Message → VfMessageWords
as_words m = words_with m m.body

-- ---- words into a message

-- the name, where it is one that a message can carry
abbrev pub name_in_words : VfMessageWords → WithStatus (List ℕ)
name_in_words w =
    if nat_lt (length w.name) w.name_length then Err bad_name
    else if is_pathname (take w.name_length w.name) then Ok (take w.name_length w.name)
    else Err bad_name

-- the file, where its name is one that a message can carry
abbrev pub file_in_words : VfMessageWords → WithStatus FileData
file_in_words w = and_then (name_in_words w) (λ name. Ok (record {
  window = w.file.window;
  icon = w.file.icon;
  x = w.file.x;
  y = w.file.y;
  size = w.file.size;
  file_type = w.file.file_type;
  name = name;
}))

-- what a message has, by its action
abbrev pub body_in_words : VfMessageWords → WithStatus Body
body_in_words w =
    if w.action == 1 then and_then (file_in_words w) (λ f. Ok (DataSave f))
    else if w.action == 2 then and_then (file_in_words w) (λ f. Ok (DataSaveAck f))
    else if w.action == 3 then and_then (file_in_words w) (λ f. Ok (DataLoad f))
    else if w.action == 4 then and_then (file_in_words w) (λ f. Ok (DataLoadAck f))
    else if w.action == 6 then Ok (RamFetch w.buffer w.count)
    else if w.action == 7 then Ok (RamTransmit w.buffer w.count)
    else Err bad_message

-- the message that words tell of, or why they tell of none
abbrev pub message_in_words : VfMessageWords → WithStatus Message
message_in_words w = and_then (body_in_words w) (λ body. Ok (record { from = w.from; my_ref = w.my_ref; your_ref = w.your_ref; body = body }))

-- ---- messages and blocks

-- a message's bytes in a block, and what stood behind them
abbrev pub in_block : List ℕ → Message → List ℕ
in_block old m = with_part old 0 (encoded m)

-- what bytes spell, with a status in place of their fault
abbrev pub decode_answer : Result Message MessageFault → WithStatus Message
decode_answer (Ok m) = Ok m
decode_answer (Err fault) = Err (fault_status fault)
