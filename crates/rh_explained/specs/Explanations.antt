-- The explanation of a bad line or a refused command: its number and what is wrong, below that its text, and below that
-- what helps, where that is clear.
use Rattle.std.specs.Prelude.{ℕ, ◌-◌, Bool, true, false, not, ◌==◌, ◌&&◌, ◌||◌, nat_lt, if◌then◌else◌, List, [], ◌++◌, codes, find, length, slice_index, Option, Some, None, Ok, Err}
use Rattle.std.specs.Fmt.{decimal}
use Rattle.rh_defs.specs.declared.command.Command.{Command}
use Rattle.rh_defs.specs.declared.fault.LineFault.{LineFault}
use Rattle.rh_defs.specs.declared.fault.LineFault.TheVariants.{TooLong, Unended, Unknown, Count, Word}
use Rattle.rh_defs.specs.declared.refusal.Refusal.{Refusal}
use Rattle.rh_defs.specs.declared.refusal.Refusal.TheVariants.{NameInUse, NoName, NoFile, NoBlock, AnchorInUse, NotABlock, NotYours, Busy, BadRange, NoTask, NoRoom, NoArea}
use Rattle.rh_defs.specs.declared.reply.Reply.{Reply}
use Rattle.rh_defs.specs.declared.reply.Reply.TheVariants.{Refused}
use Rattle.rh_defs.specs.Bytes.{space}
use Rattle.rh_defs.specs.Commands.{step}
use Rattle.rh_defs.specs.Desk.{Desk}
use Rattle.rh_defs.specs.Line.{Meaning, nth_word, words_of}
use Rattle.rh_defs.specs.Named.{name_in}
use Rattle.rh_defs.specs.Text.{address}
use Rattle.rh_explained.specs.CommandKinds.{forms, is_of_programs, kind_at, kind_named}
use Rattle.rh_explained.specs.KindTable.{kind_of}
use Rattle.rh_explained.specs.Sentences.{kind_help, why, why_for}
use Rattle.rh_explained.specs.ShownBytes.{shown_front}
use Rattle.rh_explained.specs.declared.shown.TheConstants.{MOST_OF_LINE, MOST_OF_WORD}
use Rattle.rh_explained.specs.Subjects.{address_in, anchor_in, area_in, facts_on, loaded_file, recipient_in}
use Rattle.rh_explained.specs.WordKinds.{expected}
use Rattle.rh_explained.specs.declared.block_use.BlockUse.{BlockUse}
use Rattle.rh_explained.specs.declared.block_use.BlockUse.TheVariants.{Sends, Receives, Buffers}
use Rattle.rh_explained.specs.declared.command_kind.CommandKind.{CommandKind}
use Rattle.rh_explained.specs.declared.facts.Facts.{Facts}
use Rattle.rh_explained.specs.declared.oddity.Oddity.{Oddity}
use Rattle.rh_explained.specs.declared.oddity.Oddity.TheVariants.{Return, Tab, Foreign}
use Rattle.rh_explained.specs.declared.word_kind.WordKind.{WordKind}

-- ---- what is odd about a bad line

-- whether a byte is one that no word may have
abbrev pub is_foreign : ℕ → Bool
is_foreign b = nat_lt b space || nat_lt 126 b

-- the first byte that no word may have
abbrev pub foreign_byte : Option ℕ → Option Oddity
foreign_byte None = None
foreign_byte (Some b) = Some (if b == 9 then Tab else Foreign b)

-- a carriage return at the end, or else the first byte that no word may have
abbrev pub oddity : List ℕ → Option Oddity
oddity line =
    if slice_index line (length line - 1) == 13 then Some Return else foreign_byte (find is_foreign line)

-- ---- bad lines

-- the kind of command that a line names
abbrev pub kind_in : List ℕ → Option CommandKind
kind_in line = kind_named (nth_word (words_of line) 1) (nth_word (words_of line) 2)

-- a line's word n between quotes, with its number
abbrev pub word_says : List ℕ → ℕ → List ℕ
word_says line n =
    codes ", word " ++ (decimal n ++ (codes " \"" ++ (shown_front MOST_OF_WORD (nth_word (words_of line) n) ++ codes "\"")))

-- what is expected where a word isn't of its form
abbrev pub word_expected : Option WordKind → List ℕ
word_expected None = []
word_expected (Some kind) = codes ": " ++ expected kind

-- what is expected of word n of a command of that kind
abbrev pub expected_at : Option CommandKind → ℕ → List ℕ
expected_at None n = []
expected_at (Some kind) n = word_expected (kind_at kind n)

-- the forms of a kind
abbrev pub forms_expected : Option CommandKind → List ℕ
forms_expected None = []
forms_expected (Some kind) = codes ": expected " ++ forms kind

-- what is wrong with a line of bytes that words may have
abbrev pub fault_says : List ℕ → LineFault → List ℕ
fault_says line TooLong = codes ": more than 1024 bytes"
fault_says line Unended = codes ": cut, as the script ends without a line feed"
fault_says line Unknown = word_says line 1 ++ codes ": no command has this name"
fault_says line Count = forms_expected (kind_in line)
fault_says line (Word n) = word_says line n ++ expected_at (kind_in line) n

-- what helps then
abbrev pub fault_help : LineFault → List ℕ
fault_help TooLong = codes "  several lines may write what one may not: put NAME A OFF HEX\n"
fault_help Unended = codes "  end the last line with a line feed\n"
fault_help Unknown = []
fault_help Count = []
fault_help (Word n) = []

-- which byte no word may have
abbrev pub foreign_says : ℕ → List ℕ
foreign_says b = codes ": the byte " ++ (address b ++ codes "; words have characters from ! to ~ alone")

-- what is odd about a line, and what helps then
abbrev pub odd_says : Oddity → List ℕ
odd_says Return = codes ": a carriage return at its end; end lines with a line feed alone"
odd_says Tab = codes ": a tab; part words by spaces"
odd_says (Foreign b) = foreign_says b

-- whether a fault is of a line's end, and not of its words
abbrev pub is_of_end : LineFault → Bool
is_of_end TooLong = true
is_of_end Unended = true
is_of_end fault = false

-- what is odd about a line, where its words are at fault
abbrev pub oddity_at : List ℕ → LineFault → Option Oddity
oddity_at line fault = if is_of_end fault then None else oddity line

-- a line with its number, below it its text, and below that what helps
abbrev pub explained : ℕ → List ℕ → List ℕ → List ℕ → List ℕ
explained n says line help =
    codes "line " ++ (decimal n ++ (says ++ (codes "\n  " ++ (shown_front MOST_OF_LINE line ++ (codes "\n" ++ help)))))

-- what is wrong with a bad line: what is odd about it, or else its fault
abbrev pub bad_line_as : Option Oddity → ℕ → List ℕ → LineFault → List ℕ
bad_line_as None n line fault = explained n (fault_says line fault) line (fault_help fault)
bad_line_as (Some odd) n line fault = explained n (odd_says odd) line []

abbrev pub bad_line : ℕ → List ℕ → LineFault → List ℕ
bad_line n line fault = bad_line_as (oddity_at line fault) n line fault

-- ---- refused commands

-- words behind a colon, where there are some
abbrev pub detail_name : Option (List ℕ) → List ℕ
detail_name None = []
detail_name (Some name) = codes ": " ++ name

abbrev pub detail_number : Option ℕ → List ℕ
detail_number None = []
detail_number (Some n) = codes ": " ++ decimal n

abbrev pub detail_address : Option ℕ → List ℕ
detail_address None = []
detail_address (Some place) = codes ": " ++ address place

abbrev pub detail_size : Option ℕ → List ℕ
detail_size None = []
detail_size (Some n) = codes ": its size is " ++ decimal n

-- what a refusal is about, by the command and what the desk has of it
abbrev pub detail : Facts → Command → Refusal → List ℕ
detail facts c NameInUse = detail_name (name_in c)
detail facts c NoName = detail_name (name_in c)
detail facts c NoFile = detail_name (loaded_file c)
detail facts c NoBlock = detail_number (anchor_in c)
detail facts c AnchorInUse = detail_number (anchor_in c)
detail facts c NotABlock = detail_address (address_in c)
detail facts c NotYours = detail_address (address_in c)
detail facts c BadRange = detail_size facts.size
detail facts c NoTask = detail_name (recipient_in c)
detail facts c NoRoom = detail_number (Some facts.free)
detail facts c NoArea = detail_number (area_in c)
detail facts c refusal = []

-- the id of a transfer that uses a block, and how it does
abbrev pub user_id : BlockUse → ℕ
user_id (Sends id) = id
user_id (Receives id) = id
user_id (Buffers id) = id

abbrev pub user_does : BlockUse → List ℕ
user_does (Sends id) = codes " sends it"
user_does (Receives id) = codes " receives into it"
user_does (Buffers id) = codes " has it as its buffer"

abbrev pub use_says : BlockUse → List ℕ
use_says used = codes "transfer " ++ (decimal (user_id used) ++ user_does used)

-- what is busy: the block, or else all transfers that may go out
abbrev pub busy_says : Option BlockUse → List ℕ
busy_says None = codes "eight transfers that go out are open"
busy_says (Some used) = why Busy ++ (codes ": " ++ use_says used)

-- whether a refusal says that something is busy
abbrev pub is_busy : Refusal → Bool
is_busy Busy = true
is_busy refusal = false

-- why a command of a kind was refused. Busy is about the scrap file where tasks with code of their own give the command,
-- and else about what the desk has of the command
abbrev pub reason : CommandKind → Facts → Command → Refusal → List ℕ
reason kind facts c refusal =
    if is_busy refusal && not (is_of_programs kind) then busy_says facts.used
    else why_for kind refusal ++ detail facts c refusal

-- the explanation of a refused command
abbrev pub refusal_explained : Facts → ℕ → List ℕ → Command → Refusal → List ℕ
refusal_explained facts n line c refusal =
    explained n (codes ": " ++ reason (kind_of c) facts c refusal) line (kind_help (kind_of c) refusal)

-- what is said of a command by its reply, on the desk behind it, which a refusal leaves as it was
abbrev pub said_of : Desk → ℕ → List ℕ → Command → Reply → List ℕ
said_of d n line c (Refused refusal) = refusal_explained (facts_on d c) n line c refusal
said_of d n line c reply = []

-- ---- scripts

-- what is said of a line by what it means
abbrev pub said_of_meaning : Desk → ℕ → List ℕ → Meaning (Option Command) → List ℕ
said_of_meaning d n line (Ok None) = []
said_of_meaning d n line (Ok (Some c)) = said_of (step d c).0 n line c (step d c).1
said_of_meaning d n line (Err fault) = bad_line n line fault
