-- What the program has read, written and told when it did what its words ask for.
use Rattle.std.specs.Prelude.{◌≡◌, ◌≢◌, ◌⊎◌, ◌≤◌, ℕ, Bool, List, [], map, codes, length, true, false, All, Option, None, Some, IfSome, if◌then◌else◌}
use Rattle.std.specs.Str.{bytes_eq}
use Rattle.clap.specs.Words.{HasKind, fault_of, kind_of, subcommand_of}
use Rattle.clap.specs.declared.error.Error.{Error}
use Rattle.clap.specs.declared.error.kind.ErrorKind.{ErrorKind}
use Rattle.clap.specs.declared.error.kind.ErrorKind.TheVariants as kind
use Rattle.rh_defs.specs.Desk.{Desk}
use Rattle.rh_pictures.specs.Mapped.{Mapped, MappedSoFar, MappedUntil}
use Rattle.rh_figure.specs.Map.{place}
use Rattle.rh_pictures.specs.Painted.{Painted, PaintedSoFar, PaintedUntil}
use Rattle.rh_pictures.specs.declared.sheet.form.SheetForm.{SheetForm}
use Rattle.rh_defs.specs.Files.{FileList}
use Rattle.rh_defs.specs.Runs.{start}
use Rattle.rh_defs.specs.declared.sizes.TheConstants.{LONGEST_FILE, MOST_READS}
use Rattle.rh_lines.specs.Flow.{Input, Output, Takes, Breaks}
use Rattle.rh_run.specs.Checked.{image_line, image_status}
use Rattle.rh_explained.specs.Explained.{Explained, ExplainedSoFar, ExplainedUntil}
use Rattle.rh_explained.specs.Help.{command_help}
use Rattle.rh_explained.specs.declared.command_kind.CommandKind.{CommandKind}
use Rattle.rh_run.specs.CheckedSlot.{slot_image_line, slot_image_status}
use Rattle.rh_session.specs.Outcome.{Answered, Finished, BrokeOff}
use Rattle.rh_session.specs.declared.status.RunFault.{RunFault}
use Rattle.rh_session.specs.declared.status.RunFault.TheVariants.{NoMemory, ReadFailed, WriteFailed, TooLong}
use Rattle.rh_session.specs.declared.status.Status.{Status}
use Rattle.rh_session.specs.declared.status.Status.TheVariants as status
use Rattle.rh_desk.specs.Asked.{kind_asked, meant_words}
use Rattle.rh_desk.specs.CommandLine.{program_words}
use Rattle.rh_desk.specs.FileWords.{AreGood, word_name}
use Rattle.rh_desk.specs.Inputs.{IsAllOf, TellsLostInput}
use Rattle.rh_desk.specs.Requests.{AsksFor, AsksNothing}
use Rattle.rh_desk.specs.SheetNames.{last_part}
use Rattle.rh_desk.specs.Telling.{Tells, TellsBadWord, TellsFolder, TellsLoss, TellsLostFile, TellsMistake, run_fault_text}
use Rattle.rh_desk.specs.declared.program_end.ProgramEnd.{ProgramEnd}
use Rattle.rh_desk.specs.declared.program_end.ProgramEnd.TheVariants.{Clean, BadLines, WrongWords, Fault}
use Rattle.rh_desk.specs.declared.request.ImageKind.{ImageKind}
use Rattle.rh_desk.specs.declared.request.ImageKind.TheVariants.{Heap, Slot}
use Rattle.rh_desk.specs.declared.request.Request.{Request}
use Rattle.rh_desk.specs.declared.request.Request.TheVariants.{Check, Run}
use Rattle.rh_desk.specs.declared.request.Shown.{Shown}
use Rattle.rh_desk.specs.declared.request.Shown.TheVariants.{Replies, Explanations, Map, Sheet}

-- the input, the output and the errors before and after: what is read, written and told
pub record Streams : Type 0 where
  pub before : Input
  pub after : Input
  pub old : Output
  pub new : Output
  pub errors_old : Output
  pub errors_new : Output

abbrev pub streams : Input → Input → Output → Output → Output → Output → Streams
streams before after old new errors_old errors_new =
    record { before = before; after = after; old = old; new = new; errors_old = errors_old; errors_new = errors_new }

-- nothing was read of the input, or written
abbrev pub Untouched : Streams → Type 0
Untouched s = (s.after ≡ s.before) × (s.new ≡ s.old)

-- the bytes are all that some file had, where those are known, and no more than a file may have
abbrev pub IsWhole : {F : Type 0} → (F → Option (List ℕ)) → List ℕ → Type 0
IsWhole {F} remaining bytes = (length bytes ≤ LONGEST_FILE) × ((file : F) × IfSome (remaining file) (λ had. bytes ≡ had))

-- what was read and written where a fault stopped a run
abbrev pub Stopped : Desk → Streams → RunFault → Type 0
Stopped d s NoMemory = Untouched s
Stopped d s ReadFailed = (s.after.failed ≡ true) × Answered d s.before s.after s.old s.new
Stopped d s TooLong =
    (s.after.reads ≡ MOST_READS) × (s.after.failed ≡ s.before.failed) × Answered d s.before s.after s.old s.new
Stopped d s WriteFailed = BrokeOff d s.before s.old s.new

-- how a run over a desk ends: all read and written and nothing told, or stopped by the fault that is told
abbrev pub RunOver : Desk → Streams → ProgramEnd → Type 0
RunOver d s Clean = Finished d s.before s.after s.old s.new status.Clean × (s.errors_new ≡ s.errors_old)
RunOver d s BadLines = Finished d s.before s.after s.old s.new status.BadLines × (s.errors_new ≡ s.errors_old)
RunOver d s WrongWords = ⊥
RunOver d s Fault = (fault : RunFault) × Stopped d s fault × Tells s.errors_old s.errors_new (run_fault_text fault)

-- what was read and written where a fault stopped a map, of which marked steps alone may be shown
abbrev pub MapStopped : Bool → Desk → Streams → RunFault → Type 0
MapStopped marked d s NoMemory = Untouched s
MapStopped marked d s ReadFailed =
    (s.after.failed ≡ true) × MappedSoFar marked (place d 0 false) s.before s.after s.old s.new
MapStopped marked d s TooLong =
    (s.after.reads ≡ MOST_READS) × (s.after.failed ≡ s.before.failed)
    × MappedSoFar marked (place d 0 false) s.before s.after s.old s.new
MapStopped marked d s WriteFailed = MappedUntil marked (place d 0 false) s.before s.after s.old s.new

-- how a map of a script over a desk ends, as a run does
abbrev pub MapOver : Bool → Desk → Streams → ProgramEnd → Type 0
MapOver marked d s Clean =
    Mapped marked (place d 0 false) s.before s.after s.old s.new status.Clean × (s.errors_new ≡ s.errors_old)
MapOver marked d s BadLines =
    Mapped marked (place d 0 false) s.before s.after s.old s.new status.BadLines × (s.errors_new ≡ s.errors_old)
MapOver marked d s WrongWords = ⊥
MapOver marked d s Fault = (fault : RunFault) × MapStopped marked d s fault × Tells s.errors_old s.errors_new (run_fault_text fault)

-- what was read and written where a fault stopped a sheet with a name, in a form
abbrev pub SheetStopped : SheetForm → List ℕ → Desk → Streams → RunFault → Type 0
SheetStopped form name d s NoMemory = Untouched s
SheetStopped form name d s ReadFailed =
    (s.after.failed ≡ true) × PaintedSoFar form name d s.before s.after s.old s.new
SheetStopped form name d s TooLong =
    (s.after.reads ≡ MOST_READS) × (s.after.failed ≡ s.before.failed)
    × PaintedSoFar form name d s.before s.after s.old s.new
SheetStopped form name d s WriteFailed = PaintedUntil form name d s.before s.after s.old s.new

-- how a sheet of a script over a desk ends, as a run does
abbrev pub SheetOver : SheetForm → List ℕ → Desk → Streams → ProgramEnd → Type 0
SheetOver form name d s Clean =
    Painted form name d s.before s.after s.old s.new status.Clean × (s.errors_new ≡ s.errors_old)
SheetOver form name d s BadLines =
    Painted form name d s.before s.after s.old s.new status.BadLines × (s.errors_new ≡ s.errors_old)
SheetOver form name d s WrongWords = ⊥
SheetOver form name d s Fault =
    (fault : RunFault) × SheetStopped form name d s fault × Tells s.errors_old s.errors_new (run_fault_text fault)

-- what was read and written where a fault stopped explanations
abbrev pub ExplainStopped : Desk → Streams → RunFault → Type 0
ExplainStopped d s NoMemory = Untouched s
ExplainStopped d s ReadFailed = (s.after.failed ≡ true) × ExplainedSoFar d s.before s.after s.old s.new
ExplainStopped d s TooLong =
    (s.after.reads ≡ MOST_READS) × (s.after.failed ≡ s.before.failed) × ExplainedSoFar d s.before s.after s.old s.new
ExplainStopped d s WriteFailed = ExplainedUntil d s.before s.old s.new

-- how the explanations of a script over a desk end, as a run does
abbrev pub ExplainOver : Desk → Streams → ProgramEnd → Type 0
ExplainOver d s Clean = Explained d s.before s.after s.old s.new status.Clean × (s.errors_new ≡ s.errors_old)
ExplainOver d s BadLines = Explained d s.before s.after s.old s.new status.BadLines × (s.errors_new ≡ s.errors_old)
ExplainOver d s WrongWords = ⊥
ExplainOver d s Fault = (fault : RunFault) × ExplainStopped d s fault × Tells s.errors_old s.errors_new (run_fault_text fault)

-- the name that a sheet has: the last part of its script's path, and words for the input
abbrev pub sheet_name : List ℕ → List ℕ
sheet_name script = if bytes_eq script (codes "-") then codes "standard input" else last_part script

-- how replies, a map or a sheet of a script over a desk end
abbrev pub ShownOver : Shown → List ℕ → Desk → Streams → ProgramEnd → Type 0
ShownOver Replies script d s ending = RunOver d s ending
ShownOver Explanations script d s ending = ExplainOver d s ending
ShownOver (Map marked) script d s ending = MapOver marked d s ending
ShownOver (Sheet form) script d s ending = SheetOver form (sheet_name script) d s ending

-- the streams, where some file of which nothing was read stands in the input's place
abbrev pub instead : Option (List ℕ) → Input → Streams → Streams
instead left rest s = record s { before = record { left = left; failed = false; reads = 0 }; after = rest }

-- how the script of a file ends: its run, where the input stays, with a line more where a folder can't be read; or the
-- lost file, or want of memory, is told
abbrev pub FileOver : {F : Type 0} → (F → Option (List ℕ)) → Shown → Desk → List ℕ → Streams → ProgramEnd → Type 0
FileOver {F} remaining shown d path s ending =
    ((s.after ≡ s.before) × ((file : F) × (rest : Input) × (errors : Output)
    × ShownOver shown path d (record (instead (remaining file) rest s) { errors_new = errors }) ending
    × TellsFolder errors s.errors_new ending))
    ⊎ (Untouched s × (ending ≡ Fault)
    × (TellsLoss remaining s.errors_old s.errors_new path ⊎ Tells s.errors_old s.errors_new (run_fault_text NoMemory)))

-- how a script over good words and their files ends: `-` is the input, and all else a file's path
pub record ScriptOver {F : Type 0} (remaining : F → Option (List ℕ)) (shown : Shown) (pages : ℕ) (script : List ℕ) (words : List (List ℕ)) (s : Streams) (ending : ProgramEnd) : Type 0 where
  pub files : FileList
  pub good : AreGood words
  pub named : map (λ file. file.0) files ≡ map word_name words
  pub whole : All (λ file. IsWhole remaining file.1) files
  pub from_input : script ≡ codes "-" → ShownOver shown script (start pages files) s ending
  pub from_file : script ≢ codes "-" → FileOver remaining shown (start pages files) script s ending

-- how `run`, `explain`, `map` and `draw` end: with their script, or before, where the first bad word is told, or want of
-- memory, or of good words a lost file
abbrev pub RunEnds : {F : Type 0} → (F → Option (List ℕ)) → Shown → ℕ → List ℕ → List (List ℕ) → Streams → ProgramEnd → Type 0
RunEnds remaining shown pages script words s ending =
    ScriptOver remaining shown pages script words s ending
    ⊎ (Untouched s
    × (TellsBadWord s.errors_old s.errors_new words ending ⊎ (AreGood words × TellsLostFile remaining s.errors_old s.errors_new words ending)))

-- the line of some bytes, taken for a heap or for a slot
abbrev pub line_as : ImageKind → List ℕ → List ℕ
line_as Heap bytes = image_line bytes
line_as Slot bytes = slot_image_line bytes

-- the status, clean exactly where they are one
abbrev pub status_as : ImageKind → List ℕ → Status
status_as Heap bytes = image_status bytes
status_as Slot bytes = slot_image_status bytes

-- how a check of some bytes ends: their line is written, and the status is theirs
abbrev pub CheckOver : ImageKind → List ℕ → Streams → ProgramEnd → Type 0
CheckOver k bytes s Clean =
    (status_as k bytes ≡ status.Clean) × Takes s.old s.new (line_as k bytes) × (s.errors_new ≡ s.errors_old)
CheckOver k bytes s BadLines =
    (status_as k bytes ≡ status.BadLines) × Takes s.old s.new (line_as k bytes) × (s.errors_new ≡ s.errors_old)
CheckOver k bytes s WrongWords = ⊥
CheckOver k bytes s Fault =
    Breaks s.old s.new (line_as k bytes) × Tells s.errors_old s.errors_new (run_fault_text WriteFailed)

-- how `check` ends: with the line of all bytes of a file, or nothing is written and the lost file, or want of memory, told
abbrev pub CheckEnds : {F : Type 0} → (F → Option (List ℕ)) → ImageKind → List ℕ → Streams → ProgramEnd → Type 0
CheckEnds remaining k path s ending =
    ((bytes : List ℕ) × IsWhole remaining bytes × CheckOver k bytes s ending)
    ⊎ ((s.new ≡ s.old) × (ending ≡ Fault)
    × (TellsLoss remaining s.errors_old s.errors_new path ⊎ Tells s.errors_old s.errors_new (run_fault_text NoMemory)))

-- how `check -` ends: with the line of all bytes of the input, or nothing is written and the lost input told
abbrev pub InputCheckEnds : ImageKind → Streams → ProgramEnd → Type 0
InputCheckEnds k s ending =
    ((bytes : List ℕ) × IsAllOf s.before s.after bytes × CheckOver k bytes s ending)
    ⊎ ((s.new ≡ s.old) × (ending ≡ Fault) × TellsLostInput s.before s.after s.errors_old s.errors_new)

-- how what is asked for ends
abbrev pub RequestEnds : {F : Type 0} → (F → Option (List ℕ)) → Request → Streams → ProgramEnd → Type 0
RequestEnds remaining (Run request) s ending =
    RunEnds remaining request.shown request.pages request.script.now (map (λ word. word.now) request.files.now) s ending
RequestEnds remaining (Check k file) s ending =
    (file.now ≡ codes "-" → InputCheckEnds k s ending)
    × (file.now ≢ codes "-" → (s.after ≡ s.before) × CheckEnds remaining k file.now s ending)

-- how an error of some kind in the words ends, by a text that `clap` has for it: as help or the version it is written, and
-- all else is told as a mistake, with what helps
abbrev pub ErrorEnds : ErrorKind → List (List ℕ) → Streams → ProgramEnd → Type 0
ErrorEnds k words s Clean =
    ((k ≡ kind.DisplayHelp) ⊎ (k ≡ kind.DisplayVersion)) × ((text : List ℕ) × Takes s.old s.new text) × (s.errors_new ≡ s.errors_old)
ErrorEnds k words s BadLines = ⊥
ErrorEnds k words s WrongWords =
    (k ≢ kind.DisplayHelp) × (k ≢ kind.DisplayVersion) × (k ≢ kind.OutOfMemory) × (s.new ≡ s.old)
    × TellsMistake k words s.errors_old s.errors_new
ErrorEnds k words s Fault =
    (Tells s.errors_old s.errors_new (run_fault_text NoMemory) × (s.new ≡ s.old))
    ⊎ (Tells s.errors_old s.errors_new (run_fault_text WriteFailed) × ((text : List ℕ) × Breaks s.old s.new text)
    × ((k ≡ kind.DisplayHelp) ⊎ (k ≡ kind.DisplayVersion)))

-- how words end: as what they ask for where `clap` finds no fault in them, or as an error of a kind that it has for
-- them; or it finds no fault, and yet they ask for nothing, and nothing is done
abbrev pub WordsEnd : {F : Type 0} → (F → Option (List ℕ)) → List (List ℕ) → Streams → ProgramEnd → Type 0
WordsEnd remaining words s ending =
    ((fault_of program_words words ≡ [])
    × ((request : Request) × AsksFor (subcommand_of program_words words) request × RequestEnds remaining request s ending))
    ⊎ ((s.after ≡ s.before) × ((error : Error) × HasKind (fault_of program_words words) error × ErrorEnds (kind_of error) words s ending))
    ⊎ ((fault_of program_words words ≡ []) × AsksNothing (subcommand_of program_words words)
    × (ending ≡ WrongWords) × Untouched s × (s.errors_new ≡ s.errors_old))

-- how the help of a command of a script ends: it is written, or the writer failed
abbrev pub HelpEnds : CommandKind → Streams → ProgramEnd → Type 0
HelpEnds k s Clean = Takes s.old s.new (command_help k) × (s.errors_new ≡ s.errors_old)
HelpEnds k s BadLines = ⊥
HelpEnds k s WrongWords = ⊥
HelpEnds k s Fault = Breaks s.old s.new (command_help k) × Tells s.errors_old s.errors_new (run_fault_text WriteFailed)

-- how any words end: with the help of a command of a script, where that is asked for, or as the words that are meant
abbrev pub AnyWordsEnd : {F : Type 0} → (F → Option (List ℕ)) → List (List ℕ) → Streams → ProgramEnd → Type 0
AnyWordsEnd remaining words s ending =
    ((k : CommandKind) × (kind_asked words ≡ Some k) × (s.after ≡ s.before) × HelpEnds k s ending)
    ⊎ ((kind_asked words ≡ None) × WordsEnd remaining (meant_words words) s ending)
