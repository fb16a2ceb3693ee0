-- What the program tells of faults.
use Rattle.std.specs.Prelude.{◌≡◌, ◌⊎◌, ℕ, ◌==◌, false, if◌then◌else◌, List, ◌++◌, length, codes, Contains, Option}
use Rattle.clap.specs.declared.error.kind.ErrorKind.{ErrorKind}
use Rattle.rh_defs.specs.Line.{nth_word}
use Rattle.rh_explained.specs.ShownBytes.{shown}
use Rattle.rh_lines.specs.Flow.{Output, Takes}
use Rattle.rh_session.specs.declared.status.RunFault.{RunFault}
use Rattle.rh_session.specs.declared.status.RunFault.TheVariants.{NoMemory, ReadFailed, WriteFailed, TooLong}
use Rattle.rh_desk.specs.FileWords.{IsFirstBad, word_path}
use Rattle.rh_desk.specs.Hints.{hint_of, mistake_text}
use Rattle.rh_desk.specs.Reasons.{MayBeLost, loss_text, word_fault, word_fault_text}
use Rattle.rh_desk.specs.declared.program_end.ProgramEnd.{ProgramEnd}
use Rattle.rh_desk.specs.declared.program_end.ProgramEnd.TheVariants.{WrongWords, Fault}
use Rattle.rh_desk.specs.declared.reasons.FileLoss.{FileLoss}
use Rattle.rh_desk.specs.declared.reasons.FileLoss.TheVariants.{Folder}

-- just these bytes were taken, unless a write failed
abbrev pub Tells : Output → Output → List ℕ → Type 0
Tells old new bytes = new.failed ≡ false → Takes old new bytes

-- what is told of the fault that stopped a run
abbrev pub run_fault_text : RunFault → List ℕ
run_fault_text NoMemory = codes "rh_desk: no memory\n"
run_fault_text ReadFailed = codes "rh_desk: read failed\n"
run_fault_text WriteFailed = codes "rh_desk: write failed\n"
run_fault_text TooLong = codes "rh_desk: script too long\n"

-- what is told of a word that is no NAME=PATH, and below it why
abbrev pub bad_word_text : List ℕ → List ℕ
bad_word_text word =
    codes "rh_desk: bad file word " ++ (shown word ++ (codes "\n" ++ word_fault_text (word_fault word)))

-- how a path is shown: the empty one in words
abbrev pub shown_path : List ℕ → List ℕ
shown_path path = if length path == 0 then codes "'' (an empty path)" else shown path

-- what is told of a file that can't be had, and below it why
abbrev pub lost_file_text : List ℕ → FileLoss → List ℕ
lost_file_text path loss = codes "rh_desk: file " ++ (shown_path path ++ (codes "\n" ++ loss_text loss))

-- a file that can't be had was told, with a reason for which it may be lost
abbrev pub TellsLoss : {F : Type 0} → (F → Option (List ℕ)) → Output → Output → List ℕ → Type 0
TellsLoss remaining old new path = (loss : FileLoss) × MayBeLost remaining loss × Tells old new (lost_file_text path loss)

-- the first bad word was told, or that memory was refused
abbrev pub TellsBadWord : Output → Output → List (List ℕ) → ProgramEnd → Type 0
TellsBadWord old new words ending =
    ((ending ≡ Fault) × Tells old new (run_fault_text NoMemory))
    ⊎ ((word : List ℕ) × (ending ≡ WrongWords) × IsFirstBad words word × Tells old new (bad_word_text word))

-- the path of one of the words was told, since its file can't be had
abbrev pub TellsLostFile : {F : Type 0} → (F → Option (List ℕ)) → Output → Output → List (List ℕ) → ProgramEnd → Type 0
TellsLostFile remaining old new words ending =
    (word : List ℕ) × (ending ≡ Fault) × Contains words word × TellsLoss remaining old new (word_path word)

-- the first bad word was told, or a lost file
abbrev pub TellsBadFile : {F : Type 0} → (F → Option (List ℕ)) → Output → Output → List (List ℕ) → ProgramEnd → Type 0
TellsBadFile remaining old new words ending = TellsBadWord old new words ending ⊎ TellsLostFile remaining old new words ending

-- of a mistake of some kind in the words some text was told, each line of it shown, and below the first line what helps
abbrev pub TellsMistake : ErrorKind → List (List ℕ) → Output → Output → Type 0
TellsMistake k words old new =
    (text : List ℕ) × Tells old new (mistake_text (hint_of k words) (nth_word words 2) text)

-- nothing more was told, or that a script which can't be read is a folder
abbrev pub TellsFolder : Output → Output → ProgramEnd → Type 0
TellsFolder old new ending = (new ≡ old) ⊎ ((ending ≡ Fault) × Tells old new (loss_text Folder))
