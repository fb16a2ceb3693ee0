-- Why a word or a file can't be used: the line below the one that names it.
use Rattle.std.specs.Prelude.{ℕ, ◌==◌, ◌<◌, not, if◌then◌else◌, List, codes, length, Option, IfSome, ⊤}
use Rattle.std.specs.List.{position_or_len}
use Rattle.std.specs.declared.io.ErrorKind.{ErrorKind}
use Rattle.std.specs.declared.io.ErrorKind.TheVariants as kind
use Rattle.rh_defs.specs.Forms.{is_name}
use Rattle.rh_defs.specs.declared.sizes.TheConstants.{LONGEST_FILE}
use Rattle.rh_desk.specs.FileWords.{word_name, word_path}
use Rattle.rh_desk.specs.declared.reasons.FileLoss.{FileLoss}
use Rattle.rh_desk.specs.declared.reasons.FileLoss.TheVariants.{Missing, Folder, Denied, TooLong, Unreadable}
use Rattle.rh_desk.specs.declared.reasons.WordFault.{WordFault}
use Rattle.rh_desk.specs.declared.reasons.WordFault.TheVariants.{NoPair, NoName, NoPath, GivenTwice}

-- what is wrong with a bad word: no `=`, no name before it, no path behind it, and else that its name was given before
abbrev pub word_fault : List ℕ → WordFault
word_fault word =
    if position_or_len (λ b. b == 61) word == length word then NoPair
    else if not (is_name (word_name word)) then NoName
    else if length (word_path word) == 0 then NoPath
    else GivenTwice

abbrev pub word_fault_text : WordFault → List ℕ
word_fault_text NoPair = codes "  no = stands in it: one script is run, and files are given as NAME=PATH\n"
word_fault_text NoName = codes "  a name has 1 to 12 letters and digits, a letter first\n"
word_fault_text NoPath = codes "  no path stands behind the =\n"
word_fault_text GivenTwice = codes "  its name is given twice\n"

-- why a file can't be had, by the kind of the system's error
abbrev pub loss_of : ErrorKind → FileLoss
loss_of kind.NotFound = Missing
loss_of kind.NotADirectory = Missing
loss_of kind.IsADirectory = Folder
loss_of kind.PermissionDenied = Denied
loss_of k = Unreadable

-- a file may be told as too long where some file has more bytes than it may, and for another reason at all times
abbrev pub MayBeLost : {F : Type 0} → (F → Option (List ℕ)) → FileLoss → Type 0
MayBeLost {F} remaining TooLong = (file : F) × IfSome (remaining file) (λ had. LONGEST_FILE < length had)
MayBeLost remaining loss = ⊤

abbrev pub loss_text : FileLoss → List ℕ
loss_text Missing = codes "  no such file\n"
loss_text Folder = codes "  a folder\n"
loss_text Denied = codes "  not allowed to be read\n"
loss_text TooLong = codes "  more than 1048576 bytes\n"
loss_text Unreadable = codes "  can't be read\n"
