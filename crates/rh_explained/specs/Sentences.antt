-- Sentences: what each command does, why a command is refused and what helps, and what no bad line needs a desk for.
use Rattle.std.specs.Prelude.{ℕ, if◌then◌else◌, List, [], ◌∷◌, codes}
use Rattle.rh_defs.specs.declared.refusal.Refusal.{Refusal}
use Rattle.rh_defs.specs.declared.refusal.Refusal.TheVariants.{NameInUse, NoName, TooManyTasks, NoHandles, NoFile, NoBlock, AnchorInUse, NotABlock, NotYours, Busy, NotOpen, NothingSent, BadRange, BadSize, ExcessiveShrink, NoTask, NoRefs, QueueFull, NoBudge, NoRoom, NoArea, TooManyAreas, NoNumbers, TooBig, WrongManner, BadRef}
use Rattle.rh_explained.specs.CommandKinds.{is_of_bytes, is_of_programs}
use Rattle.rh_explained.specs.declared.command_kind.CommandKind.{CommandKind}
use Rattle.rh_explained.specs.declared.command_kind.CommandKind.TheVariants as kind

-- what a command of the kind does, in lines for a terminal
abbrev pub deed : CommandKind → List ℕ
deed kind.Task = codes "Starts a task. Its slot has one page. With deaf it ignores each file that it is\noffered; with file it answers no RAMFetch, and its files go by way of the scrap\nfile; with raw it has code of its own, which takes and sends its messages."
deed kind.Kill = codes "Ends a task. Its pages are free again."
deed kind.Save = codes "Offers the bytes of a flex block to a task as a file."
deed kind.Poll = codes "Lets a task take the next message that waits for it, and do what that asks for."
deed kind.Cancel = codes "Gives up a transfer that comes in or goes out: that of the ID, or the first."
deed kind.Repeat = codes "Sends the last message of a task once more."
deed kind.Status = codes "Asks how far each transfer of a task is."
deed kind.Alloc = codes "Puts a new flex block of N zero bytes above the others."
deed kind.Load = codes "Puts the bytes of a file into a new flex block."
deed kind.Put = codes "Writes bytes into a flex block."
deed kind.Free = codes "Takes a flex block away. The blocks above it slide down."
deed kind.Extend = codes "Makes a flex block N bytes long. The blocks above it slide."
deed kind.Mid = codes "Puts bytes into a flex block at an offset, or takes bytes out before it."
deed kind.Show = codes "Asks for the bytes of a flex block."
deed kind.Blocks = codes "Asks for the flex blocks from below: the anchor, address and size of each."
deed kind.Claim = codes "Claims a block of N bytes: in the first hole that is large enough, or on top."
deed kind.Release = codes "Releases a block. What it leaves is free, and joins what is free beside it."
deed kind.Resize = codes "Makes a block of the C heap longer or shorter."
deed kind.Budge = codes "Lets the C heap grow, where the flex blocks budge, or forbids that."
deed kind.Heap = codes "Asks for the length of the heap, the largest block that fits, the free bytes,\nand each segment."
deed kind.Area = codes "Makes an area longer or shorter, by whole pages."
deed kind.Make = codes "Makes a new area that has no page yet."
deed kind.Remove = codes "Takes an area away that was made."
deed kind.Areas = codes "Asks for the free pages, and for those of each area and each slot."
deed kind.Rma = codes "Claims, releases or resizes a block of the module area."
deed kind.RmaClaim = codes "Claims a block of N bytes in the module area."
deed kind.RmaFree = codes "Releases a block of the module area."
deed kind.RmaResize = codes "Makes a block of the module area longer or shorter."
deed kind.Send = codes "Sends a message of any action, from a task with code of its own."
deed kind.Read = codes "Asks for N bytes at an address of a task's slot, inside one live block."
deed kind.Write = codes "Writes bytes at an address of a task with code of its own."
deed kind.Transfer = codes "Moves N bytes to a place that another task opened, from one with its own code."
deed kind.Ack = codes "Says that the message which a task holds is answered, and sends nothing."
deed kind.Spool = codes "Makes a flex block the scrap file, and sends the message that tells of it."
deed kind.Scrap = codes "Puts the bytes of the scrap file into a new flex block. The file stays."

-- why a command is refused
abbrev pub why : Refusal → List ℕ
why NameInUse = codes "a live task has this name already"
why NoName = codes "no live task has this name"
why TooManyTasks = codes "32 tasks are live, and there may be no more"
why NoHandles = codes "the last handle has been given"
why NoFile = codes "no file has this name"
why NoBlock = codes "this anchor has no block"
why AnchorInUse = codes "this anchor has a block already"
why NotABlock = codes "no used block begins at this address"
why NotYours = codes "a message lies in this block of the module area"
why Busy = codes "a transfer uses the block"
why NotOpen = codes "no such transfer can be given up"
why NothingSent = codes "the task has sent no message yet"
why BadRange = codes "offset or bytes lie outside the block"
why BadSize = codes "a block of a heap has at least 1 byte"
why ExcessiveShrink = codes "the area would lose more than it can"
why NoTask = codes "the task that this is for isn't live"
why NoRefs = codes "the last ref has been given"
why QueueFull = codes "256 messages are live, and there may be no more"
why NoBudge = codes "the C heap must grow for this, and budging is off"
why NoRoom = codes "the pool has too few free pages"
why NoArea = codes "no area has this number"
why TooManyAreas = codes "32 areas are made, and there may be no more"
why NoNumbers = codes "the last number of an area has been given"
why TooBig = codes "the area would have more pages than it may"
why WrongManner = codes "this isn't for tasks of its manner"
why BadRef = codes "no message has this ref yet"

-- why a command of a task with code of its own is refused
abbrev pub program_why : Refusal → List ℕ
program_why NoFile = codes "the task doesn't hold the message about a scrap file"
program_why Busy = codes "there is a scrap file already"
program_why BadRange = codes "no block has these bytes, or their place isn't open"
program_why refusal = why refusal

-- why a command on bytes at an address is refused
abbrev pub bytes_why : Refusal → List ℕ
bytes_why BadRange = codes "no live block has these bytes"
bytes_why refusal = why refusal

-- why a command of a kind is refused
abbrev pub why_for : CommandKind → Refusal → List ℕ
why_for kind refusal =
    if is_of_bytes kind then bytes_why refusal
    else if is_of_programs kind then program_why refusal
    else why refusal

-- what helps then, where that is clear and the same for all kinds of commands
abbrev pub help_for : Refusal → List ℕ
help_for NameInUse = codes "  take another name, or kill that task first\n"
help_for NoName = codes "  start it by task NAME BUF; upper and lower case differ\n"
help_for TooManyTasks = codes "  kill a task first\n"
help_for NoHandles = []
help_for NoFile = codes "  name it behind the script, as NAME=PATH\n"
help_for NoBlock = codes "  alloc or load puts a block there\n"
help_for AnchorInUse = codes "  take another anchor, or free that block first\n"
help_for NotABlock = codes "  claim answered the address, and heap lists those of the C heap\n"
help_for NotYours = codes "  a block of messages goes when they are taken\n"
help_for Busy = codes "  poll until the transfer has ended, or cancel it\n"
help_for NotOpen = codes "  status lists the transfers\n"
help_for NothingSent = []
help_for BadRange = codes "  blocks lists the sizes, and extend makes a block longer\n"
help_for BadSize = []
help_for ExcessiveShrink = codes "  areas lists the pages of each area\n"
help_for NoTask = codes "  start the recipient first\n"
help_for NoRefs = []
help_for QueueFull = codes "  let tasks poll\n"
help_for NoBudge = codes "  allow it by budge NAME on\n"
help_for NoRoom = codes "  areas lists the pages; free some, or begin with more by --pages\n"
help_for NoArea = codes "  areas lists the numbers, and make makes an area\n"
help_for TooManyAreas = codes "  remove an area first\n"
help_for NoNumbers = []
help_for TooBig = codes "  make an area that may have more by make MAX\n"
help_for WrongManner = []
help_for BadRef = codes "  0 answers nothing\n"

-- what helps with a command of a task with code of its own
abbrev pub program_help : Refusal → List ℕ
program_help NoFile = codes "  poll takes it, where one waits\n"
program_help Busy = codes "  it goes when its DataLoad is loaded or answered\n"
program_help BadRange = codes "  heap and blocks list blocks; RAMFetch opens a buffer to its recipient\n"
program_help refusal = help_for refusal

-- what helps with a command on bytes at an address
abbrev pub bytes_help : Refusal → List ℕ
bytes_help BadRange = codes "  heap and blocks list the task's blocks\n"
bytes_help refusal = help_for refusal

-- what helps where a command isn't for tasks of the manner
abbrev pub manner_help : CommandKind → List ℕ
manner_help kind.Save = codes "  save isn't for raw tasks; they send by send or spool\n"
manner_help kind.Send = codes "  send is for raw tasks; others offer files by save\n"
manner_help kind.Write = codes "  write is for raw tasks; others write by put\n"
manner_help kind.Transfer = codes "  transfer is for raw tasks; a poll moves the bytes of others\n"
manner_help kind.Ack = codes "  ack is for raw tasks; a poll answers for others\n"
manner_help kind.Spool = codes "  spool is for raw tasks; others offer files by save\n"
manner_help kind.Scrap = codes "  scrap is for raw tasks; a poll loads the scrap file for others\n"
manner_help kind = []

-- what helps with a command of a kind but where it isn't for tasks of the manner
abbrev pub other_help : CommandKind → Refusal → List ℕ
other_help kind refusal =
    if is_of_bytes kind then bytes_help refusal
    else if is_of_programs kind then program_help refusal
    else help_for refusal

-- what helps with a command of a kind
abbrev pub kind_help : CommandKind → Refusal → List ℕ
kind_help kind WrongManner = manner_help kind
kind_help kind refusal = other_help kind refusal

-- the refusals that commands of a kind can have
abbrev pub refusals : CommandKind → List Refusal
refusals kind.Task = NameInUse ∷ TooManyTasks ∷ NoHandles ∷ NoRoom ∷ []
refusals kind.Kill = NoName ∷ []
refusals kind.Save = NoName ∷ NoBlock ∷ Busy ∷ NoTask ∷ NoRefs ∷ QueueFull ∷ NoRoom ∷ WrongManner ∷ []
refusals kind.Poll = NoName ∷ []
refusals kind.Cancel = NoName ∷ NotOpen ∷ []
refusals kind.Repeat = NoName ∷ NothingSent ∷ NoTask ∷ NoRefs ∷ QueueFull ∷ NoRoom ∷ []
refusals kind.Status = NoName ∷ []
refusals kind.Alloc = NoName ∷ AnchorInUse ∷ NoRoom ∷ []
refusals kind.Load = NoName ∷ NoFile ∷ AnchorInUse ∷ NoRoom ∷ []
refusals kind.Put = NoName ∷ NoBlock ∷ Busy ∷ BadRange ∷ []
refusals kind.Free = NoName ∷ NoBlock ∷ Busy ∷ []
refusals kind.Extend = NoName ∷ NoBlock ∷ Busy ∷ NoRoom ∷ []
refusals kind.Mid = NoName ∷ NoBlock ∷ Busy ∷ BadRange ∷ NoRoom ∷ []
refusals kind.Show = NoName ∷ NoBlock ∷ []
refusals kind.Blocks = NoName ∷ []
refusals kind.Claim = NoName ∷ BadSize ∷ NoBudge ∷ NoRoom ∷ []
refusals kind.Release = NoName ∷ NotABlock ∷ Busy ∷ []
refusals kind.Resize = NoName ∷ NotABlock ∷ Busy ∷ BadSize ∷ NoBudge ∷ NoRoom ∷ []
refusals kind.Budge = NoName ∷ []
refusals kind.Heap = NoName ∷ []
refusals kind.Area = ExcessiveShrink ∷ NoRoom ∷ NoArea ∷ TooBig ∷ []
refusals kind.Make = TooManyAreas ∷ NoNumbers ∷ []
refusals kind.Remove = NoArea ∷ []
refusals kind.Areas = []
refusals kind.Rma = NotABlock ∷ NotYours ∷ BadSize ∷ NoRoom ∷ []
refusals kind.RmaClaim = BadSize ∷ NoRoom ∷ []
refusals kind.RmaFree = NotABlock ∷ NotYours ∷ []
refusals kind.RmaResize = NotABlock ∷ NotYours ∷ BadSize ∷ NoRoom ∷ []
refusals kind.Send = NoName ∷ NoTask ∷ NoRefs ∷ QueueFull ∷ NoRoom ∷ WrongManner ∷ BadRef ∷ []
refusals kind.Read = NoName ∷ BadRange ∷ []
refusals kind.Write = NoName ∷ BadRange ∷ WrongManner ∷ []
refusals kind.Transfer = NoName ∷ BadRange ∷ NoTask ∷ WrongManner ∷ []
refusals kind.Ack = NoName ∷ WrongManner ∷ []
refusals kind.Spool = NoName ∷ NoBlock ∷ Busy ∷ NoTask ∷ NoRefs ∷ QueueFull ∷ NoRoom ∷ WrongManner ∷ BadRef ∷ []
refusals kind.Scrap = NoName ∷ NoFile ∷ AnchorInUse ∷ NoRoom ∷ WrongManner ∷ []
