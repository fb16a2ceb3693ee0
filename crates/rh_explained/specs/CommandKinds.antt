-- The kinds of commands: the words that name each, its forms, what it does, and the kinds of its further words.
use Rattle.std.specs.Prelude.{ℕ, ◌+◌, ◌-◌, Bool, true, false, if◌then◌else◌, List, [], ◌∷◌, codes, Option, Some, None, slice_get}
use Rattle.std.specs.Str.{bytes_eq}
use Rattle.rh_explained.specs.declared.command_kind.CommandKind.{CommandKind}
use Rattle.rh_explained.specs.declared.command_kind.CommandKind.TheVariants.{Task, Kill, Save, Poll, Cancel, Repeat, Status, Alloc, Load, Put, Free, Extend, Mid, Show, Blocks, Claim, Release, Resize, Budge, Heap, Area, Make, Remove, Areas, Rma, RmaClaim, RmaFree, RmaResize, Send, Read, Write, Transfer, Ack, Spool, Scrap}
use Rattle.rh_explained.specs.declared.word_kind.WordKind.{WordKind}
use Rattle.rh_explained.specs.declared.word_kind.WordKind.TheVariants.{NewName, TaskName, FileName, Anchor, Buffer, Size, Offset, Amount, AreaNumber, MadeNumber, MostPages, Id, Address, Bytes, Leaf, Manner, Direction, Switch, RmaWord, Code, Handle, AnsweredRef, ActionNumber, Data}

-- the command on a block of the module area that the second word names
abbrev pub rma_kind : List ℕ → CommandKind
rma_kind second =
    if bytes_eq second (codes "claim") then RmaClaim
    else if bytes_eq second (codes "free") then RmaFree
    else if bytes_eq second (codes "resize") then RmaResize
    else Rma

-- whether a kind is about tasks with code of their own alone
abbrev pub is_of_programs : CommandKind → Bool
is_of_programs Send = true
is_of_programs Write = true
is_of_programs Transfer = true
is_of_programs Ack = true
is_of_programs Spool = true
is_of_programs Scrap = true
is_of_programs kind = false

-- whether a kind is about bytes at an address of its own task's slot
abbrev pub is_of_bytes : CommandKind → Bool
is_of_bytes Read = true
is_of_bytes Write = true
is_of_bytes kind = false

-- a kind that is about tasks and their transfers
abbrev pub task_kind : List ℕ → Option CommandKind
task_kind first =
    if bytes_eq first (codes "task") then Some Task
    else if bytes_eq first (codes "kill") then Some Kill
    else if bytes_eq first (codes "save") then Some Save
    else if bytes_eq first (codes "poll") then Some Poll
    else if bytes_eq first (codes "cancel") then Some Cancel
    else if bytes_eq first (codes "repeat") then Some Repeat
    else if bytes_eq first (codes "status") then Some Status
    else None

-- one that is about flex blocks
abbrev pub flex_kind : List ℕ → Option CommandKind
flex_kind first =
    if bytes_eq first (codes "alloc") then Some Alloc
    else if bytes_eq first (codes "load") then Some Load
    else if bytes_eq first (codes "put") then Some Put
    else if bytes_eq first (codes "free") then Some Free
    else if bytes_eq first (codes "extend") then Some Extend
    else if bytes_eq first (codes "mid") then Some Mid
    else if bytes_eq first (codes "show") then Some Show
    else if bytes_eq first (codes "blocks") then Some Blocks
    else None

-- one that is about heaps
abbrev pub heap_kind : List ℕ → List ℕ → Option CommandKind
heap_kind first second =
    if bytes_eq first (codes "claim") then Some Claim
    else if bytes_eq first (codes "release") then Some Release
    else if bytes_eq first (codes "resize") then Some Resize
    else if bytes_eq first (codes "budge") then Some Budge
    else if bytes_eq first (codes "heap") then Some Heap
    else if bytes_eq first (codes "rma") then Some (rma_kind second)
    else None

-- one that is about areas of pages
abbrev pub area_kind : List ℕ → Option CommandKind
area_kind first =
    if bytes_eq first (codes "area") then Some Area
    else if bytes_eq first (codes "make") then Some Make
    else if bytes_eq first (codes "remove") then Some Remove
    else if bytes_eq first (codes "areas") then Some Areas
    else None

-- one that is of tasks with code of their own
abbrev pub program_kind : List ℕ → Option CommandKind
program_kind first =
    if bytes_eq first (codes "send") then Some Send
    else if bytes_eq first (codes "read") then Some Read
    else if bytes_eq first (codes "write") then Some Write
    else if bytes_eq first (codes "transfer") then Some Transfer
    else if bytes_eq first (codes "ack") then Some Ack
    else if bytes_eq first (codes "spool") then Some Spool
    else if bytes_eq first (codes "scrap") then Some Scrap
    else None

-- the first of two that is there
abbrev pub first_of : Option CommandKind → Option CommandKind → Option CommandKind
first_of (Some kind) other = Some kind
first_of None other = other

-- the kind that a line's first two words name
abbrev pub kind_named : List ℕ → List ℕ → Option CommandKind
kind_named first second =
    first_of (task_kind first) (first_of (flex_kind first) (first_of (heap_kind first second)
    (first_of (area_kind first) (program_kind first))))

-- the forms of a kind's lines; those of `rma` where no second word of a form follows
abbrev pub forms : CommandKind → List ℕ
forms Task = codes "task NAME BUF, task NAME BUF deaf, task NAME BUF file or task NAME BUF raw"
forms Kill = codes "kill NAME"
forms Save = codes "save NAME A TO LEAF"
forms Poll = codes "poll NAME"
forms Cancel = codes "cancel NAME in [ID] or cancel NAME out [ID]"
forms Repeat = codes "repeat NAME"
forms Status = codes "status NAME"
forms Alloc = codes "alloc NAME A N"
forms Load = codes "load NAME A FILE"
forms Put = codes "put NAME A OFF HEX"
forms Free = codes "free NAME A"
forms Extend = codes "extend NAME A N"
forms Mid = codes "mid NAME A AT BY"
forms Show = codes "show NAME A"
forms Blocks = codes "blocks NAME"
forms Claim = codes "claim NAME N"
forms Release = codes "release NAME ADDR"
forms Resize = codes "resize NAME ADDR DELTA"
forms Budge = codes "budge NAME on or budge NAME off"
forms Heap = codes "heap NAME"
forms Area = codes "area K DELTA"
forms Make = codes "make MAX"
forms Remove = codes "remove K"
forms Areas = codes "areas"
forms Rma = codes "rma claim N, rma free ADDR or rma resize ADDR DELTA"
forms RmaClaim = codes "rma claim N"
forms RmaFree = codes "rma free ADDR"
forms RmaResize = codes "rma resize ADDR DELTA"
forms Send = codes "send NAME CODE HANDLE REF ACTION [DATA]"
forms Read = codes "read NAME ADDR N"
forms Write = codes "write NAME ADDR HEX"
forms Transfer = codes "transfer NAME ADDR HANDLE ADDR N"
forms Ack = codes "ack NAME"
forms Spool = codes "spool NAME A HANDLE REF"
forms Scrap = codes "scrap NAME A"

-- the kinds of the words behind those that name the kind; behind `rma` alone one of three is expected
abbrev pub word_kinds : CommandKind → List WordKind
word_kinds Task = NewName ∷ Buffer ∷ Manner ∷ []
word_kinds Kill = TaskName ∷ []
word_kinds Save = TaskName ∷ Anchor ∷ TaskName ∷ Leaf ∷ []
word_kinds Poll = TaskName ∷ []
word_kinds Cancel = TaskName ∷ Direction ∷ Id ∷ []
word_kinds Repeat = TaskName ∷ []
word_kinds Status = TaskName ∷ []
word_kinds Alloc = TaskName ∷ Anchor ∷ Size ∷ []
word_kinds Load = TaskName ∷ Anchor ∷ FileName ∷ []
word_kinds Put = TaskName ∷ Anchor ∷ Offset ∷ Bytes ∷ []
word_kinds Free = TaskName ∷ Anchor ∷ []
word_kinds Extend = TaskName ∷ Anchor ∷ Size ∷ []
word_kinds Mid = TaskName ∷ Anchor ∷ Offset ∷ Amount ∷ []
word_kinds Show = TaskName ∷ Anchor ∷ []
word_kinds Blocks = TaskName ∷ []
word_kinds Claim = TaskName ∷ Size ∷ []
word_kinds Release = TaskName ∷ Address ∷ []
word_kinds Resize = TaskName ∷ Address ∷ Amount ∷ []
word_kinds Budge = TaskName ∷ Switch ∷ []
word_kinds Heap = TaskName ∷ []
word_kinds Area = AreaNumber ∷ Amount ∷ []
word_kinds Make = MostPages ∷ []
word_kinds Remove = MadeNumber ∷ []
word_kinds Areas = []
word_kinds Rma = RmaWord ∷ []
word_kinds RmaClaim = Size ∷ []
word_kinds RmaFree = Address ∷ []
word_kinds RmaResize = Address ∷ Amount ∷ []
word_kinds Send = TaskName ∷ Code ∷ Handle ∷ AnsweredRef ∷ ActionNumber ∷ Data ∷ []
word_kinds Read = TaskName ∷ Address ∷ Size ∷ []
word_kinds Write = TaskName ∷ Address ∷ Bytes ∷ []
word_kinds Transfer = TaskName ∷ Address ∷ Handle ∷ Address ∷ Size ∷ []
word_kinds Ack = TaskName ∷ []
word_kinds Spool = TaskName ∷ Anchor ∷ Handle ∷ AnsweredRef ∷ []
word_kinds Scrap = TaskName ∷ Anchor ∷ []

-- so many words name the kind
abbrev pub own_words : CommandKind → ℕ
own_words RmaClaim = 2
own_words RmaFree = 2
own_words RmaResize = 2
own_words kind = 1

-- the kind of word n, counted from 1, of the kind's lines; `-` stops at 0 for the words that name it alone
abbrev pub kind_at : CommandKind → ℕ → Option WordKind
kind_at kind n = slice_get (word_kinds kind) (n - (own_words kind + 1))
