-- What a line may be: one row for each command, of the words that name it, the forms of its further words, and the
-- command made of them; and how a command is spelled, by its row and the values of these words. Read Forms first.
-- k is an anchor or the number of an area, n a size, by a signed amount, q a question.
-- `-` of naturals doesn't have to stop: there is an anchor at least.
use Rattle.std.specs.Prelude.{ℕ, ◌-◌, Bool, true, false, List, [], ◌∷◌, map, Option, Some, None, ℤ, pos, codes}
use Rattle.rh_defs.specs.declared.command.Command.{Command}
use Rattle.rh_defs.specs.declared.command.Command.TheVariants.{Task, Kill, Alloc, Load, Put, Free, Extend, Mid, Claim, Release, Resize, Budge, Save, Poll, CancelIn, CancelOut, Repeat, Area, Make, Remove, RmaClaim, RmaFree, RmaResize, Ask, Raw}
use Rattle.rh_defs.specs.declared.question.Question.{Question}
use Rattle.rh_defs.specs.declared.question.Question.TheVariants.{Show, Read, Blocks, Heap, Status, Areas}
use Rattle.rh_defs.specs.declared.command.Manner.{Manner}
use Rattle.rh_defs.specs.declared.command.Manner.TheVariants as manner
use Rattle.rh_defs.specs.declared.raw_command.RawCommand.{RawCommand}
use Rattle.rh_defs.specs.declared.raw_command.RawCommand.TheVariants.{Send, Write, Transfer, Ack, Spool, Scrap}
use Rattle.rh_defs.specs.Forms.{first_made, last_made, most_pages, last_ref}
use Rattle.rh_defs.specs.declared.sizes.TheConstants.{GREATEST_NUMBER, LONGEST_BUFFER}
use Rattle.rh_defs.specs.Slot.{anchor_count}

-- which of three words
pub data Third : Type 0 where
  First : Third
  Middle : Third
  Last : Third

-- the form of a word: a name, a leafname, a decimal number from low to high, the ref of a message or a task's handle, a
-- number that may have `-` before it, an address, bytes in hexadecimal digits, the data of a message in such digits, one
-- of two words, one of three; or a word of a form that may be left out at the end
pub data Form : Type 0 where
  Name : Form
  Leaf : Form
  Number : (low high : ℕ) → Form
  Ref : Form
  Delta : Form
  Address : Form
  Bytes : Form
  Data : Form
  Choice : (first second : List ℕ) → Form
  Choices : (first second third : List ℕ) → Form
  Maybe : Form → Form

-- what a word of a form spells; of two words, whether it is the first, and of three, which one
abbrev pub Value : Form → Type 0
Value Name = List ℕ
Value Leaf = List ℕ
Value (Number low high) = ℕ
Value Ref = ℕ
Value Delta = ℤ
Value Address = ℕ
Value Bytes = List ℕ
Value Data = List ℕ
Value (Choice first second) = Bool
Value (Choices first second third) = Third
Value (Maybe form) = Option (Value form)

-- what makes a command of words of these forms
abbrev pub Maker : List Form → Type 0
Maker [] = Command
Maker (form ∷ forms) = Value form → Maker forms

-- the word that a line begins with, those that must follow, the forms of the others, and their command
pub record GrammarRow : Type 0 where
  pub first : List ℕ
  pub further : List (List ℕ)
  pub forms : List Form
  pub make : Maker forms

-- ---- how a line spells a command

-- a value for each form of a row
abbrev pub Values : List Form → Type 0
Values [] = Unit {0}
Values (form ∷ forms) = Value form × Values forms

-- a row, and what the words behind its own spell
pub data Spelling : Type 0 where
  spelled_by : (row : GrammarRow) → Values row.forms → Spelling

-- that row
abbrev pub row_of_spelling : Spelling → GrammarRow
row_of_spelling (spelled_by row values) = row

-- a command that its first word names, and one on the module area's blocks
abbrev pub spelled : List ℕ → (forms : List Form) → Maker forms → Values forms → Spelling
spelled first forms make = spelled_by (record { first = first; further = []; forms = forms; make = make })

abbrev pub rma_spelled : List ℕ → (forms : List Form) → Maker forms → Values forms → Spelling
rma_spelled second forms make =
    spelled_by (record { first = codes "rma"; further = second ∷ []; forms = forms; make = make })

-- a word as an anchor, and as a size or an offset
abbrev pub Anchor : Form
Anchor = Number 0 (anchor_count - 1)

abbrev pub Size : Form
Size = Number 0 GREATEST_NUMBER

-- the manner of a task that the last word may give, and back
abbrev pub manner_of : Option Third → Manner
manner_of None = manner.Plain
manner_of (Some First) = manner.Deaf
manner_of (Some Middle) = manner.File
manner_of (Some Last) = manner.Raw

abbrev pub manner_word : Manner → Option Third
manner_word manner.Plain = None
manner_word manner.Deaf = Some First
manner_word manner.File = Some Middle
manner_word manner.Raw = Some Last

-- the form of that word
abbrev pub MannerWord : Form
MannerWord = Choices (codes "deaf") (codes "file") (codes "raw")

-- a cancel of what comes in, or goes out
abbrev pub cancel_of : List ℕ → Bool → Option ℕ → Command
cancel_of name true id = CancelIn name id
cancel_of name false id = CancelOut name id

-- a new task, and a cancel either way, of which the words spell more than the parts of one command
abbrev pub task_spelled : Values (Name ∷ Number 1 LONGEST_BUFFER ∷ Maybe MannerWord ∷ []) → Spelling
task_spelled =
    spelled (codes "task") (Name ∷ Number 1 LONGEST_BUFFER ∷ Maybe MannerWord ∷ [])
    (λ name buffer word. Task name buffer (manner_of word))

abbrev pub cancel_spelled : Values (Name ∷ Choice (codes "in") (codes "out") ∷ Maybe Ref ∷ []) → Spelling
cancel_spelled = spelled (codes "cancel") (Name ∷ Choice (codes "in") (codes "out") ∷ Maybe Ref ∷ []) cancel_of

-- how a question is spelled
abbrev pub question_spelling : Question → Spelling
question_spelling (Show name k) =
    spelled (codes "show") (Name ∷ Anchor ∷ []) (λ name k. Ask (Show name k)) (name, (k, tt))
question_spelling (Read name place n) =
    spelled (codes "read") (Name ∷ Address ∷ Size ∷ []) (λ name place n. Ask (Read name place n)) (name, (place, (n, tt)))
question_spelling (Blocks name) = spelled (codes "blocks") (Name ∷ []) (λ name. Ask (Blocks name)) (name, tt)
question_spelling (Heap name) = spelled (codes "heap") (Name ∷ []) (λ name. Ask (Heap name)) (name, tt)
question_spelling (Status name) = spelled (codes "status") (Name ∷ []) (λ name. Ask (Status name)) (name, tt)
question_spelling Areas = spelled (codes "areas") [] (Ask Areas) tt

-- any word that a message may have
abbrev pub AnyNumber : Form
AnyNumber = Number 0 last_ref

-- how a command of a task with code of its own is spelled
abbrev pub raw_spelling : RawCommand → Spelling
raw_spelling (Send name recorded to ref a bytes) =
    spelled (codes "send") (Name ∷ Choice (codes "18") (codes "17") ∷ Ref ∷ AnyNumber ∷ AnyNumber ∷ Maybe Data ∷ [])
    (λ name recorded to ref a bytes. Raw (Send name recorded to ref a bytes))
    (name, (recorded, (to, (ref, (a, (bytes, tt))))))
raw_spelling (Write name place bytes) =
    spelled (codes "write") (Name ∷ Address ∷ Bytes ∷ []) (λ name place bytes. Raw (Write name place bytes))
    (name, (place, (bytes, tt)))
raw_spelling (Transfer name place to there n) =
    spelled (codes "transfer") (Name ∷ Address ∷ Ref ∷ Address ∷ Size ∷ [])
    (λ name place to there n. Raw (Transfer name place to there n))
    (name, (place, (to, (there, (n, tt)))))
raw_spelling (Ack name) = spelled (codes "ack") (Name ∷ []) (λ name. Raw (Ack name)) (name, tt)
raw_spelling (Spool name k to ref) =
    spelled (codes "spool") (Name ∷ Anchor ∷ Ref ∷ AnyNumber ∷ []) (λ name k to ref. Raw (Spool name k to ref))
    (name, (k, (to, (ref, tt))))
raw_spelling (Scrap name k) =
    spelled (codes "scrap") (Name ∷ Anchor ∷ []) (λ name k. Raw (Scrap name k)) (name, (k, tt))

-- how a command is spelled: its row, and the values of the words behind the row's own
abbrev pub spelling : Command → Spelling
spelling (Task name buffer manner) = task_spelled (name, (buffer, (manner_word manner, tt)))
spelling (Kill name) = spelled (codes "kill") (Name ∷ []) Kill (name, tt)
spelling (Alloc name k n) = spelled (codes "alloc") (Name ∷ Anchor ∷ Size ∷ []) Alloc (name, (k, (n, tt)))
spelling (Load name k file) = spelled (codes "load") (Name ∷ Anchor ∷ Name ∷ []) Load (name, (k, (file, tt)))
spelling (Put name k offset bytes) =
    spelled (codes "put") (Name ∷ Anchor ∷ Size ∷ Bytes ∷ []) Put (name, (k, (offset, (bytes, tt))))
spelling (Free name k) = spelled (codes "free") (Name ∷ Anchor ∷ []) Free (name, (k, tt))
spelling (Extend name k n) = spelled (codes "extend") (Name ∷ Anchor ∷ Size ∷ []) Extend (name, (k, (n, tt)))
spelling (Mid name k offset by) =
    spelled (codes "mid") (Name ∷ Anchor ∷ Size ∷ Delta ∷ []) Mid (name, (k, (offset, (by, tt))))
spelling (Claim name n) = spelled (codes "claim") (Name ∷ Size ∷ []) Claim (name, (n, tt))
spelling (Release name place) = spelled (codes "release") (Name ∷ Address ∷ []) Release (name, (place, tt))
spelling (Resize name place by) = spelled (codes "resize") (Name ∷ Address ∷ Delta ∷ []) Resize (name, (place, (by, tt)))
spelling (Budge name on) =
    spelled (codes "budge") (Name ∷ Choice (codes "on") (codes "off") ∷ []) Budge (name, (on, tt))
spelling (Save name k to leaf) =
    spelled (codes "save") (Name ∷ Anchor ∷ Name ∷ Leaf ∷ []) Save (name, (k, (to, (leaf, tt))))
spelling (Poll name) = spelled (codes "poll") (Name ∷ []) Poll (name, tt)
spelling (CancelIn name id) = cancel_spelled (name, (true, (id, tt)))
spelling (CancelOut name id) = cancel_spelled (name, (false, (id, tt)))
spelling (Repeat name) = spelled (codes "repeat") (Name ∷ []) Repeat (name, tt)
spelling (Area k by) = spelled (codes "area") (Number 0 last_made ∷ Delta ∷ []) Area (k, (by, tt))
spelling (Make most) = spelled (codes "make") (Number 1 most_pages ∷ []) Make (most, tt)
spelling (Remove k) = spelled (codes "remove") (Number first_made last_made ∷ []) Remove (k, tt)
spelling (RmaClaim n) = rma_spelled (codes "claim") (Size ∷ []) RmaClaim (n, tt)
spelling (RmaFree place) = rma_spelled (codes "free") (Address ∷ []) RmaFree (place, tt)
spelling (RmaResize place by) = rma_spelled (codes "resize") (Address ∷ Delta ∷ []) RmaResize (place, (by, tt))
spelling (Ask q) = question_spelling q
spelling (Raw c) = raw_spelling c

-- one command of each row, which is that of all others of its kind, in the order in which a line is compared with them
abbrev samples : List Command
samples =
    Task [] 0 manner.Plain ∷ Kill [] ∷ Alloc [] 0 0 ∷ Load [] 0 [] ∷ Put [] 0 0 [] ∷ Free [] 0 ∷ Extend [] 0 0
    ∷ Mid [] 0 0 (pos 0) ∷ Claim [] 0 ∷ Release [] 0 ∷ Resize [] 0 (pos 0) ∷ Budge [] true ∷ Save [] 0 [] [] ∷ Poll []
    ∷ CancelIn [] None ∷ Repeat [] ∷ Area 0 (pos 0) ∷ Make 0 ∷ Remove 0 ∷ RmaClaim 0 ∷ RmaFree 0 ∷ RmaResize 0 (pos 0)
    ∷ Raw (Send [] true 0 0 0 None) ∷ Raw (Write [] 0 []) ∷ Raw (Transfer [] 0 0 0 0) ∷ Raw (Ack []) ∷ Raw (Spool [] 0 0 0)
    ∷ Raw (Scrap [] 0) ∷ Ask (Show [] 0) ∷ Ask (Read [] 0 0) ∷ Ask (Blocks []) ∷ Ask (Heap []) ∷ Ask (Status []) ∷ Ask Areas ∷ []

-- the rows of all commands
unfoldable pub rows : List GrammarRow
rows = map (λ c. row_of_spelling (spelling c)) samples
