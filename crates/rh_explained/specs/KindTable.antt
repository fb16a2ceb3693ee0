-- The table of kinds has what lines of commands are: the words that name each, and the forms of the others.
use Rattle.std.specs.Prelude.{◌≡◌, [], map, codes, Some, slice_index_or}
use Rattle.rh_defs.specs.declared.command.Command.{Command}
use Rattle.rh_defs.specs.declared.command.Command.TheVariants as command
use Rattle.rh_defs.specs.declared.question.Question.TheVariants as question
use Rattle.rh_defs.specs.declared.raw_command.RawCommand.TheVariants as raw
use Rattle.rh_defs.specs.Forms.{first_made, last_made, most_pages}
use Rattle.rh_defs.specs.declared.sizes.TheConstants.{LONGEST_BUFFER}
use Rattle.rh_defs.specs.Grammar as grammar
use Rattle.rh_defs.specs.Grammar.{Form, GrammarRow, row_of_spelling, spelling}
use Rattle.rh_explained.specs.CommandKinds.{kind_named, word_kinds}
use Rattle.rh_explained.specs.declared.command_kind.CommandKind.{CommandKind}
use Rattle.rh_explained.specs.declared.command_kind.CommandKind.TheVariants.{Task, Kill, Save, Poll, Cancel, Repeat, Status, Alloc, Load, Put, Free, Extend, Mid, Show, Blocks, Claim, Release, Resize, Budge, Heap, Area, Make, Remove, Areas, RmaClaim, RmaFree, RmaResize, Send, Read, Write, Transfer, Ack, Spool, Scrap}
use Rattle.rh_explained.specs.declared.word_kind.WordKind.{WordKind}
use Rattle.rh_explained.specs.declared.word_kind.WordKind.TheVariants as word

-- the form of a word of a kind
abbrev pub form_of : WordKind → Form
form_of word.NewName = grammar.Name
form_of word.TaskName = grammar.Name
form_of word.FileName = grammar.Name
form_of word.Anchor = grammar.Anchor
form_of word.Buffer = grammar.Number 1 LONGEST_BUFFER
form_of word.Size = grammar.Size
form_of word.Offset = grammar.Size
form_of word.Amount = grammar.Delta
form_of word.AreaNumber = grammar.Number 0 last_made
form_of word.MadeNumber = grammar.Number first_made last_made
form_of word.MostPages = grammar.Number 1 most_pages
form_of word.Id = grammar.Maybe grammar.Ref
form_of word.Address = grammar.Address
form_of word.Bytes = grammar.Bytes
form_of word.Leaf = grammar.Leaf
form_of word.Manner = grammar.Maybe grammar.MannerWord
form_of word.Direction = grammar.Choice (codes "in") (codes "out")
form_of word.Switch = grammar.Choice (codes "on") (codes "off")
form_of word.RmaWord = grammar.Choice (codes "claim") (codes "free")
form_of word.Code = grammar.Choice (codes "18") (codes "17")
form_of word.Handle = grammar.Ref
form_of word.AnsweredRef = grammar.AnyNumber
form_of word.ActionNumber = grammar.AnyNumber
form_of word.Data = grammar.Maybe grammar.Data

-- the kind of a command
abbrev pub kind_of : Command → CommandKind
kind_of (command.Task name buffer manner) = Task
kind_of (command.Kill name) = Kill
kind_of (command.Alloc name k n) = Alloc
kind_of (command.Load name k file) = Load
kind_of (command.Put name k offset bytes) = Put
kind_of (command.Free name k) = Free
kind_of (command.Extend name k n) = Extend
kind_of (command.Mid name k offset by) = Mid
kind_of (command.Claim name n) = Claim
kind_of (command.Release name place) = Release
kind_of (command.Resize name place by) = Resize
kind_of (command.Budge name on) = Budge
kind_of (command.Save name k to leaf) = Save
kind_of (command.Poll name) = Poll
kind_of (command.CancelIn name id) = Cancel
kind_of (command.CancelOut name id) = Cancel
kind_of (command.Repeat name) = Repeat
kind_of (command.Area k by) = Area
kind_of (command.Make most) = Make
kind_of (command.Remove k) = Remove
kind_of (command.RmaClaim n) = RmaClaim
kind_of (command.RmaFree place) = RmaFree
kind_of (command.RmaResize place by) = RmaResize
kind_of (command.Raw (raw.Send name recorded to ref action bytes)) = Send
kind_of (command.Raw (raw.Write name place bytes)) = Write
kind_of (command.Raw (raw.Transfer name place to other n)) = Transfer
kind_of (command.Raw (raw.Ack name)) = Ack
kind_of (command.Raw (raw.Spool name k to ref)) = Spool
kind_of (command.Raw (raw.Scrap name k)) = Scrap
kind_of (command.Ask (question.Show name k)) = Show
kind_of (command.Ask (question.Read name place n)) = Read
kind_of (command.Ask (question.Blocks name)) = Blocks
kind_of (command.Ask (question.Heap name)) = Heap
kind_of (command.Ask (question.Status name)) = Status
kind_of (command.Ask question.Areas) = Areas

-- a row's first two words name the kind, and its other words are of the kind's forms
pub record IsRowOf (kind : CommandKind) (row : GrammarRow) : Type 0 where
  pub named : kind_named row.first (slice_index_or row.further 0 []) ≡ Some kind
  pub formed : map form_of (word_kinds kind) ≡ row.forms

-- each command has a row of its kind
abbrev pub TableFits : Type 0
TableFits = (c : Command) → IsRowOf (kind_of c) (row_of_spelling (spelling c))
