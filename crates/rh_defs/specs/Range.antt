-- The commands whose numbers, names and bytes are of their forms: those that a line can spell. Read Forms and Grammar
-- first. q is a question, c a command.
use Rattle.std.specs.Prelude.{Bool, true, ◌&&◌, nat_le, List, [], ◌∷◌, length, Some, None}
use Rattle.std.specs.List.{list_all}
use Rattle.rh_defs.specs.declared.command.Command.{Command}
use Rattle.rh_defs.specs.declared.question.Question.{Question}
use Rattle.rh_defs.specs.Forms.{is_name, is_delta, is_leaf}
use Rattle.rh_defs.specs.OtherBodies.{is_whole}
use Rattle.rh_defs.specs.Grammar.{Form, Name, Leaf, Number, Ref, Delta, Address, Bytes, Data, Choice, Choices, Maybe, Value, Values, Spelling, spelled_by, spelling, question_spelling}

-- whether a value is one of the form; refs count from 1 on; how great an address and a ref may be, their types say
abbrev pub is_of : (form : Form) → Value form → Bool
is_of Name name = is_name name
is_of Leaf leaf = is_leaf leaf
is_of (Number low high) n = nat_le low n && nat_le n high
is_of Ref ref = nat_le 1 ref
is_of Delta amount = is_delta amount
is_of Address address = true
is_of Bytes bytes = nat_le 1 (length bytes)
is_of Data bytes = nat_le 1 (length bytes) && is_whole bytes
is_of (Choice first second) is_first = true
is_of (Choices first second third) which = true
is_of (Maybe form) None = true
is_of (Maybe form) (Some value) = is_of form value

-- whether each value is one of its form, beside what was tested before
abbrev pub all_of : Bool → (forms : List Form) → Values forms → Bool
all_of tested [] values = tested
all_of tested (form ∷ forms) values = all_of (tested && is_of form values.0) forms values.1

-- whether each value of a spelling is one of its form
abbrev pub can_be_read : Spelling → Bool
can_be_read (spelled_by row values) = all_of true row.forms values

-- whether a question is one that a line can spell
abbrev pub can_be_asked : Question → Bool
can_be_asked q = can_be_read (question_spelling q)

-- whether a command is one that a line can spell, however long the line
unfoldable pub in_range : Command → Bool
in_range c = can_be_read (spelling c)

-- whether each command of a list is one that a line can spell, however long the line
abbrev pub all_in_range : List Command → Bool
all_in_range commands = list_all in_range commands
