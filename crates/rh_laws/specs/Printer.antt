-- The line that is printed for a command, and which commands a line can spell. Read Grammar, Line and Range of rh_defs
-- first. c is a command, n a number.
use Rattle.std.specs.Prelude.{ℕ, ◌≡◌, ◌≤◌, ◌^◌, Bool, true, ◌&&◌, nat_le, nat_lt, if◌then◌else◌, List, [], ◌∷◌, ◌++◌, length, Some, None, Ok, IsTrue}
use Rattle.std.specs.List.{list_all, join_with_byte}
use Rattle.std.specs.Fmt.{decimal, signed_decimal}
use Rattle.hex.specs.Hex.{encode_lower}
use Rattle.rh_defs.specs.Bytes.{space}
use Rattle.rh_defs.specs.declared.command.Command.{Command}
use Rattle.rh_defs.specs.Forms.{last_ref}
use Rattle.rh_defs.specs.Grammar.{Form, Name, Leaf, Number, Ref, Delta, Address, Bytes, Data, Choice, Choices, Third, First, Middle, Last, Maybe, Value, Values, Spelling, spelled_by, spelling}
use Rattle.rh_defs.specs.Line.{longest_line, line_means}
use Rattle.rh_defs.specs.Range.{in_range}
use Rattle.rh_defs.specs.Text.{Words, address}

-- ---- the words of a command

-- one of three words
abbrev pub third_word : List ℕ → List ℕ → List ℕ → Third → List ℕ
third_word first second third First = first
third_word first second third Middle = second
third_word first second third Last = third

-- what is printed for a value of a form
abbrev pub form_text : (form : Form) → Value form → Words
form_text Name name = name ∷ []
form_text Leaf leaf = leaf ∷ []
form_text (Number low high) n = decimal n ∷ []
form_text Ref ref = decimal ref ∷ []
form_text Delta amount = signed_decimal amount ∷ []
form_text Address place = address place ∷ []
form_text Bytes bytes = encode_lower bytes ∷ []
form_text Data bytes = encode_lower bytes ∷ []
form_text (Choices first second third) which = third_word first second third which ∷ []
form_text (Choice first second) is_first = (if is_first then first else second) ∷ []
form_text (Maybe form) None = []
form_text (Maybe form) (Some value) = form_text form value

-- the words of the values of all forms
abbrev pub texts : (forms : List Form) → Values forms → Words
texts [] values = []
texts (form ∷ forms) values = form_text form values.0 ++ texts forms values.1

-- the words of a spelling: those of its row, and then those of the values
abbrev pub words_spelled : Spelling → Words
words_spelled (spelled_by row values) = row.first ∷ row.further ++ texts row.forms values

-- the words of a command
unfoldable pub command_words : Command → Words
command_words c = words_spelled (spelling c)

-- the line, with one space between two words
abbrev pub line_of : Command → List ℕ
line_of c = join_with_byte space (command_words c)

-- ---- what a line can spell

-- an address is a word of 32 bits
abbrev pub is_word : ℕ → Bool
is_word place = nat_lt place (2 ^ 32)

-- whether a value is no greater than its type lets it be: refs and addresses are words, and bytes bytes
abbrev pub is_sized : (form : Form) → Value form → Bool
is_sized Ref ref = nat_le ref last_ref
is_sized Address place = is_word place
is_sized Bytes bytes = list_all (λ b. nat_lt b 256) bytes
is_sized Data bytes = list_all (λ b. nat_lt b 256) bytes
is_sized (Maybe form) (Some value) = is_sized form value
is_sized form value = true

-- whether each value is no greater than its type lets it be
abbrev pub are_sized : (forms : List Form) → Values forms → Bool
are_sized [] values = true
are_sized (form ∷ forms) values = is_sized form values.0 && are_sized forms values.1

-- whether each value of a spelling is no greater than its type lets it be
abbrev pub is_typed : Spelling → Bool
is_typed (spelled_by row values) = are_sized row.forms values

-- whether each value of a command is no greater than its type lets it be
unfoldable pub has_sizes : Command → Bool
has_sizes c = is_typed (spelling c)

-- whether its line fits
abbrev pub fits_a_line : Command → Bool
fits_a_line c = nat_le (length (line_of c)) longest_line

-- whether a line can spell a command
abbrev pub can_be_spelled : Command → Bool
can_be_spelled c = in_range c && has_sizes c && fits_a_line c

-- the printed line means the command
abbrev pub AreRead : Type 0
AreRead = (c : Command) → IsTrue (can_be_spelled c) → line_means (line_of c) ≡ Ok (Some c)

-- what a line means can be spelled, by a line that is not longer
abbrev pub AreSpelled : Type 0
AreSpelled = (line : List ℕ) (c : Command) → line_means line ≡ Ok (Some c) →
    IsTrue (can_be_spelled c) × (length (line_of c) ≤ length line)
