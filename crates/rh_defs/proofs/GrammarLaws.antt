-- What a row makes is spelled by this row and the same values, and the spelling of a command makes it again.
use Rattle.rh_defs.proofs.Common.{◌≡◌, ℕ, Bool, true, false, refl, rules, Option, Some, None, List, [], ◌∷◌, Command}
use Rattle.rh_defs.specs.declared.command.Command.TheVariants as command
use Rattle.rh_defs.specs.declared.command.Manner.TheVariants as manner
use Rattle.rh_defs.specs.declared.question.Question.{Question}
use Rattle.rh_defs.specs.declared.question.Question.TheVariants as question
use Rattle.rh_defs.specs.Grammar.{Form, Value, Values, Maker, GrammarRow, Spelling, Third, First, Middle, Last, manner_of, manner_word, cancel_of}
use Rattle.rh_defs.specs.Grammar.{cancel_spelled, spelled_by}
use Rattle.rh_defs.specs.Grammar.{question_spelling, raw_spelling, rows, spelling}
use Rattle.rh_defs.specs.declared.raw_command.RawCommand.{RawCommand}
use Rattle.rh_defs.specs.declared.raw_command.RawCommand.TheVariants as raw

-- the command made of values
abbrev pub made : (forms : List Form) → Maker forms → Values forms → Command
made [] command values = command
made (form ∷ forms) make values = made forms (make values.0) values.1

-- that of a spelling
abbrev pub made_of : Spelling → Command
made_of (spelled_by row values) = made row.forms row.make values

-- what is made of any values for the forms has the spelling given for these values
abbrev pub Spells : (forms : List Form) → Maker forms → (Values forms → Spelling) → Type 0
Spells [] command give = spelling command ≡ give tt
Spells (form ∷ forms) make give = (value : Value form) → Spells forms (make value) (λ values. give (value, values))

-- a row's command is spelled by the row and the values that it was made of
abbrev pub RowSpells : GrammarRow → Type 0
RowSpells row = Spells row.forms row.make (spelled_by row)

-- that of each row is
abbrev pub AllSpell : List GrammarRow → Type 0
AllSpell [] = Unit {0}
AllSpell (row ∷ rows) = RowSpells row × AllSpell rows

-- a task's manner, as a word and back
manner-back : (word : Option Third) → manner_word (manner_of word) ≡ word
manner-back None = refl
manner-back (Some First) = refl
manner-back (Some Middle) = refl
manner-back (Some Last) = refl

cancel-spells : (name : List ℕ) (comes_in : Bool) (id : Option ℕ) → spelling (cancel_of name comes_in id) ≡ cancel_spelled (name, (comes_in, (id, tt)))
cancel-spells name true id = refl
cancel-spells name false id = refl

pub rows-spell : AllSpell rows
unfolding rows
rows-spell = search (rules, manner-back, cancel-spells)

-- ---- and back

asked-made : (q : Question) → made_of (question_spelling q) ≡ command.Ask q
asked-made (question.Show name k) = refl
asked-made q = refl

raw-made : (c : RawCommand) → made_of (raw_spelling c) ≡ command.Raw c
raw-made (raw.Ack name) = refl
raw-made c = refl

pub spelling-made : (c : Command) → made_of (spelling c) ≡ c
spelling-made (command.Task name buffer manner.Plain) = refl
spelling-made (command.Task name buffer manner.Deaf) = refl
spelling-made (command.Task name buffer manner.File) = refl
spelling-made (command.Task name buffer manner.Raw) = refl
spelling-made (command.Ask q) = asked-made q
spelling-made (command.Raw c) = raw-made c
spelling-made c = refl
