-- What a command names: its task, and a block of it. Read Grammar first. c is a command.
use Rattle.std.specs.Prelude.{ℕ, List, ◌∷◌, Option, Some, None}
use Rattle.rh_defs.specs.declared.command.Command.{Command}
use Rattle.rh_defs.specs.Grammar.{Form, Name, Values, Spelling, spelled_by, spelling}

-- the name of a task, where that is the first word behind those of the command
abbrev pub first_name : (forms : List Form) → Values forms → Option (List ℕ)
first_name (Name ∷ forms) values = Some values.0
first_name forms values = None

-- the name of the task that a spelling is about
abbrev pub subject : Spelling → Option (List ℕ)
subject (spelled_by row values) = first_name row.forms values

-- the name of the task that a command is about
abbrev pub name_in : Command → Option (List ℕ)
name_in c = subject (spelling c)
