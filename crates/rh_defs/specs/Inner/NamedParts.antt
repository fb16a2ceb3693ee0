-- What a command or a question names, as private functions ask for it. Read Named first; q is a question, c a command.
use Rattle.std.specs.Prelude.{Bool, true, false, ℕ, List, Option}
use Rattle.rh_defs.specs.declared.command.Command.{Command}
use Rattle.rh_defs.specs.declared.command.Command.TheVariants as command
use Rattle.rh_defs.specs.declared.question.Question.{Question}
use Rattle.rh_defs.specs.declared.raw_command.RawCommand.{RawCommand}
use Rattle.rh_defs.specs.Grammar.{question_spelling, raw_spelling}
use Rattle.rh_defs.specs.Named.{subject}

-- the name of the task that a question is about
abbrev pub name_asked : Question → Option (List ℕ)
name_asked q = subject (question_spelling q)

-- the name of the task that gives a command of its own
abbrev pub name_given : RawCommand → Option (List ℕ)
name_given c = subject (raw_spelling c)

-- whether a command is about one flex block, which it names by its anchor
abbrev pub names_anchor : Command → Bool
names_anchor (command.Alloc name anchor size) = true
names_anchor (command.Load name anchor file) = true
names_anchor (command.Put name anchor offset bytes) = true
names_anchor (command.Free name anchor) = true
names_anchor (command.Extend name anchor size) = true
names_anchor (command.Mid name anchor offset by) = true
names_anchor (command.Save name anchor to leaf) = true
names_anchor c = false
