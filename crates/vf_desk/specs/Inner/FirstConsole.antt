-- The console with which a desk begins.
use Rattle.rh_defs.specs.declared.command.Command.TheVariants as command
use Rattle.rh_defs.specs.declared.question.Question.TheVariants as question
use Rattle.rh_tasks.specs.Shown.{Shown}
use Rattle.vf_desk.specs.declared.console.Console.{Console}
use Rattle.vf_desk.specs.declared.said.Said.TheVariants as said

-- a world that answered no line yet
abbrev pub first_console : Shown → Console
first_console world = record { world = world; said = said.Nothing; command = command.Ask question.Areas }
