-- What a line asks for, where its command or its bytes are put in a place that the caller gives.
use Rattle.std.specs.Prelude.{Bool, true, false, Option, Some, None, Ok, Err}
use Rattle.rh_defs.specs.declared.command.Command.{Command}
use Rattle.rh_defs.specs.Chain.{◌>>=◌}
use Rattle.rh_defs.specs.Grammar.{rows}
use Rattle.rh_defs.specs.Line.{Meaning, command_by}
use Rattle.rh_defs.specs.Range.{in_range}

-- what is in the place, unless there is a fault
abbrev pub when_placed : {A : Type 0} → Meaning Unit → A → Meaning A
when_placed (Ok done) x = Ok x
when_placed (Err fault) x = Err fault

-- the command in the place, where a line may have none
abbrev pub if_placed : Meaning Bool → Command → Meaning (Option Command)
if_placed (Ok true) command = Ok (Some command)
if_placed (Ok false) command = Ok None
if_placed (Err fault) command = Err fault

-- a fact where the line has a command
abbrev pub OnFound : Meaning Bool → Type 0 → Type 0
OnFound (Ok true) X = X
OnFound (Ok false) X = Unit {0}
OnFound (Err fault) X = Unit {0}

-- a fact where it has none, or a fault
abbrev pub OnNone : Meaning Bool → Type 0 → Type 0
OnNone (Ok true) X = Unit {0}
OnNone (Ok false) X = X
OnNone (Err fault) X = X

-- opens what a command's row asks of its line, for a proof of one command
unfoldable pub reading : Unit {0}
unfolding command_by rows in_range ◌>>=◌
reading = tt
