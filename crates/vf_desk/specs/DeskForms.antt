-- The arguments of C as parts of commands.
use Rattle.std.specs.Prelude.{ℕ, ◌==◌, Bool, true, false, if◌then◌else◌, List, [], ◌∷◌, Option, Some, None}
use Rattle.rh_defs.specs.declared.command.Command.{Command}
use Rattle.rh_defs.specs.declared.command.Command.TheVariants as command
use Rattle.rh_defs.specs.declared.command.Manner.{Manner}
use Rattle.rh_defs.specs.declared.command.Manner.TheVariants.{Plain, Deaf, File, Raw}
use Rattle.rh_defs.specs.declared.raw_command.RawCommand.TheVariants as raw
use Rattle.rh_defs.specs.Forms.{is_name, is_anchor}
use Rattle.vf_desk.specs.CallOutcome.{in_form}

-- a name, if these bytes are one
abbrev pub name_read : List ℕ → Option (List ℕ)
name_read name = if is_name name then Some name else None

-- an anchor, if a slot has it
abbrev pub anchor_in : ℕ → Option ℕ
anchor_in k = if is_anchor k then Some k else None

-- how a task takes part in transfers, by its number
abbrev pub manner_at : ℕ → Option Manner
manner_at n = if n == 0 then Some Plain else if n == 1 then Some Deaf else if n == 2 then Some File
    else if n == 3 then Some Raw else None

-- an id, where 0 stands for none
abbrev pub id_in : ℕ → Option ℕ
id_in n = if n == 0 then None else Some n

-- the command that starts a task, where the manner is one
abbrev pub task_form : List ℕ → ℕ → Option Manner → Option Command
task_form name buffer None = None
task_form name buffer (Some manner) = in_form (command.Task name buffer manner)

-- whether a message of this code wants an answer, if it is one that tasks send
abbrev pub recorded_at : ℕ → Option Bool
recorded_at n = if n == 17 then Some false else if n == 18 then Some true else None

-- a message's data, none where there are no bytes
abbrev pub data_in : List ℕ → Option (List ℕ)
data_in [] = None
data_in (b ∷ bytes) = Some (b ∷ bytes)

-- the command that sends a message of any action, where the code is one
abbrev pub send_form : List ℕ → Option Bool → ℕ → ℕ → ℕ → List ℕ → Option Command
send_form name None to yours action bytes = None
send_form name (Some recorded) to yours action bytes =
    in_form (command.Raw (raw.Send name recorded to yours action (data_in bytes)))
