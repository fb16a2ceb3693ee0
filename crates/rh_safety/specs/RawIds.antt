-- Which refs tasks with code of their own gave to what they sent. Read Offered first.
-- d is a desk, ref a ref, which is the id of a transfer where it is that of a DataSave, r a reply. *gave_next* follows
-- one command by its reply, *gave_from* all commands.
use Rattle.std.specs.Prelude.{ℕ, Bool, true, false, if◌then◌else◌, List, [], ◌∷◌, find}
use Rattle.std.specs.List.{list_any}
use Rattle.rh_defs.specs.declared.command.Command.{Command}
use Rattle.rh_defs.specs.declared.command.Command.TheVariants as command
use Rattle.rh_defs.specs.declared.raw_command.RawCommand.TheVariants as raw
use Rattle.rh_defs.specs.declared.reply.Reply.{Reply}
use Rattle.rh_defs.specs.declared.reply.Reply.TheVariants as reply
use Rattle.rh_defs.specs.Desk.{Desk, has_name}
use Rattle.rh_defs.specs.RawTasks.{is_raw, is_raw_task}
use Rattle.rh_defs.specs.Commands.{step}
use Rattle.rh_safety.specs.Offered.{at_place}

-- by ref, whether such a task gave it
abbrev pub Gave : Type 0
Gave = ℕ → Bool

-- the ref that a reply tells is one of theirs
abbrev pub gave_sent : Gave → Reply → Gave
gave_sent gave (reply.Sent ref) = at_place gave ref true
gave_sent gave _ = gave

-- what each ref is after one more command, by the command's reply
abbrev pub gave_next : Gave → Desk → Command → Reply → Gave
gave_next gave d (command.Raw (raw.Send name recorded to ref a bytes)) r = gave_sent gave r
gave_next gave d (command.Raw (raw.Spool name k to ref)) r = gave_sent gave r
gave_next gave d (command.Repeat name) r =
    if is_raw_task (find (has_name name) d.tasks) then gave_sent gave r else gave
gave_next gave d _ r = gave

-- after commands
abbrev pub gave_from : Gave → Desk → List Command → Gave
gave_from gave d [] = gave
gave_from gave d (c ∷ commands) = gave_from (gave_next gave d c (step d c).1) (step d c).0 commands

-- whether a task with code of its own gave the ref, in a run of the commands from the desk
abbrev pub is_raw_id : Desk → List Command → ℕ → Bool
is_raw_id d commands id = gave_from (λ i. false) d commands id

-- whether a command starts such a task
abbrev pub starts_raw : Command → Bool
starts_raw (command.Task name buffer manner) = is_raw manner
starts_raw c = false

-- whether one of the commands does
abbrev pub has_raw : List Command → Bool
has_raw commands = list_any starts_raw commands
