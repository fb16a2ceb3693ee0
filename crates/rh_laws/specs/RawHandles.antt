-- Which tasks have code of their own, by handle. Read RawIds of rh_safety first.
-- raw says it of each handle; d is a desk, h a handle, r a reply. *raw_next* follows one command by its reply, *raw_from*
-- all commands. No handle is given twice, so that this stays true when the task ends.
use Rattle.std.specs.Prelude.{ℕ, Bool, false, List, [], ◌∷◌}
use Rattle.rh_defs.specs.declared.command.Command.{Command}
use Rattle.rh_defs.specs.declared.command.Command.TheVariants as command
use Rattle.rh_defs.specs.declared.reply.Reply.{Reply}
use Rattle.rh_defs.specs.declared.reply.Reply.TheVariants as reply
use Rattle.rh_defs.specs.Desk.{Desk}
use Rattle.rh_defs.specs.Commands.{step}
use Rattle.rh_defs.specs.RawTasks.{is_raw}
use Rattle.rh_safety.specs.Offered.{at_place}

-- by handle, whether its task has code of its own
abbrev pub RawHandles : Type 0
RawHandles = ℕ → Bool

-- a task that was started has the handle that the reply tells
abbrev pub raw_started : RawHandles → Bool → Reply → RawHandles
raw_started raw own_code (reply.Started h) = at_place raw h own_code
raw_started raw own_code _ = raw

-- which handles are theirs after one more command, by the command's reply
abbrev pub raw_next : RawHandles → Command → Reply → RawHandles
raw_next raw (command.Task name buffer manner) r = raw_started raw (is_raw manner) r
raw_next raw _ r = raw

-- after commands
abbrev pub raw_from : RawHandles → Desk → List Command → RawHandles
raw_from raw d [] = raw
raw_from raw d (c ∷ commands) = raw_from (raw_next raw c (step d c).1) (step d c).0 commands

-- whether the task with the handle has, or had, code of its own, in a run of the commands from the desk
abbrev pub is_raw_handle : Desk → List Command → ℕ → Bool
is_raw_handle d commands h = raw_from (λ k. false) d commands h
