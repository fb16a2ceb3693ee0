-- What a line of a script does at a step, however the step is shown.
use Rattle.std.specs.Prelude.{◌≡◌, nat_lt, if◌then◌else◌, length, Option, Some, Ok, Err}
use Rattle.rh_defs.specs.declared.command.Command.{Command}
use Rattle.rh_defs.specs.declared.fault.LineFault.TheVariants.{TooLong, Unended}
use Rattle.rh_defs.specs.declared.reply.Reply.{Reply}
use Rattle.rh_defs.specs.Line.{Meaning, longest_line}
use Rattle.rh_defs.specs.Desk.{Desk}
use Rattle.rh_defs.specs.Commands.{step}
use Rattle.rh_defs.specs.Script.{meaning_text}
use Rattle.rh_figure.specs.Phrases.{Text}
use Rattle.rh_figure.specs.Scene.{Before, is_still, marks_of}

-- what is wrong with a line that was cut
abbrev pub rest_means : Text → Meaning (Option Command)
rest_means rest = if nat_lt longest_line (length rest) then Err TooLong else Err Unended

-- all that `run` answers to a command
abbrev pub reply_to : Desk → Command → Text
reply_to d c = meaning_text d (Ok (Some c))

-- a reply shows of a command what the desk's reply shows
pub record IsLikeReply (d : Desk) (c : Command) (r : Reply) : Type 0 where
  pub still : is_still (Some c) r ≡ is_still (Some c) (step d c).1
  pub marks : (after : Desk) (b : Before) → marks_of after b (Some c) r ≡ marks_of after b (Some c) (step d c).1
