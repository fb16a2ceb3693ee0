-- How the program ends, and its exit status.
use Rattle.std.specs.Prelude.{ℕ, Result, Ok, Err}
use Rattle.rh_session.specs.declared.status.Status.{Status}
use Rattle.rh_session.specs.declared.status.Status.TheVariants as status
use Rattle.rh_session.specs.declared.status.RunFault.{RunFault}
use Rattle.rh_desk.specs.declared.program_end.ProgramEnd.{ProgramEnd}
use Rattle.rh_desk.specs.declared.program_end.ProgramEnd.TheVariants.{Clean, BadLines, WrongWords, Fault}

-- how the outcome of a run ends the program
abbrev pub ending_of : Result Status RunFault → ProgramEnd
ending_of (Ok status.Clean) = Clean
ending_of (Ok status.BadLines) = BadLines
ending_of (Err fault) = Fault

abbrev pub exit_status : ProgramEnd → ℕ
exit_status Clean = 0
exit_status BadLines = 1
exit_status WrongWords = 2
exit_status Fault = 3
