-- What a run has read and written when it ends.
use Rattle.std.specs.Prelude.{◌≡◌, ℕ, Bool, true, List, IfSome, if◌then◌else◌}
use Rattle.rh_defs.specs.Desk.{Desk}
use Rattle.std.specs.Io.KnownBytes.{Consumes, IsAtEnd}
use Rattle.rh_lines.specs.Flow.{Input, Output, Takes, Breaks}
use Rattle.rh_defs.specs.Script.{ended_text, script_text, has_bad_line}
use Rattle.rh_session.specs.declared.fault.FeedFault.{FeedFault}
use Rattle.rh_session.specs.declared.fault.FeedFault.TheVariants as feed
use Rattle.rh_session.specs.declared.status.RunFault.{RunFault}
use Rattle.rh_session.specs.declared.status.RunFault.TheVariants as run
use Rattle.rh_session.specs.declared.status.Status.{Status}
use Rattle.rh_session.specs.declared.status.Status.TheVariants.{Clean, BadLines}

-- a run is clean exactly where no line was bad
abbrev pub status_of : Bool → Status
status_of bad = if bad then BadLines else Clean

-- the fault of a run whose lines ended early
abbrev pub run_fault_of : FeedFault → RunFault
run_fault_of feed.ReadFailed = run.ReadFailed
run_fault_of feed.WriteFailed = run.WriteFailed
run_fault_of feed.TooLong = run.TooLong

-- the complete lines that were read have been answered, and no write failed
pub record Answered (d : Desk) (before after : Input) (old new : Output) : Type 0 where
  pub bytes : List ℕ
  pub read : Consumes before.left after.left bytes
  pub written : Takes old new (ended_text d bytes)

-- all was read, and its text was written; no call failed
pub record Finished (d : Desk) (before after : Input) (old new : Output) (status : Status) : Type 0 where
  pub bytes : List ℕ
  pub read : Consumes before.left after.left bytes
  pub at_end : IsAtEnd after.left
  pub well : after.failed ≡ before.failed
  pub written : Takes old new (script_text d bytes)
  pub status_is : status ≡ status_of (has_bad_line bytes)

-- the writer failed, and took a front of the script's text
pub record BrokeOff (d : Desk) (before : Input) (old new : Output) : Type 0 where
  pub failed : new.failed ≡ true
  pub written : IfSome before.left (λ script. Breaks old new (script_text d script))
