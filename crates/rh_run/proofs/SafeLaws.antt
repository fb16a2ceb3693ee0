-- A run over a fresh desk loses no byte of a transfer.
use Rattle.std.proofs.Common.{ℕ, ◌≤◌}
use Rattle.rh_defs.specs.declared.sizes.TheConstants.{MIN_PAGES}
use Rattle.rh_defs.specs.Forms.{most_pages}
use Rattle.rh_defs.specs.Files.{FileList}
use Rattle.rh_defs.specs.Runs.{start}
use Rattle.rh_defs.specs.Script.{ended_text, script_text}
use Rattle.rh_lines.specs.Flow.{Input, Output}
use Rattle.rh_session.specs.declared.status.Status.{Status}
use Rattle.rh_session.specs.Outcome.{Answered, Finished}
use Rattle.rh_safety.proofs.Played.{scripts_are_safe}
use Rattle.rh_run.specs.Safely.{RanSafely}

module _ (pages : ℕ) (files : FileList) (least : MIN_PAGES ≤ pages) (most : pages ≤ most_pages) {before after : Input} {old new : Output} where
  -- where the whole script was read
  pub finished_safely : (status : Status) → Finished (start pages files) before after old new status
      → RanSafely script_text (start pages files) before after old new
  finished_safely status f = record {
    script = f.bytes;
    read = f.read;
    written = f.written;
    safe = scripts_are_safe pages files f.bytes least most;
  }

  -- where it ended early
  pub answered_safely : Answered (start pages files) before after old new → RanSafely ended_text (start pages files) before after old new
  answered_safely a = record {
    script = a.bytes;
    read = a.read;
    written = a.written;
    safe = scripts_are_safe pages files a.bytes least most;
  }
