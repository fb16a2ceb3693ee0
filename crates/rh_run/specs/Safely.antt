-- A run in which no transfer lost a byte.
use Rattle.std.specs.Prelude.{ℕ, List}
use Rattle.std.specs.Io.KnownBytes.{Consumes}
use Rattle.rh_defs.specs.Desk.{Desk}
use Rattle.rh_lines.specs.Flow.{Input, Output, Takes}
use Rattle.rh_safety.specs.Safe.{IsSafeScript}

-- bytes were read, what a script of them writes was written, and of its transfers no byte was lost or wrong
pub record RanSafely (writes : Desk → List ℕ → List ℕ) (d : Desk) (before after : Input) (old new : Output) : Type 0 where
  pub script : List ℕ
  pub read : Consumes before.left after.left script
  pub written : Takes old new (writes d script)
  pub safe : IsSafeScript d script
