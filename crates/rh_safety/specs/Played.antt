-- Lists of commands that start no task with code of its own: the desk plays all tasks. Read RawIds first.
-- P is what holds of a desk and such a list, or of the desk after one.
use Rattle.std.specs.Prelude.{◌≡◌, ℕ, true, false, List}
use Rattle.rh_defs.specs.declared.command.Command.{Command}
use Rattle.rh_defs.specs.Range.{all_in_range}
use Rattle.rh_defs.specs.Files.{FileList}
use Rattle.rh_defs.specs.Desk.{Desk}
use Rattle.rh_defs.specs.Runs.{start_with, after}
use Rattle.rh_defs.specs.Laws.{IsStart}
use Rattle.rh_safety.specs.RawIds.{has_raw}

-- P holds of each such list in range, from each start
abbrev pub WherePlayed : (Desk → List Command → Type 0) → Type 0
WherePlayed P =
    (pool handle ref : ℕ) (files : FileList) (commands : List Command) → IsStart pool handle ref →
    all_in_range commands ≡ true → has_raw commands ≡ false → P (start_with pool files handle ref) commands

-- P holds of the desk after each such list
abbrev pub AfterPlayed : (Desk → Type 0) → Type 0
AfterPlayed P = WherePlayed (λ d commands. P (after d commands))
