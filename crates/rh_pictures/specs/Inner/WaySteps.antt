-- The steps of a transfer's way.
use Rattle.std.specs.Prelude.{ℕ, ◌==◌, if◌then◌else◌, List}
use Rattle.rh_sheet.specs.Chart.{inserted}

-- a step in its place among others, where it is one
abbrev pub with_step : ℕ → List ℕ → List ℕ
with_step step steps = if step == 0 then steps else inserted step steps
