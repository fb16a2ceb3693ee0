-- The number of a made area.
use Rattle.std.specs.Prelude.{ℕ}
use Rattle.rh_tasks.specs.declared.made.MadeArea.{MadeArea}

-- the number of a made area
abbrev pub made_number : MadeArea → ℕ
made_number a = a.number
