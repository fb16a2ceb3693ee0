-- How far a sheet has come.
use Rattle.std.specs.Prelude.{ℕ, ◌+◌, Bool, false, Option, if◌then◌else◌}
use Rattle.rh_pictures.specs.LensSizes.{LensSize}

-- how many lines are behind it, and whether a mark was seen since the last command; how many commands are shown, which of
-- those has the last figure, and how many are left out; whether the next step was begun; and the lens through which areas
-- are drawn, if there is one
pub record PaintStand : Type 0 where
  pub lines : ℕ
  pub wanted : Bool
  pub shown : ℕ
  pub last : ℕ
  pub left : ℕ
  pub opened : Bool
  pub lens : Option LensSize

-- before the first line
abbrev pub stand_first : Option LensSize → PaintStand
stand_first lens = record { lines = 0; wanted = false; shown = 0; last = 0; left = 0; opened = false; lens = lens }

-- behind the step of a command, with a figure or without
abbrev pub stand_shown : Bool → PaintStand → PaintStand
stand_shown still p =
    record p { shown = p.shown + 1; last = if still then p.last else p.shown + 1; opened = false }
