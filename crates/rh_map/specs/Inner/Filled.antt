-- A text that is written as far as a line shows it.
use Rattle.std.specs.Prelude.{◌≡◌, ◌≤◌, [], ◌++◌, length}
use Rattle.rh_figure.specs.Phrases.{Text}
use Rattle.rh_figure.specs.declared.limits.TheConstants.{MAP_COLUMNS}

-- a text that is written as far as a line shows it: all of it, or a front that is longer than a line
pub record Fills (row text : Text) : Type 0 where
  pub rest : Text
  pub whole : text ≡ row ++ rest
  pub full : length row ≤ MAP_COLUMNS → rest ≡ []
