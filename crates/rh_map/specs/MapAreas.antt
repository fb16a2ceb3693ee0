-- The scrap file as an area's line has it.
use Rattle.std.specs.Prelude.{[], Option, Some, None}
use Rattle.rh_figure.specs.Phrases.{Text}
use Rattle.rh_figure.specs.Figure.{scrap_note}
use Rattle.rh_map.specs.declared.areas.ScrapLine.{ScrapLine}

abbrev pub scrap_note_of : Option ScrapLine → Text
scrap_note_of None = []
scrap_note_of (Some s) = scrap_note s.size s.load
