-- The parts of a step that are written one by one.
use Rattle.std.specs.Prelude.{List, codes, map, ◌++◌}
use Rattle.std.specs.List.{flat_map}
use Rattle.rh_defs.specs.Desk.{Task}
use Rattle.rh_figure.specs.Cards.{Card}
use Rattle.rh_figure.specs.Phrases.{Text}
use Rattle.rh_figure.specs.Scene.{Scene}
use Rattle.rh_figure.specs.Changes.{changes}
use Rattle.rh_figure.specs.Figure.{Panel, area_panels, slot_panel}
use Rattle.rh_figure.specs.Map.{card_line, heading_line, marked_heading, panel_lines}
use Rattle.rh_pictures.specs.Parts.{slot_panels}

-- panels by their names
abbrev pub panel_part : List Panel → List Text
panel_part panels = flat_map (λ (p : Panel). panel_lines p.name p) panels

-- areas that are pages alone
abbrev pub area_part : Scene → List Text
area_part x = panel_part (area_panels x)

-- the heading of a slot alone
abbrev pub slot_heading : Scene → Task → Text
slot_heading x t =
    heading_line (marked_heading (slot_panels x) (codes "Slot ") (slot_panel x t)) (slot_panel x t).note

-- lines behind two spaces
abbrev pub indented : List Text → List Text
indented lines = map (λ line. codes "  " ++ line) lines

abbrev pub change_part : Scene → List Text
change_part x = indented (changes x)

-- cards as lines of a map
abbrev pub card_lines : List Card → List Text
card_lines cards = map card_line cards
