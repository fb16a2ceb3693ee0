-- The lines of a figure, part by part.
use Rattle.std.specs.Prelude.{List, [], ◌∷◌, codes, map}
use Rattle.std.specs.List.{flat_map}
use Rattle.rh_defs.specs.Desk.{Task}
use Rattle.rh_figure.specs.Phrases.{Text}
use Rattle.rh_figure.specs.Scene.{Scene}
use Rattle.rh_figure.specs.Figure.{Panel, figure, slot_panel, panel_of_module, letterboxes, transfers}
use Rattle.rh_figure.specs.Map.{panel_lines, marked_heading, letterbox_line, transfer_line, under, pool_heading}
use Rattle.rh_figure.specs.Rows.{pool_rows}

-- the panels of all slots
abbrev pub slot_panels : Scene → List Panel
slot_panels x = map (slot_panel x) x.desk.tasks

-- how many pages of the pool are free, and whose they are
abbrev pub pool_part : Scene → List Text
pool_part x = pool_heading (figure x) ∷ pool_rows (figure x)

-- the heading of a slot, and what lies in it where it is drawn
abbrev pub slot_lines : Scene → Task → List Text
slot_lines x t = panel_lines (marked_heading (slot_panels x) (codes "Slot ") (slot_panel x t)) (slot_panel x t)

-- all slots
abbrev pub lines_of_slots : Scene → List Text
lines_of_slots x = flat_map (slot_lines x) x.desk.tasks

-- the module area
abbrev pub lines_of_module : Scene → List Text
lines_of_module x = panel_lines (marked_heading (slot_panels x) [] (panel_of_module x)) (panel_of_module x)

-- what each task holds, and what waits for it
abbrev pub letter_part : Scene → List Text
letter_part x = under (codes "Messages") (map letterbox_line (letterboxes x))

-- transfers, with the record of either side
abbrev pub transfer_part : Scene → List Text
transfer_part x = under (codes "Transfers") (map transfer_line (transfers x))
