-- The tables beside a figure: who has messages, and which transfers there are. Read Figure of rh_figure and Markup
-- first. b is a letterbox, s a side of a transfer, r a row, t a transfer.
use Rattle.std.specs.Prelude.{List, [], ◌∷◌, ◌++◌, map, codes, Option, Some, None}
use Rattle.std.specs.List.{concat, flat_map}
use Rattle.std.specs.Fmt.{decimal}
use Rattle.rh_defs.specs.Text.{state_name}
use Rattle.rh_figure.specs.Phrases.{Text}
use Rattle.rh_figure.specs.Figure.{Letterbox, Side, Transfer}
use Rattle.rh_sheet.specs.Markup.{cell_text}

-- rows below a heading, where there are some
abbrev pub rows_under : Text → List Text → Text
rows_under heading [] = []
rows_under heading (r ∷ rows) =
    concat (heading ∷ flat_map (λ row. row) (r ∷ rows) ∷ codes "</tbody></table>\n" ∷ [])

-- a row of a table
abbrev pub row_of_cells : List Text → Text
row_of_cells cells = concat (codes "<tr>" ∷ (cells ++ codes "</tr>\n" ∷ []))

-- ---- messages

abbrev pub messages_heading : Text
messages_heading =
    codes "<table><caption>Messages</caption>\n" ++ codes "<thead><tr><th>for</th><th>held</th><th>waiting</th></tr>"
    ++ codes "</thead>\n<tbody>\n"

-- a task's name, what it holds, and what waits for it
abbrev pub letterbox_row : Letterbox → Text
letterbox_row b = row_of_cells (cell_text b.name ∷ cell_text b.held ∷ cell_text b.waits ∷ [])

abbrev pub messages_table : List Letterbox → Text
messages_table boxes = rows_under messages_heading (map letterbox_row boxes)

-- ---- transfers

abbrev pub transfers_heading : Text
transfers_heading =
    codes "<table><caption>Transfers</caption>\n<thead><tr><th>id</th><th colspan=\"3\">goes out</th>"
    ++ codes "<th colspan=\"3\">comes in</th></tr></thead>\n<tbody>\n"

-- a side's task, state and count, or three empty cells
abbrev pub side_cells : Option Side → Text
side_cells None = codes "<td></td><td></td><td></td>"
side_cells (Some s) =
    concat (cell_text s.0 ∷ cell_text (state_name s.1.state) ∷ cell_text (decimal s.1.count) ∷ [])

-- a transfer's id, and both sides
abbrev pub transfer_row : Transfer → Text
transfer_row t = row_of_cells (cell_text (decimal t.id) ∷ side_cells t.goes_out ∷ side_cells t.comes_in ∷ [])

abbrev pub transfers_table : List Transfer → Text
transfers_table transfers = rows_under transfers_heading (map transfer_row transfers)
