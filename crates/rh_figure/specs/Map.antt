-- What `map` writes: after each command of a script its reply, what has changed, and the figure, as lines.
-- Read Figure and Rows first. c is a card, g a drawing, p a panel, b a letterbox, t a transfer, f a figure, l a line.
use Rattle.std.specs.Prelude.{ℕ, ◌+◌, ◌-◌, ◌==◌, nat_le, nat_lt, ◌&&◌, ◌||◌, not, Bool, false, if◌then◌else◌, List, [], ◌∷◌, ◌++◌, length, take, map, codes, Option, Some, None, Ok, Err}
use Rattle.std.specs.List.{flat_map, concat}
use Rattle.std.specs.Str.{bytes_eq}
use Rattle.std.specs.Fmt.{decimal}
use Rattle.rh_defs.specs.Bytes.{space}
use Rattle.rh_defs.specs.declared.command.Command.{Command}
use Rattle.rh_defs.specs.declared.reply.Reply.{Reply}
use Rattle.rh_defs.specs.declared.reply.Reply.TheVariants as reply
use Rattle.rh_defs.specs.declared.fault.LineFault.{LineFault}
use Rattle.rh_defs.specs.declared.fault.LineFault.TheVariants.{TooLong, Unended}
use Rattle.rh_defs.specs.Files.{FileList}
use Rattle.rh_defs.specs.Line.{Meaning, line_means, longest_line, words_of, nth_word}
use Rattle.rh_defs.specs.Desk.{Desk}
use Rattle.rh_defs.specs.Commands.{step}
use Rattle.rh_defs.specs.Runs.{start}
use Rattle.rh_defs.specs.Text.{fault_text, state_name}
use Rattle.rh_defs.specs.Script.{ended, unended, meaning_text}
use Rattle.rh_figure.specs.Share.{Share}
use Rattle.rh_figure.specs.Scene.{Scene, Before, before_of, marks_of, is_still, scene_of}
use Rattle.rh_figure.specs.Phrases.{Text, cut, where_so, commas}
use Rattle.rh_figure.specs.Cards.{Card}
use Rattle.rh_figure.specs.Figure.{Drawing, Panel, Letterbox, Side, Transfer, Figure, figure}
use Rattle.rh_figure.specs.Rows.{owner_mark, pool_rows, area_rows}
use Rattle.rh_figure.specs.declared.limits.TheConstants.{MAP_COLUMNS, MOST_REPLY_LINES, REPLY_COLUMNS, LINE_COLUMNS}

-- ---- a figure

-- a card in one line, with a star where it has changed
abbrev pub card_line : Card → Text
card_line c = (if c.fresh then codes "  * " else codes "    ") ++ commas (c.first ∷ c.second ∷ c.third ∷ [])

abbrev pub drawing_lines : Option Drawing → List Text
drawing_lines None = []
drawing_lines (Some g) = area_rows g ++ map card_line g.cards

abbrev pub heading_line : Text → Text → Text
heading_line heading note = heading ++ codes ": " ++ note

-- a heading and a note, and the drawing below
abbrev pub panel_lines : Text → Panel → List Text
panel_lines heading p = heading_line heading p.note ∷ drawing_lines p.drawing

abbrev pub name_with_mark : Text → Text → ℕ → Text
name_with_mark before name mark = concat (before ∷ name ∷ codes " (" ∷ (mark ∷ []) ∷ codes ")" ∷ [])

-- the heading of a slot or of the module area has its character
abbrev pub marked_heading : List Panel → Text → Panel → Text
marked_heading slots before p = name_with_mark before p.name (owner_mark slots p.owner)

abbrev pub letterbox_line : Letterbox → Text
letterbox_line b = concat (
    codes "  for " ∷ b.name ∷ codes ":" ∷ where_so (not (length b.held == 0)) (concat (codes " holds " ∷ b.held
    ∷ codes ";" ∷ []))
    ∷ where_so (not (length b.waits == 0)) (codes " waiting " ++ b.waits) ∷ []
    )

abbrev pub side_text : Text → Option Side → Text
side_text way None = []
side_text way (Some s) = concat (way ∷ s.0 ∷ codes " " ∷ state_name s.1.state ∷ codes " " ∷ decimal s.1.count ∷ [])

abbrev pub sides_text : Text → Text → Text
sides_text out in_ = out ++ where_so (not (length out == 0) && not (length in_ == 0)) (codes "; ") ++ in_

abbrev pub transfer_line : Transfer → Text
transfer_line t = concat (
    codes "  " ∷ decimal t.id ∷ codes ": "
    ∷ sides_text (side_text (codes "out ") t.goes_out) (side_text (codes "in ") t.comes_in) ∷ []
    )

-- lines below a heading, where there are some
abbrev pub under : Text → List Text → List Text
under heading [] = []
under heading (l ∷ ls) = heading ∷ l ∷ ls

abbrev pub pool_line : ℕ → ℕ → Text
pool_line free pages = concat (codes "Pool: " ∷ decimal free ∷ codes " of " ∷ decimal pages ∷ codes " pages free" ∷ [])

abbrev pub pool_heading : Figure → Text
pool_heading f = pool_line f.free (length f.pool)

-- what has changed, an empty line, and the pool, areas, slots, module area, messages and transfers
abbrev pub figure_lines : Figure → List Text
figure_lines f =
    map (λ change. codes "  " ++ change) f.changes
    ++ [] ∷ pool_heading f ∷ (
    pool_rows f
    ++ flat_map (λ (p : Panel). panel_lines p.name p) f.areas
    ++ flat_map (λ (p : Panel). panel_lines (marked_heading f.slots (codes "Slot ") p) p) f.slots
    ++ panel_lines (marked_heading f.slots [] f.module_panel) f.module_panel
    ++ under (codes "Messages") (map letterbox_line f.letterboxes)
    ++ under (codes "Transfers") (map transfer_line f.transfers)
    ++ [] ∷ []
    )

-- ---- a step

abbrev pub more_lines : ℕ → Text
more_lines n = concat (codes "  and " ∷ decimal n ∷ codes " lines more" ∷ [])

-- the first lines of a reply, and how many more there are
abbrev pub reply_lines : List Text → List Text
reply_lines ls =
    map (cut REPLY_COLUMNS) (take MOST_REPLY_LINES ls)
    ++ (if nat_lt MOST_REPLY_LINES (length ls) then more_lines (length ls - MOST_REPLY_LINES) ∷ [] else [])

-- a step: the number of its line in the script, and the line
abbrev pub step_line : ℕ → Text → Text
step_line n line = concat (decimal n ∷ codes "  " ∷ cut LINE_COLUMNS line ∷ [])

-- the step, its reply, and the figure, or that there is none
abbrev pub step_lines : Bool → ℕ → Text → Text → Scene → List Text
step_lines still n line reply x =
    step_line n line
    ∷ (reply_lines (ended reply) ++ (if still then codes "  (memory stays)" ∷ [] ∷ [] else figure_lines (figure x)))

-- a line's command with all that `run` answers to it, and the desk after it with its reply
abbrev pub command_lines : Bool → Share → ℕ → Text → Command → Text → Before → Desk × Reply → List Text
command_lines wanted s n line c said b after = step_lines
    (is_still (Some c) after.1 && not wanted) n line said
    (scene_of after.0 s b (marks_of after.0 b (Some c) after.1))

-- a bad line
abbrev pub fault_lines : Bool → Share → ℕ → Text → LineFault → Desk → List Text
fault_lines wanted s n line fault d = step_lines
    (not wanted) n line (fault_text fault)
    (scene_of d s (before_of d None) (marks_of d (before_of d None) None reply.Done))

-- ---- a script

-- a line of a script with its meaning; the last one may be cut
abbrev pub Read : Type 0
Read = Text × Meaning (Option Command)

abbrev pub read_rest : Text → List Read
read_rest [] = []
read_rest (b ∷ bs) = (b ∷ bs, if nat_lt longest_line (length (b ∷ bs)) then Err TooLong else Err Unended) ∷ []

-- a complete line with its meaning
abbrev pub read_line : Text → Read
read_line line = (line, line_means line)

-- the complete lines of a script, and all that it has
abbrev pub read_ended : List ℕ → List Read
read_ended script = map read_line (ended script)

abbrev pub read_lines : List ℕ → List Read
read_lines script = read_ended script ++ read_rest (unended script)

-- whether a line asks for a picture of the next command
abbrev pub is_mark : Text → Bool
is_mark line = bytes_eq (nth_word (words_of line) 1) (codes "#picture")

-- a line that is skipped, if it has words
abbrev pub remark_lines : Text → List Text
remark_lines line = if length (words_of line) == 0 then [] else cut LINE_COLUMNS line ∷ []

-- where a map stands between two lines: the desk, how many lines are behind it, and whether a mark was seen since the
-- last command
pub record Place : Type 0 where
  pub desk : Desk
  pub lines : ℕ
  pub wanted : Bool

abbrev pub place : Desk → ℕ → Bool → Place
place d n wanted = record { desk = d; lines = n; wanted = wanted }

-- where it stands behind a line
abbrev pub after_read : Place → Read → Place
after_read p (line, Ok None) = place p.desk (p.lines + 1) (p.wanted || is_mark line)
after_read p (line, Ok (Some c)) = place (step p.desk c).0 (p.lines + 1) false
after_read p (line, Err fault) = place p.desk (p.lines + 1) false

-- the lines of one line of a script, where all are shown or marked ones alone, and the pool is shared out so behind it
abbrev pub lines_of_read : Bool → Share → Place → Read → List Text
lines_of_read marked s p (line, Ok None) = if not marked || p.wanted || is_mark line then remark_lines line else []
lines_of_read marked s p (line, Ok (Some c)) =
    if not marked || p.wanted
    then command_lines
    p.wanted s (p.lines + 1) line c (meaning_text p.desk (Ok (Some c))) (before_of p.desk (Some c)) (step p.desk c)
    else []
lines_of_read marked s p (line, Err fault) =
    if not marked || p.wanted then fault_lines p.wanted s (p.lines + 1) line fault p.desk else []

-- a line of a script, and which page is whose behind it
abbrev pub Stage : Type 0
Stage = Read × Share

-- the lines of a map from a place on
abbrev pub map_lines : Bool → Place → List Stage → List Text
map_lines marked p [] = []
map_lines marked p ((r, s) ∷ rest) = lines_of_read marked s p r ++ map_lines marked (after_read p r) rest

-- a byte that a terminal shows, else a question mark
abbrev pub shown_byte : ℕ → ℕ
shown_byte b = if nat_le space b && nat_lt b 127 then b else 63

-- a line as it is written, without its line feed
abbrev pub shown_line : Text → Text
shown_line line = cut MAP_COLUMNS (map shown_byte line)

-- before the first line, over a fresh desk of so many pages with these files
abbrev pub map_start : ℕ → FileList → Place
map_start pages files = place (start pages files) 0 false

-- lines as they are written, each with its line feed
abbrev pub written_lines : List Text → List ℕ
written_lines lines = flat_map (λ line. shown_line line ++ codes "\n") lines

-- all that `map` writes of the lines of a script
abbrev pub map_text : Bool → List Stage → ℕ → FileList → List ℕ
map_text marked stages pages files = written_lines (map_lines marked (map_start pages files) stages)
