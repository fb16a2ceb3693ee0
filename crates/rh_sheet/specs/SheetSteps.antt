-- A step of a sheet: the command, its reply, what has changed, and the figure. Read Markup, SheetAreas, Pool, Chart and
-- Tables first. x is the scene, l how areas are drawn, t a task, p a panel, step is the number of a step's line in the
-- script, n counts the steps that are shown.
use Rattle.std.specs.Prelude.{ℕ, ◌+◌, ◌-◌, ◌==◌, nat_lt, ◌||◌, not, Bool, if◌then◌else◌, List, [], ◌∷◌, ◌++◌, length, drop, map, codes}
use Rattle.std.specs.List.{concat, flat_map, join_by}
use Rattle.std.specs.Fmt.{decimal}
use Rattle.rh_defs.specs.Bytes.{space}
use Rattle.rh_defs.specs.Desk.{Task, module_pages, module_area}
use Rattle.rh_defs.specs.Script.{ended}
use Rattle.rh_figure.specs.Scene.{Scene}
use Rattle.rh_figure.specs.Phrases.{Text, cut, where_so, pages_text, area_name}
use Rattle.rh_figure.specs.Changes.{changes}
use Rattle.rh_figure.specs.Figure.{Panel, area_panels, is_drawn, slot_note, letterboxes, transfers}
use Rattle.rh_figure.specs.Rows.{trimmed}
use Rattle.rh_figure.specs.Map.{is_mark, reply_lines, shown_byte}
use Rattle.rh_figure.specs.declared.limits.TheConstants.{LINE_COLUMNS}
use Rattle.rh_sheet.specs.Markup.{escape, heading_text, change_item, step_link}
use Rattle.rh_sheet.specs.Pool.{pool_figure}
use Rattle.rh_sheet.specs.SheetAreas.{slot_figure, module_figure}
use Rattle.rh_sheet.specs.Tables.{messages_table, transfers_table}
use Rattle.rh_sheet.specs.Chart.{chart_figure}
use Rattle.rh_sheet.specs.Fates.{Note}

-- ---- the figure

-- how a slot and the module area are drawn
pub record Looks : Type 0 where
  pub slot : Scene → Task → Text
  pub module_area : Scene → Text

-- at true scale, with cards
abbrev pub at_true_scale : Looks
at_true_scale = record { slot = slot_figure; module_area = module_figure }

-- an area that is pages alone
abbrev pub area_heading : Panel → Text
area_heading p = heading_text p.name p.note

-- a slot, of which the bytes are drawn or not
abbrev pub slot_part : Looks → Scene → Task → Text
slot_part l x t = heading_text t.name (slot_note t) ++ where_so (is_drawn x t) (l.slot x t)

abbrev pub module_part : Looks → Scene → Text
module_part l x = heading_text (area_name module_area) (pages_text (module_pages x.desk)) ++ l.module_area x

-- the pool, areas, slots and the module area
abbrev pub memory_text : Looks → Scene → Text
memory_text l x = concat (
    codes "<div class=\"memory\">\n" ∷ pool_figure x ∷ flat_map area_heading (area_panels x)
    ∷ flat_map (slot_part l x) x.desk.tasks ∷ module_part l x ∷ codes "</div>\n" ∷ []
    )

-- whether something stands beside the memory
abbrev pub has_aside : Scene → List Note → Bool
has_aside x notes =
    not (length notes == 0) || not (length (letterboxes x) == 0) || not (length (transfers x) == 0)

-- messages and transfers, if there are some
abbrev pub aside_text : Scene → List Note → ℕ → Text
aside_text x notes step = where_so (has_aside x notes) (concat (
    codes "<aside>\n" ∷ chart_figure x.desk notes step ∷ messages_table (letterboxes x)
    ∷ transfers_table (transfers x) ∷ codes "</aside>\n" ∷ []
    ))

unfoldable pub figure_text : Looks → Scene → List Note → ℕ → Text
figure_text l x notes step = memory_text l x ++ aside_text x notes step

-- ---- what is said

-- a line of a script as it is shown
abbrev pub command_text : Text → Text
command_text line = cut LINE_COLUMNS (map shown_byte line)

-- the lines of a reply that are shown
abbrev pub reply_shown : Text → Text
reply_shown reply = join_by (λ t. t) (codes "\n") (reply_lines (ended reply))

-- the number of the step's line, and its command
abbrev pub command_head : ℕ → Text → Text
command_head step line = concat (
    codes "<h2><b>" ∷ decimal step ∷ codes "</b> <code>" ∷ escape (command_text line) ∷ codes "</code></h2>\n<pre>" ∷ []
    )

-- the number of the step's line, its command and the reply
abbrev pub said_text : ℕ → Text → Text → Text
said_text step line reply =
    concat (command_head step line ∷ escape (reply_shown reply) ∷ codes "</pre>\n" ∷ [])

-- what has changed
abbrev pub changes_text : List Text → Text
changes_text cs = flat_map change_item cs

-- where the last figure is, if there is one
abbrev pub last_figure : ℕ → Text
last_figure last =
    where_so (not (last == 0)) (concat (codes ": see " ∷ step_link last (codes "the last figure") ∷ []))

-- that there is no figure
abbrev pub still_text : ℕ → Text
still_text last =
    concat (codes "<p class=\"still\">Memory stays as it is" ∷ last_figure last ∷ codes ".</p>\n" ∷ [])

-- the end of what is said
abbrev pub said_end : Text
said_end = codes "</div>\n"

-- the end of a step
abbrev pub step_end : Text
step_end = codes "</section>\n"

-- ---- steps

-- a link back, where there is a step before
abbrev pub back_link : ℕ → Text
back_link n = if nat_lt 1 n then step_link (n - 1) (codes "&#9664;") else codes "<span>&#9664;</span>"

-- the beginning of step n of those that are shown, before its remarks
abbrev pub step_open : ℕ → Text
step_open n = concat (
    codes "<section id=\"d" ∷ decimal n ∷ codes "\">\n<div class=\"says\">\n<nav>" ∷ back_link n ∷ codes " "
    ∷ step_link (n + 1) (codes "&#9654;") ∷ codes " <a href=\"#all\">all</a></nav>\n" ∷ []
    )

-- a step without a figure, behind its remarks
abbrev pub still_step : ℕ → Text → Text → ℕ → Text
still_step step line reply last = concat (said_text step line reply ∷ still_text last ∷ said_end ∷ step_end ∷ [])

-- a step with one
abbrev pub drawn_step : Looks → ℕ → Text → Text → Scene → List Note → Text
drawn_step l step line reply x notes = concat (
    said_text step line reply ∷ changes_text (changes x) ∷ said_end ∷ figure_text l x notes step ∷ step_end ∷ []
    )

-- a step behind its remarks; the last figure is that of a step, or there is none yet
abbrev pub step_text : Looks → Bool → ℕ → Text → Text → Scene → List Note → ℕ → Text
step_text l still step line reply x notes last =
    if still then still_step step line reply last else drawn_step l step line reply x notes

-- ---- remarks

-- a byte of a remark as it is shown: a space in place of one below 32, and of 127
abbrev pub remark_byte : ℕ → ℕ
remark_byte b = if nat_lt b space || b == 127 then space else b

-- a text without spaces at its beginning
abbrev pub without_indent : Text → Text
without_indent [] = []
without_indent (b ∷ bs) = if b == space then without_indent bs else b ∷ bs

-- a text without spaces at its ends
abbrev pub stripped : Text → Text
stripped t = trimmed (without_indent t)

-- so many bytes of a remark are its sign: `#picture`, or `#`
abbrev pub sign_length : Text → ℕ
sign_length line = if is_mark line then 8 else 1

-- the words of a remark, without its sign
abbrev pub remark_words : Text → Text
remark_words line = stripped (drop (sign_length line) (without_indent (map remark_byte line)))

abbrev pub remark_class : Text → Text
remark_class line = if is_mark line then codes "title" else codes "remark"

-- a remark of some class, and if it has words
abbrev pub some_remark : Text → Text → Text
some_remark class words = concat (codes "<p class=\"" ∷ class ∷ codes "\">" ∷ escape words ∷ codes "</p>\n" ∷ [])

abbrev pub remark_of : Text → Text → Text
remark_of class words = if length words == 0 then [] else some_remark class words

abbrev pub remark_text : Text → Text
remark_text line = remark_of (remark_class line) (remark_words line)
