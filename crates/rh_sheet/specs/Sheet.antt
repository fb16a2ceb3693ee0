-- What `draw` writes: one sheet of HTML with a figure of memory after each command of a script. Read SheetSteps first.
-- x is where the sheet stands between two lines, n a number of steps, left a number of commands without a step.
use Rattle.std.specs.Prelude.{ℕ, ◌+◌, ◌==◌, nat_lt, ◌&&◌, ◌||◌, not, Bool, true, if◌then◌else◌, List, [], ◌∷◌, ◌++◌, length, map, codes, Some, None, Ok, Err}
use Rattle.std.specs.List.{concat, flat_map, range_with_len}
use Rattle.std.specs.Fmt.{decimal}
use Rattle.rh_defs.specs.declared.command.Command.{Command}
use Rattle.rh_defs.specs.declared.reply.Reply.{Reply}
use Rattle.rh_defs.specs.declared.reply.Reply.TheVariants as reply
use Rattle.rh_defs.specs.declared.fault.LineFault.{LineFault}
use Rattle.rh_defs.specs.Line.{words_of}
use Rattle.rh_defs.specs.Desk.{Desk}
use Rattle.rh_defs.specs.Commands.{step}
use Rattle.rh_defs.specs.Text.{fault_text}
use Rattle.rh_defs.specs.Script.{meaning_text}
use Rattle.rh_figure.specs.Share.{Share}
use Rattle.rh_figure.specs.Scene.{Scene, Before, before_of, marks_of, is_still, scene_of}
use Rattle.rh_figure.specs.Phrases.{Text, where_so}
use Rattle.rh_figure.specs.Map.{Place, Read, Stage, after_read, is_mark}
use Rattle.rh_sheet.specs.declared.sizes.TheConstants.{MOST_STEPS}
use Rattle.rh_sheet.specs.Markup.{escape, step_link}
use Rattle.rh_sheet.specs.Fixed.{style_text, signs_text, key_text}
use Rattle.rh_sheet.specs.Pool.{grid_text}
use Rattle.rh_sheet.specs.Fates.{Note, noted}
use Rattle.rh_sheet.specs.SheetSteps.{Looks, step_open, step_text, remark_byte, remark_text, said_end, step_end}

-- ---- head and foot

-- the head of a sheet with a title
abbrev pub title_text : Text → Text
title_text name = concat (
    codes "<!DOCTYPE html>\n<html lang=\"en\" xmlns=\"http://www.w3.org/1999/xhtml\">\n<head>\n<meta charset=\"utf-8\"/>\n"
    ∷ codes "<meta name=\"viewport\" content=\"width=device-width, initial-scale=1\"/>\n<title>" ∷ escape (map remark_byte name)
    ∷ codes "</title>\n<style>\n" ∷ style_text ∷ codes "</style>\n</head>\n" ∷ []
    )

-- what the figures of a sheet share: patterns, arrowheads, and the grid of the pool
abbrev pub shared_text : ℕ → Text
shared_text pages = concat (
    codes "<svg class=\"defs\" aria-hidden=\"true\"><defs>\n" ∷ signs_text ∷ grid_text pages ∷ codes "</defs></svg>\n" ∷ []
    )

-- the beginning of a sheet over so many pages: its name, and how its figures are read
abbrev pub sheet_head : Text → ℕ → Text
sheet_head name pages = concat (
    title_text name ∷ codes "<body id=\"all\">\n" ∷ shared_text pages ∷ codes "<header><h1>"
    ∷ escape (map remark_byte name)
    ∷ codes "</h1>\n" ∷ key_text ∷ codes "</header>\n<main>\n" ∷ []
    )

-- how many commands have no step, if some have none
abbrev pub left_text : ℕ → Text
left_text left =
    where_so (not (left == 0)) (concat (codes "<p>Commands not drawn: " ∷ decimal left ∷ codes ".</p>\n" ∷ []))

-- a link to step n by its number
abbrev pub numbered_link : ℕ → Text
numbered_link n = step_link n (decimal n) ++ codes "\n"

-- the beginning of the links, where step n would stand
abbrev pub links_begin : ℕ → Text
links_begin n = concat (codes "</main>\n<nav id=\"d" ∷ decimal n ∷ codes "\">\n" ∷ [])

-- the end of a sheet of n steps, with a link to each
abbrev pub sheet_foot : ℕ → ℕ → Text
sheet_foot n left = concat (
    left_text left ∷ links_begin (n + 1) ∷ flat_map numbered_link (range_with_len 1 n)
    ∷ codes "</nav>\n</body>\n</html>\n" ∷ []
    )

-- ---- from line to line

-- Where a sheet stands between two lines: where a map would; how many steps it has, the last one with a figure, and how
-- many commands have none; whether a step was begun by a remark; what is kept of the last messages; and how areas are
-- drawn, which stays.
pub record Walk : Type 0 where
  pub place : Place
  pub shown : ℕ
  pub last : ℕ
  pub left : ℕ
  pub opened : Bool
  pub notes : List Note
  pub looks : Looks

-- whether the next command gets a step, where a mark was seen or not
abbrev pub is_shown : Bool → Walk → Bool → Bool
is_shown marked x wanted = nat_lt x.shown MOST_STEPS && (not marked || wanted)

-- the beginning of the next step, if no remark has written it
abbrev pub opening : Walk → Text
opening x = if x.opened then [] else step_open (x.shown + 1)

-- a command, or none for a bad line, with what stands before and behind it
pub record Happened : Type 0 where
  pub scene : Scene
  pub reply : Text
  pub still : Bool

-- a command with all that `run` answers to it, and the desk after it with its reply
abbrev pub command_happened : Share → Command → Text → Before → Desk × Reply → Happened
command_happened s c said b after = record {
  scene = scene_of after.0 s b (marks_of after.0 b (Some c) after.1);
  reply = said;
  still = is_still (Some c) after.1;
}

-- what a line with a command does on a desk
abbrev pub command_on : Share → Command → Desk → Happened
command_on s c d = command_happened s c (meaning_text d (Ok (Some c))) (before_of d (Some c)) (step d c)

abbrev pub fault_happened : Share → LineFault → Desk → Happened
fault_happened s fault d = record {
  scene = scene_of d s (before_of d None) (marks_of d (before_of d None) None reply.Done);
  reply = fault_text fault;
  still = true;
}

-- the step of a line that isn't skipped
abbrev pub shown_step : Walk → Text → Happened → Text
shown_step x line h = opening x ++ step_text
    x.looks (h.still && not x.place.wanted) (x.place.lines + 1) line h.reply h.scene
    (noted (x.place.lines + 1) h.scene x.notes) x.last

-- where the sheet stands behind a line that isn't skipped, if it gets a step or not
abbrev pub behind_step : Bool → Walk → Read → Happened → Walk
behind_step shown x r h = record {
  place = after_read x.place r;
  shown = if shown then x.shown + 1 else x.shown;
  last = if shown && not (h.still && not x.place.wanted) then x.shown + 1 else x.last;
  left = if shown then x.left else x.left + 1;
  opened = x.opened && not shown;
  notes = noted (x.place.lines + 1) h.scene x.notes;
  looks = x.looks;
}

-- what is written of a line that isn't skipped
abbrev pub happened_text : Bool → Walk → Text → Happened → Text
happened_text marked x line h = where_so (is_shown marked x x.place.wanted) (shown_step x line h)

-- where the sheet stands behind it
abbrev pub behind_happened : Bool → Walk → Read → Happened → Walk
behind_happened marked x r h = behind_step (is_shown marked x x.place.wanted) x r h

-- whether a line that is skipped is shown: it has words, and the next command would get a step
abbrev pub is_shown_remark : Bool → Walk → Text → Bool
is_shown_remark marked x line =
    not (length (words_of line) == 0) && is_shown marked x (x.place.wanted || is_mark line)

-- what is written of a line that is skipped
abbrev pub skipped_text : Bool → Walk → Text → Text
skipped_text marked x line = where_so (is_shown_remark marked x line) (opening x ++ remark_text line)

-- where the sheet stands behind it
abbrev pub behind_skipped : Bool → Walk → Read → Walk
behind_skipped marked x r =
    record x { place = after_read x.place r; opened = x.opened || is_shown_remark marked x r.0 }

-- what is written of a line with its meaning, where the pool is shared out so behind it
abbrev pub read_text : Bool → Share → Walk → Read → Text
read_text marked s x (line, Ok None) = skipped_text marked x line
read_text marked s x (line, Ok (Some c)) = happened_text marked x line (command_on s c x.place.desk)
read_text marked s x (line, Err fault) = happened_text marked x line (fault_happened s fault x.place.desk)

-- where the sheet stands behind it
abbrev pub behind_read : Bool → Share → Walk → Read → Walk
behind_read marked s x (line, Ok None) = behind_skipped marked x (line, Ok None)
behind_read marked s x (line, Ok (Some c)) =
    behind_happened marked x (line, Ok (Some c)) (command_on s c x.place.desk)
behind_read marked s x (line, Err fault) =
    behind_happened marked x (line, Err fault) (fault_happened s fault x.place.desk)

-- the end of a step that a remark has begun and no command has ended
abbrev pub open_rest : Walk → Text
open_rest x = where_so x.opened (said_end ++ step_end)

-- how many steps were begun
abbrev pub steps_begun : Walk → ℕ
steps_begun x = if x.opened then x.shown + 1 else x.shown

-- the end of a sheet
abbrev pub sheet_end : Walk → Text
sheet_end x = open_rest x ++ sheet_foot (steps_begun x) x.left

-- a sheet from a line on
abbrev pub sheet_lines : Bool → Walk → List Stage → Text
sheet_lines marked x [] = sheet_end x
sheet_lines marked x ((r, s) ∷ rest) = read_text marked s x r ++ sheet_lines marked (behind_read marked s x r) rest
