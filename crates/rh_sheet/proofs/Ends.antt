-- A sheet ends where it has to: its head, its steps one by one, and its foot.
use Rattle.rh_sheet.proofs.Reading.{Same, Fixed, Stays, Goes, through, on, Whole, Value, whole-both, whole-if, whole-none, whole-so, whole-all, value-if, plain}
use Rattle.rh_sheet.proofs.Reading.{decimal-whole, decimal-value, escape-whole}
use Rattle.rh_sheet.proofs.Elements.{heading-whole, cell-whole, change-whole, link-whole}
use Rattle.rh_sheet.proofs.Figures.{grid-whole, pool-whole, slot-whole, module-whole, chart-whole}
use Rattle.std.proofs.Common.{ℕ, ◌+◌, ◌-◌, Bool, true, false, refl, sym, ap, ◌∙◌, List, [], ◌∷◌, ◌++◌, length, map, Option, Some, None, Ok, Err}
use Rattle.std.specs.Prelude.{◌==◌, nat_lt, not, ◌||◌, ◌&&◌, if◌then◌else◌, codes}
use Rattle.std.specs.List.{flat_map, range_with_len}
use Rattle.std.specs.Fmt.{decimal}
use Rattle.rh_defs.specs.Desk.{Task, module_pages, module_area}
use Rattle.rh_defs.specs.Text.{state_name}
use Rattle.rh_figure.specs.Phrases.{Text, where_so, pages_text, area_name}
use Rattle.rh_figure.specs.Scene.{Scene}
use Rattle.rh_figure.specs.Share.{Share}
use Rattle.rh_figure.specs.Map.{Read, Stage}
use Rattle.rh_figure.specs.Figure.{Panel, Letterbox, Side, Transfer, area_panels, is_drawn, slot_note, letterboxes, transfers}
use Rattle.rh_figure.specs.Changes.{changes}
use Rattle.rh_sheet.specs.Markup.{escape, step_link, change_item}
use Rattle.rh_sheet.specs.Fixed.{style_text, signs_text, key_text}
use Rattle.rh_sheet.specs.Pool.{grid_text, pool_figure}
use Rattle.rh_sheet.specs.Tables
use Rattle.rh_sheet.specs.Chart.{arrows, chart_figure}
use Rattle.rh_sheet.specs.Fates.{Note, noted}
use Rattle.rh_sheet.specs.SheetSteps as steps
use Rattle.rh_sheet.specs.Sheet
use Rattle.rh_sheet.specs.WellFormed.{AreWhole, Reader, Words, read_on, EndsAll}

-- ---- fixed texts

pub style-whole : Whole style_text
unfolding style_text
style-whole = record { reads = λ around. refl }

signs-whole : Whole signs_text
unfolding signs_text
signs-whole = record { reads = λ around. refl }

pub key-whole : Whole key_text
unfolding key_text
key-whole = record { reads = λ around. refl }

-- ---- tables

abbrev pub In : Text → List Text → Reader
In name around = (name ∷ around, Words)

-- inside a table's body
abbrev body : List Text → Reader
body around = In (codes "ydobt") (codes "elbat" ∷ around)

mapped-whole : {X : Type 0} (f : X → Text) (xs : List X) → ((x : X) → Whole (f x)) → Whole (flat_map (λ row. row) (map f xs))
mapped-whole f [] each = whole-none
mapped-whole f (x ∷ xs) each = whole-both (f x) (flat_map (λ row. row) (map f xs)) (each x) (mapped-whole f xs each)

table-whole : {X : Type 0} (heading : Text) (f : X → Text) (xs : List X)
    → ((around : List Text) → Same (read_on (around, Words) heading) (body around)) → ((x : X) → Whole (f x))
    → Whole (Tables.rows_under heading (map f xs))
table-whole heading f [] opens each = whole-none
table-whole heading f (x ∷ xs) opens each = record {
  reads = λ around. through
      (around, Words)
      (Goes heading (body around) ∷ Stays (flat_map (λ row. row) (map f (x ∷ xs))) ∷ Fixed (codes "</tbody></table>\n") ∷ [])
      (opens around, ((mapped-whole f (x ∷ xs) each).reads (codes "ydobt" ∷ codes "elbat" ∷ around), tt));
}

row-whole : (a b c : Text) → Whole a → Whole b → Whole c → Whole (Tables.row_of_cells (a ∷ b ∷ c ∷ []))
row-whole a b c first second third = record {
  reads = λ around. through
      (around, Words) (Fixed (codes "<tr>") ∷ Stays a ∷ Stays b ∷ Stays c ∷ Fixed (codes "</tr>\n") ∷ [])
      (first.reads (codes "rt" ∷ around), (second.reads (codes "rt" ∷ around), (third.reads (codes "rt" ∷ around), tt)));
}

side-whole : (side : Option Side) → Whole (Tables.side_cells side)
side-whole None = record { reads = λ around. refl }
side-whole (Some s) = whole-both
    _ _ (cell-whole s.0)
    (whole-both _ _ (cell-whole (state_name s.1.state)) (whole-both _ [] (cell-whole (decimal s.1.count)) whole-none))

messages-whole : (boxes : List Letterbox) → Whole (Tables.messages_table boxes)
messages-whole boxes = table-whole
    Tables.messages_heading Tables.letterbox_row boxes (λ around. refl)
    (λ b. row-whole _ _ _ (cell-whole b.name) (cell-whole b.held) (cell-whole b.waits))

transfers-whole : (ts : List Transfer) → Whole (Tables.transfers_table ts)
transfers-whole ts = table-whole
    Tables.transfers_heading Tables.transfer_row ts (λ around. refl)
    (λ t. row-whole _ _ _ (cell-whole (decimal t.id)) (side-whole t.goes_out) (side-whole t.comes_in))

-- ---- the figure of a step

heading : (x : Scene) (p : Panel) → Whole (steps.area_heading p)
heading x p = heading-whole p.name p.note

pub true-scale-whole : AreWhole steps.at_true_scale
true-scale-whole = record { slot = λ x t. (slot-whole x t).reads; module_area = λ x. (module-whole x).reads }

part-whole : (l : steps.Looks) → AreWhole l → (x : Scene) (t : Task) → Whole (steps.slot_part l x t)
part-whole l looks x t = whole-both
    _ (where_so (is_drawn x t) (l.slot x t)) (heading-whole t.name (slot_note t))
    (whole-so (is_drawn x t) (l.slot x t) (record { reads = looks.slot x t }))

module-part-whole : (l : steps.Looks) → AreWhole l → (x : Scene) → Whole (steps.module_part l x)
module-part-whole l looks x = whole-both
    _ _ (heading-whole (area_name module_area) (pages_text (module_pages x.desk))) (record { reads = looks.module_area x })

memory-whole : (l : steps.Looks) → AreWhole l → (x : Scene) → Whole (steps.memory_text l x)
memory-whole l looks x = record {
  reads = λ around. through
      (around, Words)
      (Fixed (codes "<div class=\"memory\">\n") ∷ Stays (pool_figure x) ∷ Stays (flat_map steps.area_heading (area_panels x))
      ∷ Stays (flat_map (steps.slot_part l x) x.desk.tasks) ∷ Stays (steps.module_part l x) ∷ Fixed (codes "</div>\n") ∷ []) (
        (pool-whole x).reads (codes "vid" ∷ around),
        (
          (whole-all steps.area_heading (area_panels x) (heading x)).reads (codes "vid" ∷ around),
          (
            (whole-all (steps.slot_part l x) x.desk.tasks (part-whole l looks x)).reads (codes "vid" ∷ around),
            ((module-part-whole l looks x).reads (codes "vid" ∷ around), tt),
          ),
        ),
      );
}

aside-whole : (x : Scene) (notes : List Note) (step : ℕ) → Whole (steps.aside_text x notes step)
aside-whole x notes step = whole-so (steps.has_aside x notes) _ (record {
  reads = λ around. through
      (around, Words)
      (Fixed (codes "<aside>\n") ∷ Stays (chart_figure x.desk notes step) ∷ Stays (Tables.messages_table (letterboxes x))
      ∷ Stays (Tables.transfers_table (transfers x)) ∷ Fixed (codes "</aside>\n") ∷ []) (
        (chart-whole x.desk (arrows notes) step).reads (codes "edisa" ∷ around),
        (
          (messages-whole (letterboxes x)).reads (codes "edisa" ∷ around),
          ((transfers-whole (transfers x)).reads (codes "edisa" ∷ around), tt),
        ),
      );
})

figure-whole : (l : steps.Looks) → AreWhole l → (x : Scene) (notes : List Note) (step : ℕ) → Whole (steps.figure_text l x notes step)
unfolding steps.figure_text
figure-whole l looks x notes step =
    whole-both (steps.memory_text l x) (steps.aside_text x notes step) (memory-whole l looks x) (aside-whole x notes step)

-- ---- what is said

pub command-ends : (step : ℕ) (line : Text) (around : List Text)
    → Same (read_on (around, Words) (steps.command_head step line)) (In (codes "erp") around)
command-ends step line around = through
    (around, Words)
    (Fixed (codes "<h2><b>") ∷ Stays (decimal step) ∷ Fixed (codes "</b> <code>") ∷ Stays (escape (steps.command_text line))
    ∷ Fixed (codes "</code></h2>\n<pre>") ∷ []) (
      (decimal-whole step).reads (codes "b" ∷ codes "2h" ∷ around),
      ((escape-whole (steps.command_text line)).reads (codes "edoc" ∷ codes "2h" ∷ around), tt),
    )

pub said-whole : (step : ℕ) (line reply : Text) → Whole (steps.said_text step line reply)
said-whole step line reply = record {
  reads = λ around. through
      (around, Words)
      (Goes (steps.command_head step line) (In (codes "erp") around) ∷ Stays (escape (steps.reply_shown reply)) ∷ Fixed (codes "</pre>\n") ∷ [])
      (command-ends step line around, ((escape-whole (steps.reply_shown reply)).reads (codes "erp" ∷ around), tt));
}

last-whole : (last : ℕ) → Whole (steps.last_figure last)
last-whole last = whole-so (not (last == 0)) _ (record {
  reads = λ around. through
      (around, Words) (Fixed (codes ": see ") ∷ Stays (step_link last (codes "the last figure")) ∷ [])
      ((link-whole last (codes "the last figure") (record { reads = λ around. refl })).reads around, tt);
})

still-whole : (last : ℕ) → Whole (steps.still_text last)
still-whole last = record {
  reads = λ around. through
      (around, Words)
      (Fixed (codes "<p class=\"still\">Memory stays as it is") ∷ Stays (steps.last_figure last) ∷ Fixed (codes ".</p>\n") ∷ [])
      ((last-whole last).reads (codes "p" ∷ around), tt);
}

-- ---- a step, from behind its beginning to its end

-- inside of what is said at a step
abbrev pub says : List Text → Reader
says around = In (codes "vid") (codes "noitces" ∷ around)

pub step-opens : (n : ℕ) (around : List Text) → Same (read_on (around, Words) (steps.step_open n)) (says around)
step-opens n around = through
    (around, Words)
    (Fixed (codes "<section id=\"d") ∷ Stays (decimal n) ∷ Fixed (codes "\">\n<div class=\"says\">\n<nav>") ∷ Stays (steps.back_link n)
    ∷ Fixed (codes " ") ∷ Stays (step_link (n + 1) (codes "&#9654;")) ∷ Fixed (codes " <a href=\"#all\">all</a></nav>\n") ∷ []) (
      (decimal-value n).reads around (codes "noitces"),
      (
        (whole-if
            (nat_lt 1 n) (step_link (n - 1) (codes "&#9664;")) (codes "<span>&#9664;</span>")
            (link-whole (n - 1) (codes "&#9664;") (record { reads = λ around. refl })) (record { reads = λ around. refl })).reads
            (codes "van" ∷ codes "vid" ∷ codes "noitces" ∷ around),
        ((link-whole (n + 1) (codes "&#9654;") (record { reads = λ around. refl })).reads (codes "van" ∷ codes "vid" ∷ codes "noitces" ∷ around), tt),
      ),
    )

step-ends : (l : steps.Looks) → AreWhole l → (still : Bool) (step : ℕ) (line reply : Text) (x : Scene) (notes : List Note) (last : ℕ)
    (around : List Text) → Same (read_on (says around) (steps.step_text l still step line reply x notes last)) (around, Words)
step-ends l looks true step line reply x notes last around = through
    (says around)
    (Stays (steps.said_text step line reply) ∷ Stays (steps.still_text last) ∷ Fixed steps.said_end ∷ Fixed steps.step_end ∷ []) (
      (said-whole step line reply).reads (codes "vid" ∷ codes "noitces" ∷ around),
      ((still-whole last).reads (codes "vid" ∷ codes "noitces" ∷ around), tt),
    )
step-ends l looks false step line reply x notes last around = through
    (says around)
    (Stays (steps.said_text step line reply) ∷ Stays (steps.changes_text (changes x)) ∷ Fixed steps.said_end
    ∷ Stays (steps.figure_text l x notes step) ∷ Fixed steps.step_end ∷ []) (
      (said-whole step line reply).reads (codes "vid" ∷ codes "noitces" ∷ around),
      (
        (whole-all change_item (changes x) change-whole).reads (codes "vid" ∷ codes "noitces" ∷ around),
        ((figure-whole l looks x notes step).reads (codes "noitces" ∷ around), tt),
      ),
    )

pub remark-whole : (line : Text) → Whole (steps.remark_text line)
remark-whole line = whole-if (length (steps.remark_words line) == 0) [] _ whole-none (record {
  reads = λ around. through
      (around, Words)
      (Fixed (codes "<p class=\"") ∷ Stays (steps.remark_class line) ∷ Fixed (codes "\">") ∷ Stays (escape (steps.remark_words line))
      ∷ Fixed (codes "</p>\n") ∷ [])
      ((class line).reads around (codes "p"), ((escape-whole (steps.remark_words line)).reads (codes "p" ∷ around), tt));
})
  where
    class : (line : Text) → Value (steps.remark_class line)
    class line = value-if _ (codes "title") (codes "remark") (plain refl) (plain refl)

-- ---- from line to line

-- where a reader stands between two lines, whether a step has begun or not
abbrev pub between : Bool → List Text → Reader
between opened around = if opened then says around else (around, Words)

-- a step's beginning, if no remark has written it
pub begins : (opened : Bool) (n : ℕ) (around : List Text)
    → Same (read_on (between opened around) (if opened then [] else steps.step_open n)) (says around)
begins true n around = refl
begins false n around = step-opens n around

skipped : (shown opened : Bool) (n : ℕ) (line : Text) (around : List Text)
    → Same (read_on (between opened around) (where_so shown ((if opened then [] else steps.step_open n) ++ steps.remark_text line)))
    (between (opened || shown) around)
skipped false true n line around = refl
skipped false false n line around = refl
skipped true true n line around = (remark-whole line).reads (codes "vid" ∷ codes "noitces" ∷ around)
skipped true false n line around = on
    (around, Words) (steps.step_open n) (steps.remark_text line) (step-opens n around)
    ((remark-whole line).reads (codes "vid" ∷ codes "noitces" ∷ around))

happened : (shown opened : Bool) (n : ℕ) (t : Text) (around : List Text) → Same (read_on (says around) t) (around, Words)
    → Same (read_on (between opened around) (where_so shown ((if opened then [] else steps.step_open n) ++ t)))
    (between (opened && not shown) around)
happened false true n t around ends = refl
happened false false n t around ends = refl
happened true true n t around ends = ends
happened true false n t around ends = on (around, Words) (steps.step_open n) t (step-opens n around) ends

-- a line that isn't skipped, with what happened
happens : (marked : Bool) (x : Sheet.Walk) → AreWhole x.looks → (r : Read) (line : Text) (h : Sheet.Happened) (around : List Text)
    → Same (read_on (between x.opened around) (Sheet.happened_text marked x line h)) (between (Sheet.behind_happened marked x r h).opened around)
happens marked x looks r line h around = happened
    (Sheet.is_shown marked x x.place.wanted) x.opened (x.shown + 1) _ around
    (step-ends x.looks looks (h.still && not x.place.wanted) (x.place.lines + 1) line h.reply h.scene (noted (x.place.lines + 1) h.scene x.notes) x.last around)

-- one line
pub line-ends : (marked : Bool) (s : Share) (x : Sheet.Walk) → AreWhole x.looks → (r : Read) (around : List Text)
    → Same (read_on (between x.opened around) (Sheet.read_text marked s x r)) (between (Sheet.behind_read marked s x r).opened around)
line-ends marked s x looks (line, Ok None) around = skipped (Sheet.is_shown_remark marked x line) x.opened (x.shown + 1) line around
line-ends marked s x looks (line, Ok (Some c)) around =
    happens marked x looks (line, Ok (Some c)) line (Sheet.command_on s c x.place.desk) around
line-ends marked s x looks (line, Err fault) around =
    happens marked x looks (line, Err fault) line (Sheet.fault_happened s fault x.place.desk) around

-- ---- the foot

-- inside of what all steps stand in
abbrev pub outer : List Text
outer = codes "niam" ∷ codes "ydob" ∷ codes "lmth" ∷ []

left-whole : (left : ℕ) → Whole (Sheet.left_text left)
left-whole left = whole-so (not (left == 0)) _ (record {
  reads = λ around. through
      (around, Words) (Fixed (codes "<p>Commands not drawn: ") ∷ Stays (decimal left) ∷ Fixed (codes ".</p>\n") ∷ [])
      ((decimal-whole left).reads (codes "p" ∷ around), tt);
})

links-begin : (n : ℕ) → Same (read_on (outer, Words) (Sheet.links_begin n)) (codes "van" ∷ codes "ydob" ∷ codes "lmth" ∷ [], Words)
links-begin n = through
    (outer, Words) (Fixed (codes "</main>\n<nav id=\"d") ∷ Stays (decimal n) ∷ Fixed (codes "\">\n") ∷ [])
    ((decimal-value n).reads (codes "ydob" ∷ codes "lmth" ∷ []) (codes "van"), tt)

foot-ends : (n left : ℕ) → Same (read_on (outer, Words) (Sheet.sheet_foot n left)) ([], Words)
foot-ends n left = through
    (outer, Words)
    (Stays (Sheet.left_text left) ∷ Goes (Sheet.links_begin (n + 1)) (codes "van" ∷ codes "ydob" ∷ codes "lmth" ∷ [], Words)
    ∷ Stays (flat_map Sheet.numbered_link (range_with_len 1 n)) ∷ Fixed (codes "</nav>\n</body>\n</html>\n") ∷ []) (
      (left-whole left).reads outer,
      (
        links-begin (n + 1),
        (
          (whole-all Sheet.numbered_link (range_with_len 1 n)
              (λ k. whole-both (step_link k (decimal k)) (codes "\n") (link-whole k (decimal k) (decimal-whole k)) (record { reads = λ around. refl }))).reads
              (codes "van" ∷ codes "ydob" ∷ codes "lmth" ∷ []),
          tt,
        ),
      ),
    )

rest-ends : (opened : Bool) → Same (read_on (between opened outer) (where_so opened (steps.said_end ++ steps.step_end))) (outer, Words)
rest-ends true = refl
rest-ends false = refl

-- how areas are drawn stays
pub looks-stay : (marked : Bool) (s : Share) (x : Sheet.Walk) (r : Read) → AreWhole x.looks
    → AreWhole (Sheet.behind_read marked s x r).looks
looks-stay marked s x (line, Ok None) looks = looks
looks-stay marked s x (line, Ok (Some c)) looks = looks
looks-stay marked s x (line, Err fault) looks = looks

pub lines-end : (marked : Bool) (x : Sheet.Walk) → AreWhole x.looks → (stages : List Stage)
    → Same (read_on (between x.opened outer) (Sheet.sheet_lines marked x stages)) ([], Words)
lines-end marked x looks [] = on (between x.opened outer) (Sheet.open_rest x) _ (rest-ends x.opened) (foot-ends (Sheet.steps_begun x) x.left)
lines-end marked x looks ((r, s) ∷ rest) = on
    (between x.opened outer) (Sheet.read_text marked s x r) _ (line-ends marked s x looks r outer)
    (lines-end marked (Sheet.behind_read marked s x r) (looks-stay marked s x r looks) rest)

-- ---- the head

pub title-ends : (name : Text) → Same (read_on ([], Words) (Sheet.title_text name)) (codes "lmth" ∷ [], Words)
title-ends name = through
    ([], Words)
    (Fixed (codes "<!DOCTYPE html>\n<html lang=\"en\" xmlns=\"http://www.w3.org/1999/xhtml\">\n<head>\n<meta charset=\"utf-8\"/>\n")
    ∷ Fixed (codes "<meta name=\"viewport\" content=\"width=device-width, initial-scale=1\"/>\n<title>")
    ∷ Stays (escape (map steps.remark_byte name)) ∷ Fixed (codes "</title>\n<style>\n") ∷ Stays style_text
    ∷ Fixed (codes "</style>\n</head>\n") ∷ []) (
      (escape-whole (map steps.remark_byte name)).reads (codes "eltit" ∷ codes "daeh" ∷ codes "lmth" ∷ []),
      (style-whole.reads (codes "elyts" ∷ codes "daeh" ∷ codes "lmth" ∷ []), tt),
    )

pub shared-whole : (pages : ℕ) → Whole (Sheet.shared_text pages)
shared-whole pages = record {
  reads = λ around. through
      (around, Words)
      (Fixed (codes "<svg class=\"defs\" aria-hidden=\"true\"><defs>\n") ∷ Stays signs_text ∷ Stays (grid_text pages)
      ∷ Fixed (codes "</defs></svg>\n") ∷ [])
      (signs-whole.reads (codes "sfed" ∷ codes "gvs" ∷ around), ((grid-whole pages).reads (codes "sfed" ∷ codes "gvs" ∷ around), tt));
}

pub head-ends : (name : Text) (pages : ℕ) → Same (read_on ([], Words) (Sheet.sheet_head name pages)) (outer, Words)
head-ends name pages = through
    ([], Words)
    (Goes (Sheet.title_text name) (codes "lmth" ∷ [], Words) ∷ Fixed (codes "<body id=\"all\">\n") ∷ Stays (Sheet.shared_text pages)
    ∷ Fixed (codes "<header><h1>") ∷ Stays (escape (map steps.remark_byte name)) ∷ Fixed (codes "</h1>\n") ∷ Stays key_text
    ∷ Fixed (codes "</header>\n<main>\n") ∷ []) (
      title-ends name,
      (
        (shared-whole pages).reads (codes "ydob" ∷ codes "lmth" ∷ []),
        (
          (escape-whole (map steps.remark_byte name)).reads (codes "1h" ∷ codes "redaeh" ∷ codes "ydob" ∷ codes "lmth" ∷ []),
          (key-whole.reads (codes "redaeh" ∷ codes "ydob" ∷ codes "lmth" ∷ []), tt),
        ),
      ),
    )

pub ends-all : EndsAll
ends-all = record {
  true_scale = true-scale-whole;
  sheets = λ name pages marked x stages looks fresh. on
      ([], Words) (Sheet.sheet_head name pages) (Sheet.sheet_lines marked x stages) (head-ends name pages)
      (ap (λ (b : Bool). read_on (between b outer) (Sheet.sheet_lines marked x stages)) (sym fresh)
      ∙ lines-end marked x looks stages);
}
