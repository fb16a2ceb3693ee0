-- What a script says is no markup: sheets with other texts have the same elements.
use Rattle.rh_sheet.proofs.Reading.{Same, on, decimal-whole, escape-whole}
use Rattle.rh_sheet.proofs.Ends.{says, between, outer, shared-whole, command-ends, said-whole, step-opens, title-ends, head-ends, line-ends}
use Rattle.std.proofs.Common.{◌≡◌, ℕ, ◌+◌, Bool, true, false, eqb, refl, sym, ap, ap₂, ◌∙◌, List, [], ◌∷◌, ◌++◌, length, map, Some, None, Ok, Err}
use Rattle.std.proofs.lemmas.List.{append_assoc}
use Rattle.std.specs.Prelude.{◌==◌, not, ◌||◌, ◌&&◌, if◌then◌else◌, codes}
use Rattle.std.specs.Fmt.{decimal}
use Rattle.rh_figure.specs.Phrases.{Text, where_so}
use Rattle.rh_figure.specs.Scene.{Scene}
use Rattle.rh_figure.specs.Map.{Stage, place, is_mark}
use Rattle.rh_sheet.specs.Markup.{escape, escaped_byte}
use Rattle.rh_sheet.specs.Fates.{Note, noted}
use Rattle.rh_sheet.specs.SheetSteps as steps
use Rattle.rh_sheet.specs.Sheet
use Rattle.rh_sheet.specs.WellFormed.{AreWhole, Reader, Words, Sign, read_byte, read_on}
use Rattle.rh_sheet.specs.TextLaws.{byte_of_markup, markup, SaysOther, AreRetold, SaysNoMarkup}

-- ---- markup of texts one behind the other

both : (r : Reader) (a b : Text) → markup r (a ++ b) ≡ markup r a ++ markup (read_on r a) b
both r [] b = refl
both r (c ∷ a) b =
    ap (λ t. byte_of_markup r.1 (read_byte r.0 r.1 c).1 c ++ t) (both (read_byte r.0 r.1 c) a b)
    ∙ sym (append_assoc (byte_of_markup r.1 (read_byte r.0 r.1 c).1 c) (markup (read_byte r.0 r.1 c) a) (markup (read_on r (c ∷ a)) b))

-- a reader finds the same markup in two texts, and goes to the same place
record Alike (r : Reader) (s t : Text) : Type 0 where
  reads : Same (read_on r t) (read_on r s)
  marks : markup r t ≡ markup r s

same : (r : Reader) (t : Text) → Alike r t t
same r t = record { reads = refl; marks = refl }

-- two texts, and two behind them
behind : (r at : Reader) (a b s t : Text) → Same (read_on r a) at → Alike r a b → Alike at s t → Alike r (a ++ s) (b ++ t)
behind r at a b s t goes first rest = record {
  reads = on r b t (first.reads ∙ goes) rest.reads ∙ sym (on r a s goes refl);
  marks = both r b t ∙ ap₂ (λ m q. m ++ markup q t) first.marks (first.reads ∙ goes)
      ∙ ap (λ m. markup r a ++ m) rest.marks ∙ sym (both r a s ∙ ap (λ q. markup r a ++ markup q s) goes);
}

-- two texts behind one
after : (r at : Reader) (a s t : Text) → Same (read_on r a) at → Alike at s t → Alike r (a ++ s) (a ++ t)
after r at a s t goes rest = behind r at a a s t goes (same r a) rest

-- another text for the second
to : (r : Reader) (s t u : Text) → u ≡ t → Alike r s t → Alike r s u
to r s t u e is = record { reads = ap (λ (v : Text). read_on r v) e ∙ is.reads; marks = ap (λ (v : Text). markup r v) e ∙ is.marks }

-- ---- escaped texts

unmarked : (around : List Text) (b : ℕ) (q : Bool) → q ≡ false
    → byte_of_markup Words (if q then Sign else Words) b ≡ []
unmarked around b q none = ap (λ (q : Bool). byte_of_markup Words (if q then Sign else Words) b) none

-- a byte that was escaped as its tests say
byte-unmarked : (p q r s : Bool) (around : List Text) (b : ℕ) → eqb b 60 ≡ q → markup (around, Words) (
    if p then codes "&amp;" else if q then codes "&lt;" else if r then codes "&gt;" else if s then codes "&quot;" else b ∷ []
    ) ≡ []
byte-unmarked true q r s around b none = refl
byte-unmarked false true r s around b none = refl
byte-unmarked false false true s around b none = refl
byte-unmarked false false false true around b none = refl
byte-unmarked false false false false around b none =
    ap (λ t. t ++ []) (ap (λ (q : Bool). byte_of_markup Words (if q then Sign else Words) b) none)

byte-whole : (b : ℕ) (around : List Text) → Same (read_on (around, Words) (escaped_byte b)) (around, Words)
byte-whole b around = sym (on (around, Words) (escaped_byte b) [] refl refl) ∙ (escape-whole (b ∷ [])).reads around

escape-unmarked : (around : List Text) (t : Text) → markup (around, Words) (escape t) ≡ []
escape-unmarked around [] = refl
escape-unmarked around (b ∷ t) =
    both (around, Words) (escaped_byte b) (escape t)
    ∙ ap₂ (λ m q. m ++ markup q (escape t))
    (byte-unmarked (b == 38) (b == 60) (b == 62) (b == 34) around b refl) (byte-whole b around)
    ∙ escape-unmarked around t

-- two escaped texts, and what stands behind them
told : (around : List Text) (s t behind-s behind-t : Text) → Alike (around, Words) behind-s behind-t
    → Alike (around, Words) (escape s ++ behind-s) (escape t ++ behind-t)
told around s t behind-s behind-t rest = behind
    (around, Words) (around, Words) (escape s) (escape t) behind-s behind-t ((escape-whole s).reads around) (record {
      reads = (escape-whole t).reads around ∙ sym ((escape-whole s).reads around);
      marks = escape-unmarked around t ∙ sym (escape-unmarked around s);
    }) rest

-- ---- what is said at a step

head-alike : (n : ℕ) (line other : Text) (around : List Text)
    → Alike (around, Words) (steps.command_head n line) (steps.command_head n other)
head-alike n line other around =
    after (around, Words) (codes "b" ∷ codes "2h" ∷ around, Words) (codes "<h2><b>") _ _ refl
    (after (codes "b" ∷ codes "2h" ∷ around, Words) (codes "b" ∷ codes "2h" ∷ around, Words) (decimal n) _ _
    ((decimal-whole n).reads (codes "b" ∷ codes "2h" ∷ around))
    (after (codes "b" ∷ codes "2h" ∷ around, Words) (codes "edoc" ∷ codes "2h" ∷ around, Words) (codes "</b> <code>") _ _ refl
    (told (codes "edoc" ∷ codes "2h" ∷ around) (steps.command_text line) (steps.command_text other) _ _
    (same (codes "edoc" ∷ codes "2h" ∷ around, Words) _))))

said-alike : (n : ℕ) (line other reply answer : Text) (around : List Text)
    → Alike (around, Words) (steps.said_text n line reply) (steps.said_text n other answer)
said-alike n line other reply answer around = behind
    (around, Words) (codes "erp" ∷ around, Words) (steps.command_head n line) (steps.command_head n other) _ _
    (command-ends n line around) (head-alike n line other around)
    (told (codes "erp" ∷ around) (steps.reply_shown reply) (steps.reply_shown answer) _ _ (same (codes "erp" ∷ around, Words) _))

step-alike : (l : steps.Looks) (still : Bool) (n : ℕ) (line other reply answer : Text) (x : Scene) (notes : List Note) (last : ℕ) (around : List Text)
    → Alike (says around) (steps.step_text l still n line reply x notes last) (steps.step_text l still n other answer x notes last)
step-alike l true n line other reply answer x notes last around = behind
    (says around) (says around) (steps.said_text n line reply) (steps.said_text n other answer) _ _
    ((said-whole n line reply).reads (codes "vid" ∷ codes "noitces" ∷ around))
    (said-alike n line other reply answer (codes "vid" ∷ codes "noitces" ∷ around)) (same (says around) _)
step-alike l false n line other reply answer x notes last around = behind
    (says around) (says around) (steps.said_text n line reply) (steps.said_text n other answer) _ _
    ((said-whole n line reply).reads (codes "vid" ∷ codes "noitces" ∷ around))
    (said-alike n line other reply answer (codes "vid" ∷ codes "noitces" ∷ around)) (same (says around) _)

-- ---- remarks

abbrev class-of : (mark : Bool) → Text
class-of mark = if mark then codes "title" else codes "remark"

-- two remarks of one class, both with words or both without
remark-alike : (mark none : Bool) (s t : Text) (around : List Text) → Alike
    (around, Words) (if none then [] else steps.some_remark (class-of mark) s)
    (if none then [] else steps.some_remark (class-of mark) t)
remark-alike mark true s t around = same (around, Words) []
remark-alike true false s t around =
    after (around, Words) (codes "p" ∷ around, Words) (codes "<p class=\"title\">") _ _ refl
    (told (codes "p" ∷ around) s t _ _ (same (codes "p" ∷ around, Words) _))
remark-alike false false s t around =
    after (around, Words) (codes "p" ∷ around, Words) (codes "<p class=\"remark\">") _ _ refl
    (told (codes "p" ∷ around) s t _ _ (same (codes "p" ∷ around, Words) _))

remarks-alike : (line other : Text) → SaysOther line other → (around : List Text)
    → Alike (around, Words) (steps.remark_text line) (steps.remark_text other)
remarks-alike line other is around = to
    (around, Words) (steps.remark_text line)
    (if length (steps.remark_words line) == 0 then [] else steps.some_remark (class-of (is_mark line)) (steps.remark_words other))
    (steps.remark_text other)
    (ap₂ (λ (mark none : Bool). if none then [] else steps.some_remark (class-of mark) (steps.remark_words other)) is.title is.remark)
    (remark-alike (is_mark line) (length (steps.remark_words line) == 0) (steps.remark_words line) (steps.remark_words other) around)

-- ---- from line to line

skipped-alike : (shown opened : Bool) (n : ℕ) (line other : Text) → SaysOther line other → (around : List Text) → Alike
    (between opened around) (where_so shown ((if opened then [] else steps.step_open n) ++ steps.remark_text line))
    (where_so shown ((if opened then [] else steps.step_open n) ++ steps.remark_text other))
skipped-alike false opened n line other is around = same (between opened around) []
skipped-alike true true n line other is around = remarks-alike line other is (codes "vid" ∷ codes "noitces" ∷ around)
skipped-alike true false n line other is around = after
    (around, Words) (says around) (steps.step_open n) _ _ (step-opens n around)
    (remarks-alike line other is (codes "vid" ∷ codes "noitces" ∷ around))

happened-alike : (shown opened : Bool) (n : ℕ) (s t : Text) (around : List Text) → Alike (says around) s t → Alike
    (between opened around) (where_so shown ((if opened then [] else steps.step_open n) ++ s))
    (where_so shown ((if opened then [] else steps.step_open n) ++ t))
happened-alike false opened n s t around is = same (between opened around) []
happened-alike true true n s t around is = is
happened-alike true false n s t around is = after (around, Words) (says around) (steps.step_open n) s t (step-opens n around) is

-- a line that isn't skipped
happens-alike : (marked : Bool) (x : Sheet.Walk) (line other : Text) (h : Sheet.Happened) (around : List Text)
    → Alike (between x.opened around) (Sheet.happened_text marked x line h) (Sheet.happened_text marked x other h)
happens-alike marked x line other h around = happened-alike
    (Sheet.is_shown marked x x.place.wanted) x.opened (x.shown + 1) _ _ around
    (step-alike x.looks (h.still && not x.place.wanted) (x.place.lines + 1) line other h.reply h.reply h.scene
    (noted (x.place.lines + 1) h.scene x.notes) x.last around)

-- whether a remark is shown, by whether it has words and is a title
abbrev shown-by : (marked : Bool) (x : Sheet.Walk) (none mark : Bool) → Bool
shown-by marked x none mark = not none && Sheet.is_shown marked x (x.place.wanted || mark)

abbrev walk-by : (marked : Bool) (x : Sheet.Walk) (none mark : Bool) → Sheet.Walk
walk-by marked x none mark = record x {
  place = place x.place.desk (x.place.lines + 1) (x.place.wanted || mark);
  opened = x.opened || shown-by marked x none mark;
}

none-alike : (marked : Bool) (x : Sheet.Walk) (line other : Text) → SaysOther line other → (around : List Text) → Alike
    (between x.opened around) (Sheet.skipped_text marked x line) (Sheet.skipped_text marked x other)
none-alike marked x line other is around = to
    (between x.opened around) (Sheet.skipped_text marked x line)
    (where_so (Sheet.is_shown_remark marked x line) (Sheet.opening x ++ steps.remark_text other)) (Sheet.skipped_text marked x other)
    (ap₂ (λ (mark none : Bool). where_so (shown-by marked x none mark) (Sheet.opening x ++ steps.remark_text other)) is.title is.words)
    (skipped-alike (Sheet.is_shown_remark marked x line) x.opened (x.shown + 1) line other is around)

behind-same : (marked : Bool) (x : Sheet.Walk) (line other : Text) → SaysOther line other
    → Sheet.behind_skipped marked x (other, Ok None) ≡ Sheet.behind_skipped marked x (line, Ok None)
behind-same marked x line other is = ap₂ (λ (mark none : Bool). walk-by marked x none mark) is.title is.words

-- the lines of a sheet, up to its end
lines-alike : (marked : Bool) (x : Sheet.Walk) → AreWhole x.looks → (lines others : List Stage) → AreRetold lines others
    → Alike (between x.opened outer) (Sheet.sheet_lines marked x lines) (Sheet.sheet_lines marked x others)
lines-alike marked x looks [] [] is = same (between x.opened outer) _
lines-alike marked x looks [] (b ∷ others) is = absurd is
lines-alike marked x looks (a ∷ lines) [] is = absurd is
lines-alike marked x looks (((line, Ok None), s) ∷ lines) (b ∷ others) is =
    let said : SaysOther line b.0.0 = is.0.skipped refl in
    to (between x.opened outer) _ (Sheet.skipped_text marked x b.0.0 ++ Sheet.sheet_lines marked (Sheet.behind_skipped marked x (line, Ok None)) others) _
    (ap₂ (λ m s. Sheet.sheet_lines marked x (((b.0.0, m), s) ∷ others)) is.0.meaning is.0.share
    ∙ ap (λ w. Sheet.skipped_text marked x b.0.0 ++ Sheet.sheet_lines marked w others) (behind-same marked x line b.0.0 said))
    (behind (between x.opened outer) _ (Sheet.skipped_text marked x line) (Sheet.skipped_text marked x b.0.0) _ _
    (line-ends marked s x looks (line, Ok None) outer) (none-alike marked x line b.0.0 said outer)
    (lines-alike marked (Sheet.behind_skipped marked x (line, Ok None)) looks lines others is.1))
lines-alike marked x looks (((line, Ok (Some c)), s) ∷ lines) (b ∷ others) is =
    to (between x.opened outer) _ (Sheet.sheet_lines marked x (((b.0.0, Ok (Some c)), s) ∷ others)) _
    (ap₂ (λ m s. Sheet.sheet_lines marked x (((b.0.0, m), s) ∷ others)) is.0.meaning is.0.share)
    (behind (between x.opened outer) _ _ _ _ _ (line-ends marked s x looks (line, Ok (Some c)) outer)
    (happens-alike marked x line b.0.0 (Sheet.command_on s c x.place.desk) outer)
    (lines-alike marked (Sheet.behind_read marked s x (line, Ok (Some c))) looks lines others is.1))
lines-alike marked x looks (((line, Err fault), s) ∷ lines) (b ∷ others) is =
    to (between x.opened outer) _ (Sheet.sheet_lines marked x (((b.0.0, Err fault), s) ∷ others)) _
    (ap₂ (λ m s. Sheet.sheet_lines marked x (((b.0.0, m), s) ∷ others)) is.0.meaning is.0.share)
    (behind (between x.opened outer) _ _ _ _ _ (line-ends marked s x looks (line, Err fault) outer)
    (happens-alike marked x line b.0.0 (Sheet.fault_happened s fault x.place.desk) outer)
    (lines-alike marked (Sheet.behind_read marked s x (line, Err fault)) looks lines others is.1))

-- ---- the head

-- where the name of a sheet stands in its head
abbrev in_title : Reader
in_title = (codes "eltit" ∷ codes "daeh" ∷ codes "lmth" ∷ [], Words)

abbrev in_heading : Reader
in_heading = (codes "1h" ∷ codes "redaeh" ∷ codes "ydob" ∷ codes "lmth" ∷ [], Words)

title-alike : (name other : Text) → Alike ([], Words) (Sheet.title_text name) (Sheet.title_text other)
title-alike name other =
    after ([], Words) _ (codes "<!DOCTYPE html>\n<html lang=\"en\" xmlns=\"http://www.w3.org/1999/xhtml\">\n<head>\n<meta charset=\"utf-8\"/>\n") _ _ refl
    (after _ in_title (codes "<meta name=\"viewport\" content=\"width=device-width, initial-scale=1\"/>\n<title>") _ _ refl
    (told in_title.0 (map steps.remark_byte name) (map steps.remark_byte other) _ _ (same in_title _)))

names-alike : (name other : Text) (pages : ℕ) → Alike ([], Words) (Sheet.sheet_head name pages) (Sheet.sheet_head other pages)
names-alike name other pages =
    behind ([], Words) (codes "lmth" ∷ [], Words) (Sheet.title_text name) (Sheet.title_text other) _ _ (title-ends name) (title-alike name other)
    (after (codes "lmth" ∷ [], Words) (codes "ydob" ∷ codes "lmth" ∷ [], Words) (codes "<body id=\"all\">\n") _ _ refl
    (after (codes "ydob" ∷ codes "lmth" ∷ [], Words) (codes "ydob" ∷ codes "lmth" ∷ [], Words) (Sheet.shared_text pages) _ _
    ((shared-whole pages).reads (codes "ydob" ∷ codes "lmth" ∷ []))
    (after (codes "ydob" ∷ codes "lmth" ∷ [], Words) in_heading (codes "<header><h1>") _ _ refl
    (told in_heading.0 (map steps.remark_byte name) (map steps.remark_byte other) _ _ (same in_heading _)))))

-- ---- all of it

sheets-alike : (name other : Text) (pages : ℕ) (marked : Bool) (x : Sheet.Walk) (lines others : List Stage) → AreWhole x.looks
    → x.opened ≡ false → AreRetold lines others → Alike ([], Words) (Sheet.sheet_head name pages ++ Sheet.sheet_lines marked x lines)
    (Sheet.sheet_head other pages ++ Sheet.sheet_lines marked x others)
sheets-alike name other pages marked x lines others looks fresh are = behind
    ([], Words) (between x.opened outer) (Sheet.sheet_head name pages) (Sheet.sheet_head other pages) _ _
    (head-ends name pages ∙ ap (λ (b : Bool). between b outer) (sym fresh)) (names-alike name other pages)
    (lines-alike marked x looks lines others are)

pub says-no-markup : SaysNoMarkup
says-no-markup = record {
  sheets = λ name other pages marked x lines others looks fresh are.
      (sheets-alike name other pages marked x lines others looks fresh are).marks;
  steps = λ l around still n line other reply answer x notes last.
      (step-alike l still n line other reply answer x notes last around).marks;
  texts = escape-unmarked;
}
