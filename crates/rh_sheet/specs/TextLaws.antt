-- What of a sheet is markup: nothing that a script says. Read WellFormed and Sheet first.
-- b is a byte, t a text behind it, r a reader, x where a sheet stands, n the number of a step.
use Rattle.std.specs.Prelude.{◌≡◌, ℕ, ◌==◌, ◌&&◌, Bool, true, false, if◌then◌else◌, List, [], ◌∷◌, ◌++◌, length, codes, None, Ok}
use Rattle.rh_defs.specs.Line.{words_of}
use Rattle.rh_figure.specs.Phrases.{Text}
use Rattle.rh_figure.specs.Scene.{Scene}
use Rattle.rh_figure.specs.Map.{Stage, is_mark}
use Rattle.rh_sheet.specs.Markup.{escape}
use Rattle.rh_sheet.specs.Fates.{Note}
use Rattle.rh_sheet.specs.SheetSteps.{Looks, remark_words, step_text}
use Rattle.rh_sheet.specs.Sheet.{Walk, sheet_head, sheet_lines}
use Rattle.rh_sheet.specs.WellFormed.{AreWhole, Spot, Words, Reader, read_byte}

-- ---- what is markup

abbrev pub is_among_words : Spot → Bool
is_among_words Words = true
is_among_words _ = false

-- a byte by where its reader stands before it and behind it: where that is among words, the byte is a text's
abbrev pub byte_of_markup : Spot → Spot → ℕ → Text
byte_of_markup before behind b = if is_among_words before && is_among_words behind then [] else b ∷ []

-- All elements of a text as they begin and end, with their attributes: each byte from a `<` up to the `>` behind it.
abbrev pub markup : Reader → Text → Text
markup r [] = []
markup r (b ∷ t) = byte_of_markup r.1 (read_byte r.0 r.1 b).1 b ++ markup (read_byte r.0 r.1 b) t

-- ---- another text in its place

-- Two lines that are skipped: one is a title just where the other is, has words just where the other has some, and has
-- words behind its sign just where the other has.
pub record SaysOther (line other : Text) : Type 0 where
  pub title : is_mark other ≡ is_mark line
  pub words : (length (words_of other) == 0) ≡ (length (words_of line) == 0)
  pub remark : (length (remark_words other) == 0) ≡ (length (remark_words line) == 0)

-- a line and another of the same meaning: of one that is a command, or a bad line, each byte may be another
pub record IsRetold (line other : Stage) : Type 0 where
  pub meaning : other.0.1 ≡ line.0.1
  pub share : other.1 ≡ line.1
  pub skipped : line.0.1 ≡ Ok None → SaysOther line.0.0 other.0.0

abbrev pub AreRetold : List Stage → List Stage → Type 0
AreRetold [] [] = Unit {0}
AreRetold (line ∷ lines) (other ∷ others) = IsRetold line other × AreRetold lines others
AreRetold _ _ = ⊥

-- The elements of a sheet and their attributes are the same, byte for byte, whatever its name, its remarks, its titles
-- and its lines say, wherever areas are drawn as whole elements; those of a step are, whatever its line and its reply say; and no byte of an escaped text, such as a
-- task's name, belongs to an element.
pub record SaysNoMarkup : Type 0 where
  pub sheets : (name other : Text) (pages : ℕ) (marked : Bool) (x : Walk) (lines others : List Stage) → AreWhole x.looks →
      x.opened ≡ false → AreRetold lines others → markup ([], Words) (sheet_head other pages ++ sheet_lines marked x others)
      ≡ markup ([], Words) (sheet_head name pages ++ sheet_lines marked x lines)
  pub steps : (l : Looks) (around : List Text) (still : Bool) (n : ℕ) (line other reply answer : Text) (x : Scene) (notes : List Note)
      (last : ℕ) → markup (codes "vid" ∷ codes "noitces" ∷ around, Words) (step_text l still n other answer x notes last)
      ≡ markup (codes "vid" ∷ codes "noitces" ∷ around, Words) (step_text l still n line reply x notes last)
  pub texts : (around : List Text) (t : Text) → markup (around, Words) (escape t) ≡ []
