-- Which texts are documents: each element ends where it has to, and none is left open. Nothing is to be read before.
-- b is a byte, around the names of the elements that are open, the inner ones first.
use Rattle.std.specs.Prelude.{◌≡◌, ℕ, ◌==◌, Bool, false, if◌then◌else◌, List, [], ◌∷◌, ◌++◌}
use Rattle.std.specs.Str.{bytes_eq}
use Rattle.rh_defs.specs.Bytes.{space}
use Rattle.rh_figure.specs.Phrases.{Text}
use Rattle.rh_figure.specs.Map.{Stage}
use Rattle.rh_defs.specs.Desk.{Task}
use Rattle.rh_figure.specs.Scene.{Scene}
use Rattle.rh_sheet.specs.SheetSteps.{Looks, at_true_scale}
use Rattle.rh_sheet.specs.Sheet.{Walk, sheet_head, sheet_lines}

-- Where a reader of a document stands: among words; behind `<`; in the name of an element that begins or ends, of which
-- so much was read, the last byte first; behind the name of one that begins, and in a value there; behind the stroke of
-- one with nothing in it; in a declaration; or in what is no document.
pub data Spot : Type 0 where
  Words : Spot
  Sign : Spot
  Beginning : (name : Text) → Spot
  Closing : (name : Text) → Spot
  Within : (name : Text) → Spot
  Quoted : (name : Text) → Spot
  Stroke : Spot
  Declared : Spot
  Lost : Spot

-- a reader: the names of the elements that are open, the inner ones first, and where it stands
abbrev pub Reader : Type 0
Reader = List Text × Spot

-- an element with the name ends, which has to be the inner one of those that are open
abbrev pub element_ends : Text → List Text → Reader
element_ends name [] = ([], Lost)
element_ends name (inner ∷ around) = if bytes_eq name inner then (around, Words) else (inner ∷ around, Lost)

-- where the reader stands behind a byte: 34 is a quote, 47 a stroke, 60 `<`, 62 `>`
abbrev pub read_byte : List Text → Spot → ℕ → Reader
read_byte around Words b = (around, if b == 60 then Sign else Words)
read_byte around Sign b = (around, if b == 47 then Closing [] else if b == 33 then Declared else Beginning (b ∷ []))
read_byte around (Beginning name) b =
    if b == 62 then (name ∷ around, Words)
    else (around, if b == 47 then Stroke else if b == space then Within name else Beginning (b ∷ name))
read_byte around (Closing name) b = if b == 62 then element_ends name around else (around, Closing (b ∷ name))
read_byte around (Within name) b =
    if b == 62 then (name ∷ around, Words)
    else (around, if b == 34 then Quoted name else if b == 47 then Stroke else if b == 60 then Lost else Within name)
read_byte around (Quoted name) b = (around, if b == 34 then Within name else if b == 60 then Lost else Quoted name)
read_byte around Stroke b = (around, if b == 62 then Words else Lost)
read_byte around Declared b = (around, if b == 62 then Words else Declared)
read_byte around Lost b = (around, Lost)

-- where the reader stands behind a text
abbrev pub read_on : Reader → Text → Reader
read_on r [] = r
read_on r (b ∷ t) = read_on (read_byte r.0 r.1 b) t

-- a text of whole elements
abbrev pub HasWholeElements : Text → Type 0
HasWholeElements t = (around : List Text) → read_on (around, Words) t ≡ (around, Words)

-- whatever areas are drawn so, their elements end where they have to
pub record AreWhole (l : Looks) : Type 0 where
  pub slot : (x : Scene) (t : Task) → HasWholeElements (l.slot x t)
  pub module_area : (x : Scene) → HasWholeElements (l.module_area x)

-- Whatever a script and its name say, and however the pool is shared out: a sheet's elements lie in each other, each
-- ends where it has to, and none is left open. That is so at true scale, and wherever areas are drawn as whole elements.
pub record EndsAll : Type 0 where
  pub true_scale : AreWhole at_true_scale
  pub sheets : (name : Text) (pages : ℕ) (marked : Bool) (x : Walk) (stages : List Stage) → AreWhole x.looks →
      x.opened ≡ false → read_on ([], Words) (sheet_head name pages ++ sheet_lines marked x stages) ≡ ([], Words)
