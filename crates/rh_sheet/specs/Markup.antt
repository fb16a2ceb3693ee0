-- The elements of a sheet: HTML, and SVG inside it. Read Phrases of rh_figure first.
-- t is a text, b a byte or a rectangle, n a number, x and y are units from the left and from above.
use Rattle.std.specs.Prelude.{ℕ, ◌==◌, Bool, if◌then◌else◌, [], ◌∷◌, ◌++◌, length, codes}
use Rattle.std.specs.List.{flat_map, concat}
use Rattle.std.specs.Fmt.{decimal}
use Rattle.rh_figure.specs.Phrases.{Text, where_so}

-- ---- text

-- a byte as it stands in text and between quotes
abbrev pub escaped_byte : ℕ → Text
escaped_byte b =
    if b == 38 then codes "&amp;"
    else if b == 60 then codes "&lt;"
    else if b == 62 then codes "&gt;"
    else if b == 34 then codes "&quot;"
    else b ∷ []

-- a text in which no byte begins or ends an element, a quote or the name of a sign
abbrev pub escape : Text → Text
escape t = flat_map escaped_byte t

-- the class of a thing that the command has changed, behind other classes
abbrev pub fresh_class : Bool → Text
fresh_class fresh = where_so fresh (codes " fresh")

-- an attribute, by its name and its text, or by its name and a number
abbrev pub text_attribute : Text → Text → Text
text_attribute name t = concat (codes " " ∷ name ∷ codes "=\"" ∷ t ∷ codes "\"" ∷ [])

abbrev pub number_attribute : Text → ℕ → Text
number_attribute name n = text_attribute name (decimal n)

-- ---- rectangles

-- a rectangle by its class, its upper left corner, its size, and what is told where a pointer rests on it
pub record Box : Type 0 where
  pub class : Text
  pub x : ℕ
  pub y : ℕ
  pub width : ℕ
  pub height : ℕ
  pub tip : Text

-- the end of a rectangle, with its tip where it has one
abbrev pub box_end : Text → Text
box_end tip =
    if length tip == 0 then codes "/>\n"
    else concat (codes "><title>" ∷ escape tip ∷ codes "</title></rect>\n" ∷ [])

-- the beginning of a rectangle
abbrev pub box_begin : Text → ℕ → ℕ → ℕ → ℕ → Text
box_begin class x y width height = concat (
    codes "<rect" ∷ text_attribute (codes "class") class ∷ number_attribute (codes "x") x ∷ number_attribute (codes "y") y
    ∷ number_attribute (codes "width") width ∷ number_attribute (codes "height") height ∷ []
    )

-- a rectangle
abbrev pub box_text : Box → Text
box_text b = box_begin b.class b.x b.y b.width b.height ++ box_end b.tip

-- ---- words and lines in a figure

-- the beginning of words in a figure
abbrev pub words_begin : Text → ℕ → ℕ → Text
words_begin class x y = concat (
    codes "<text" ∷ text_attribute (codes "class") class ∷ number_attribute (codes "x") x ∷ number_attribute (codes "y") y
    ∷ codes ">" ∷ []
    )

-- words in a figure, from a place on or around it as their class says; where there are no words, no element
abbrev pub words_text : Text → ℕ → ℕ → Text → Text
words_text class x y t =
    if length t == 0 then [] else concat (words_begin class x y ∷ escape t ∷ codes "</text>\n" ∷ [])

-- a line along a way
abbrev pub path_text : Text → Text → Text
path_text class way = concat (
    codes "<path" ∷ text_attribute (codes "class") class ∷ text_attribute (codes "d") way ∷ codes "/>\n" ∷ []
    )

-- a step of a way: its letter and a point
abbrev pub point_text : Text → ℕ → ℕ → Text
point_text letter x y = concat (letter ∷ decimal x ∷ codes " " ∷ decimal y ∷ [])

-- a step of a way to one side or down: its letter and how far
abbrev pub stretch_text : Text → ℕ → Text
stretch_text letter n = letter ++ decimal n

-- ---- figures and headings

-- the beginning of a figure, before what is read out in its place
abbrev pub figure_open : ℕ → ℕ → Text → Text
figure_open width height title = concat (
    codes "<svg viewBox=\"0 0 " ∷ decimal width ∷ codes " " ∷ decimal height ∷ codes "\" role=\"img\">\n<title>"
    ∷ escape title ∷ codes "</title>\n<desc>" ∷ []
    )

-- a figure, with what is read out in its place
abbrev pub svg_text : ℕ → ℕ → Text → Text → Text → Text
svg_text width height title description body = concat (
    figure_open width height title ∷ escape description ∷ codes "</desc>\n" ∷ body ∷ codes "</svg>\n" ∷ []
    )

-- the heading of an area or a slot, with a note
abbrev pub heading_text : Text → Text → Text
heading_text name note =
    concat (codes "<h3><b>" ∷ escape name ∷ codes "</b> " ∷ escape note ∷ codes "</h3>\n" ∷ [])

-- a cell of a table
abbrev pub cell_text : Text → Text
cell_text t = concat (codes "<td>" ∷ escape t ∷ codes "</td>" ∷ [])

-- something that a command has changed
abbrev pub change_item : Text → Text
change_item t = concat (codes "<p class=\"change\">" ∷ escape t ∷ codes "</p>\n" ∷ [])

-- a link to step n, with what stands in it
abbrev pub step_link : ℕ → Text → Text
step_link n inside = concat (codes "<a href=\"#d" ∷ decimal n ∷ codes "\">" ∷ inside ∷ codes "</a>" ∷ [])
