-- Each element of a sheet ends where it has to: attributes, rectangles, words, lines, figures, headings.
use Rattle.rh_sheet.proofs.Reading.{Same, Fixed, Stays, Goes, through, on, Whole, Value, whole-if, whole-none, value-both}
use Rattle.rh_sheet.proofs.Reading.{decimal-value, escape-whole}
use Rattle.std.proofs.Common.{ℕ, Bool, true, false, refl, List, [], ◌∷◌, length}
use Rattle.std.specs.Prelude.{◌==◌, if◌then◌else◌, codes}
use Rattle.std.specs.List.{concat}
use Rattle.std.specs.Fmt.{decimal}
use Rattle.rh_figure.specs.Phrases.{Text}
use Rattle.rh_sheet.specs.Markup.{Box, escape, fresh_class, text_attribute, number_attribute, box_begin, box_end, box_text, words_begin, words_text}
use Rattle.rh_sheet.specs.Markup.{path_text, point_text, stretch_text, figure_open, svg_text, heading_text, cell_text, change_item, step_link}
use Rattle.rh_sheet.specs.WellFormed.{Words, Beginning, Within, Quoted, read_on}

-- ---- attributes

-- a name of an attribute
abbrev Bare : Text → Type 0
Bare label = (around : List Text) (name : Text) → Same (read_on (around, Within name) label) (around, Within name)

-- an attribute right behind an element's name, and one behind others
pub first-attribute : (label t : Text) → Bare label → Value t → (around : List Text) (name : Text)
    → Same (read_on (around, Beginning name) (text_attribute label t)) (around, Within name)
first-attribute label t bare value around name = through
    (around, Beginning name) (Fixed (codes " ") ∷ Stays label ∷ Fixed (codes "=\"") ∷ Stays t ∷ Fixed (codes "\"") ∷ [])
    (bare around name, (value.reads around name, tt))

pub attribute : (label t : Text) → Bare label → Value t → (around : List Text) (name : Text)
    → Same (read_on (around, Within name) (text_attribute label t)) (around, Within name)
attribute label t bare value around name = through
    (around, Within name) (Fixed (codes " ") ∷ Stays label ∷ Fixed (codes "=\"") ∷ Stays t ∷ Fixed (codes "\"") ∷ [])
    (bare around name, (value.reads around name, tt))

pub number : (label : Text) (n : ℕ) → Bare label → (around : List Text) (name : Text)
    → Same (read_on (around, Within name) (number_attribute label n)) (around, Within name)
number label n bare = attribute label (decimal n) bare (decimal-value n)

pub classed : (t : Text) → Value t → (around : List Text) (name : Text)
    → Same (read_on (around, Beginning name) (text_attribute (codes "class") t)) (around, Within name)
classed t value = first-attribute (codes "class") t (λ around name. refl) value

pub fresh-value : (fresh : Bool) → Value (fresh_class fresh)
fresh-value true = record { reads = λ around name. refl }
fresh-value false = record { reads = λ around name. refl }

-- ---- rectangles

box-begins : (class : Text) (x y width height : ℕ) → Value class → (around : List Text)
    → Same (read_on (around, Words) (box_begin class x y width height)) (around, Within (codes "tcer"))
box-begins class x y width height value around = through
    (around, Words)
    (Fixed (codes "<rect") ∷ Goes (text_attribute (codes "class") class) (around, Within (codes "tcer"))
    ∷ Stays (number_attribute (codes "x") x) ∷ Stays (number_attribute (codes "y") y)
    ∷ Stays (number_attribute (codes "width") width) ∷ Stays (number_attribute (codes "height") height) ∷ []) (
      classed class value around (codes "tcer"),
      (
        number (codes "x") x (λ around name. refl) around (codes "tcer"),
        (
          number (codes "y") y (λ around name. refl) around (codes "tcer"),
          (
            number (codes "width") width (λ around name. refl) around (codes "tcer"),
            (number (codes "height") height (λ around name. refl) around (codes "tcer"), tt),
          ),
        ),
      ),
    )

box-ends : (none : Bool) (tip : Text) (around : List Text)
    → Same (read_on (around, Within (codes "tcer"))
    (if none then codes "/>\n" else concat (codes "><title>" ∷ escape tip ∷ codes "</title></rect>\n" ∷ []))) (around, Words)
box-ends true tip around = refl
box-ends false tip around = through
    (around, Within (codes "tcer")) (Fixed (codes "><title>") ∷ Stays (escape tip) ∷ Fixed (codes "</title></rect>\n") ∷ [])
    ((escape-whole tip).reads (codes "eltit" ∷ codes "tcer" ∷ around), tt)

pub box-whole : (b : Box) → Value b.class → Whole (box_text b)
box-whole b value = record {
  reads = λ around. on
      (around, Words) (box_begin b.class b.x b.y b.width b.height) (box_end b.tip)
      (box-begins b.class b.x b.y b.width b.height value around) (box-ends (length b.tip == 0) b.tip around);
}

-- ---- words and lines

words-begin : (class : Text) (x y : ℕ) → Value class → (around : List Text)
    → Same (read_on (around, Words) (words_begin class x y)) (codes "txet" ∷ around, Words)
words-begin class x y value around = through
    (around, Words)
    (Fixed (codes "<text") ∷ Goes (text_attribute (codes "class") class) (around, Within (codes "txet"))
    ∷ Stays (number_attribute (codes "x") x) ∷ Stays (number_attribute (codes "y") y) ∷ Fixed (codes ">") ∷ []) (
      classed class value around (codes "txet"),
      (
        number (codes "x") x (λ around name. refl) around (codes "txet"),
        (number (codes "y") y (λ around name. refl) around (codes "txet"), tt),
      ),
    )

pub words-whole : (class : Text) (x y : ℕ) (t : Text) → Value class → Whole (words_text class x y t)
words-whole class x y t value = whole-if (length t == 0) [] _ whole-none (record {
  reads = λ around. through
      (around, Words)
      (Goes (words_begin class x y) (codes "txet" ∷ around, Words) ∷ Stays (escape t) ∷ Fixed (codes "</text>\n") ∷ [])
      (words-begin class x y value around, ((escape-whole t).reads (codes "txet" ∷ around), tt));
})

pub path-whole : (class way : Text) → Value class → Value way → Whole (path_text class way)
path-whole class way value along = record {
  reads = λ around. through
      (around, Words)
      (Fixed (codes "<path") ∷ Goes (text_attribute (codes "class") class) (around, Within (codes "htap"))
      ∷ Stays (text_attribute (codes "d") way) ∷ Fixed (codes "/>\n") ∷ [])
      (classed class value around (codes "htap"), (attribute (codes "d") way (λ around name. refl) along around (codes "htap"), tt));
}

pub point-value : (letter : Text) (x y : ℕ) → Value letter → Value (point_text letter x y)
point-value letter x y value = record {
  reads = λ around name. through
      (around, Quoted name) (Stays letter ∷ Stays (decimal x) ∷ Fixed (codes " ") ∷ Stays (decimal y) ∷ [])
      (value.reads around name, ((decimal-value x).reads around name, ((decimal-value y).reads around name, tt)));
}

pub stretch-value : (letter : Text) (n : ℕ) → Value letter → Value (stretch_text letter n)
stretch-value letter n value = value-both letter (decimal n) value (decimal-value n)

-- ---- figures and headings

figure-opens : (width height : ℕ) (title : Text) (around : List Text)
    → Same (read_on (around, Words) (figure_open width height title)) (codes "csed" ∷ codes "gvs" ∷ around, Words)
figure-opens width height title around = through
    (around, Words)
    (Fixed (codes "<svg viewBox=\"0 0 ") ∷ Stays (decimal width) ∷ Fixed (codes " ") ∷ Stays (decimal height)
    ∷ Fixed (codes "\" role=\"img\">\n<title>") ∷ Stays (escape title) ∷ Fixed (codes "</title>\n<desc>") ∷ []) (
      (decimal-value width).reads around (codes "gvs"),
      (
        (decimal-value height).reads around (codes "gvs"),
        ((escape-whole title).reads (codes "eltit" ∷ codes "gvs" ∷ around), tt),
      ),
    )

pub svg-whole : (width height : ℕ) (title description body : Text) → Whole body → Whole (svg_text width height title description body)
svg-whole width height title description body is = record {
  reads = λ around. through
      (around, Words)
      (Goes (figure_open width height title) (codes "csed" ∷ codes "gvs" ∷ around, Words) ∷ Stays (escape description)
      ∷ Fixed (codes "</desc>\n") ∷ Stays body ∷ Fixed (codes "</svg>\n") ∷ [])
      (figure-opens width height title around, ((escape-whole description).reads (codes "csed" ∷ codes "gvs" ∷ around), (is.reads (codes "gvs" ∷ around), tt)));
}

pub heading-whole : (name note : Text) → Whole (heading_text name note)
heading-whole name note = record {
  reads = λ around. through
      (around, Words)
      (Fixed (codes "<h3><b>") ∷ Stays (escape name) ∷ Fixed (codes "</b> ") ∷ Stays (escape note) ∷ Fixed (codes "</h3>\n") ∷ [])
      ((escape-whole name).reads (codes "b" ∷ codes "3h" ∷ around), ((escape-whole note).reads (codes "3h" ∷ around), tt));
}

pub cell-whole : (t : Text) → Whole (cell_text t)
cell-whole t = record {
  reads = λ around. through
      (around, Words) (Fixed (codes "<td>") ∷ Stays (escape t) ∷ Fixed (codes "</td>") ∷ [])
      ((escape-whole t).reads (codes "dt" ∷ around), tt);
}

pub change-whole : (t : Text) → Whole (change_item t)
change-whole t = record {
  reads = λ around. through
      (around, Words) (Fixed (codes "<p class=\"change\">") ∷ Stays (escape t) ∷ Fixed (codes "</p>\n") ∷ [])
      ((escape-whole t).reads (codes "p" ∷ around), tt);
}

pub link-whole : (n : ℕ) (inside : Text) → Whole inside → Whole (step_link n inside)
link-whole n inside is = record {
  reads = λ around. through
      (around, Words)
      (Fixed (codes "<a href=\"#d") ∷ Stays (decimal n) ∷ Fixed (codes "\">") ∷ Stays inside ∷ Fixed (codes "</a>") ∷ [])
      ((decimal-value n).reads around (codes "a"), (is.reads (codes "a" ∷ around), tt));
}
