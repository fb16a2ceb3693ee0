-- Rectangles by what is written of them.
use Rattle.rh_figure.specs.Phrases.{Text}
use Rattle.rh_sheet.specs.Markup.{Box}
use Rattle.rh_elements.specs.declared.boxes.Extent.{Extent}

-- a rectangle of a class, with a tip
abbrev pub box_at : Text → Extent → Text → Box
box_at class at tip =
    record { class = class; x = at.x; y = at.y; width = at.width; height = at.height; tip = tip }
