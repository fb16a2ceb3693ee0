-- Slides by what is written of them.
use Rattle.rh_figure.specs.Changes as changes
use Rattle.rh_elements.specs.declared.arrows.Slide.{Slide}

abbrev pub change_of : Slide → changes.Slide
change_of s = record { from = s.from; to = s.to }
