-- Arrows between places that have a row.
use Rattle.rh_elements.proofs.Common.{◌≡◌, ℕ, ◌/◌, Some, refl, row_y}
use Rattle.rh_defs.specs.Pieces.{page_size}
use Rattle.rh_figure.specs.Phrases.{Text}
use Rattle.rh_sheet.specs.declared.frame.Frame.{Frame}
use Rattle.rh_sheet.specs.Frames.{frame_row}
use Rattle.rh_sheet.specs.Arrows.{place_x, ghost_way, arrow_way, arrow_text, arrow_between}

-- the frame and the way of an arrow whose places have these rows
pub arrow-drawn : (f : Frame) (from to r s : ℕ) (ghost way : Text) → frame_row f.pages (from / page_size) ≡ Some r
    → frame_row f.pages (to / page_size) ≡ Some s → ghost ≡ ghost_way (place_x from) (row_y f r)
    → way ≡ arrow_way f r (place_x from) s (place_x to)
    → arrow_text ghost way
    ≡ arrow_between f from to (frame_row f.pages (from / page_size)) (frame_row f.pages (to / page_size))
arrow-drawn f from to r s ghost way p q e w =
    let drawn :
    arrow_between f from to (Some r) (Some s)
    ≡ arrow_text (ghost_way (place_x from) (row_y f r)) (arrow_way f r (place_x from) s (place_x to))
    = refl in cc
