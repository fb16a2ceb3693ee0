use Rattle.rh_elements.proofs.Common.{◌≡◌, ◌/◌, Some, row_y}
use Rattle.rh_defs.specs.Pieces.{page_size}
use Rattle.rh_sheet.specs.Frames.{frame_row}
use Rattle.rh_sheet.specs.Arrows.{block_place, ghost_way, arrow_way, place_x}
use Rattle.rh_elements.proofs.ArrowLemmas.{arrow-drawn}
use Rattle.rh_elements.proofs.arrows.print_slide_arrow.Goals as goal

pub returns : goal.returns
returns g c =
    let f = c.args.frame in
    let from = block_place c.args.first.from in
    let to = block_place c.args.first.to in
    let row : frame_row f.pages (from / page_size) ≡ Some c.in-Some.r = cc in
    let behind : frame_row f.pages (to / page_size) ≡ Some c.in-Some-row_of.s = cc in
    let ghost : c.ghost_way.result ≡ ghost_way (place_x from) (row_y f c.in-Some.r) = cc in
    let way :
    c.arrow_way-way.result
    ≡ arrow_way f c.in-Some.r (place_x from) c.in-Some-row_of.s (place_x to)
    = cc in
    rw (← arrow-drawn f from to c.in-Some.r c.in-Some-row_of.s c.ghost_way.result c.arrow_way-way.result row behind ghost way)
    c.print_arrow.ensures
