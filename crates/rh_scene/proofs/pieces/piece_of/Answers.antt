use Rattle.rh_scene.proofs.Common.{◌∙◌, sym, area_start_of, heap_start_of, legend_of, scene_at}
use Rattle.rh_scene.proofs.SlotPieces.{area-low, hole-is, legend-start}
use Rattle.rh_scene.proofs.pieces.piece_of.Goals as goal

pub returns-in-Hole : goal.returns-in-Hole
returns-in-Hole c = λ d place s is e.
    let x = scene_at d c.args.step.now in
    let heap = c.args.drawn.now.heap in
    let handle = c.args.drawn.now.handle in
    hole-is (legend_of x heap handle) (heap_start_of heap) (area_start_of heap) place c.in-Hole.address c.in-Hole.size s c.hole_piece.result
    (area-low heap) (legend-start x heap handle) (sym c.in-Hole.is ∙ e) (c.hole_piece.ensures d)
