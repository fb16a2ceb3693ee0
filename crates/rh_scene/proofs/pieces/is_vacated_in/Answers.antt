use Rattle.rh_scene.proofs.Common.{◌∙◌, scene_at}
use Rattle.rh_scene.proofs.SlotPieces.{vacated-is}
use Rattle.rh_scene.proofs.pieces.is_vacated_in.Goals as goal

pub returns : goal.returns
returns c = λ d.
    c.is_vacated.ensures d
    ∙ vacated-is (scene_at d c.args.step.now) c.args.drawn.now.heap c.args.drawn.now.handle c.args.address c.args.size
