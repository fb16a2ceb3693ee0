use Rattle.rh_pictures.proofs.Common.{ap, sym, ◌∙◌, scene_at}
use Rattle.rh_pictures.specs.Inner.Surveys.{is_fresh_block_of}
use Rattle.rh_pictures.proofs.walks.heap_cards.is_changed.Goals as goal

pub returns-in-Task : goal.returns-in-Task
returns-in-Task c =
    λ d. c.is_fresh_block.ensures d ∙ ap (λ h. is_fresh_block_of (scene_at d c.args.step.now) c.args.band.now.handle h c.args.address) (sym c.in-Task.is)
