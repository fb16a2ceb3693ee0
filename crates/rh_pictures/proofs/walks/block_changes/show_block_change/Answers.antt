use Rattle.rh_pictures.proofs.Common.{ap, sym, ◌∙◌, flat_map, block_change, offered_as}
use Rattle.rh_figure.specs.Changes.{new_line}
use Rattle.rh_pictures.proofs.ElementLemmas.{parts-one}
use Rattle.rh_pictures.proofs.walks.block_changes.show_block_change.Goals as goal

pub returns-in-None : goal.returns-in-None
returns-in-None g c =
    let b = c.args.block.now in
    let element = g.A.Artist.change_text in
    offered_as _ (ap element c.block_new.ensures.value ∙ (sym (parts-one element (new_line b.anchor b.size b.address))
    ∙ ap (λ o. flat_map element (block_change b o)) (sym c.in-None.is ∙ c.block.ensures))) c.change.ensures
