use Rattle.rh_pictures.proofs.Common.{◌<◌, length, ap, sym, ◌∙◌, arith, nat_tests, flat_map, offered_as}
use Rattle.rh_figure.specs.Changes.{freed_text}
use Rattle.rh_pictures.proofs.ElementLemmas.{freed-one}
use Rattle.rh_pictures.proofs.walks.page_changes.show_freed.Goals as goal

pub returns : goal.returns
returns g c =
    let pages = c.freed_of-pages.result.now in
    let some : 0 < length pages = grind (arith, nat_tests, c.if-is_empty.false, c.is_empty.ensures) in
    let element = g.A.Artist.change_text in
    offered_as _ (ap element c.freed.ensures.value
    ∙ (sym (freed-one element pages some) ∙ ap (λ ns. flat_map element (freed_text ns)) c.freed_of-pages.ensures.value)) c.change.ensures
